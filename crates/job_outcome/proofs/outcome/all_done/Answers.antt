use Rattle.std.proofs.Common.{◌≡◌, ◌<◌, ℕ, true, false, Some, slice_get, get_or, List, length, refl, subst, sym, ◌∙◌, arith, inl, inr}
use Rattle.std.proofs.lemmas.Bool.{cases_lt}
use Rattle.std.proofs.lemmas.Option.{slice_get_within}
use Rattle.conn_parts.proofs.Lists.{get_is}
use Rattle.flow_defs.specs.Items.{Items}
use Rattle.job_outcome.specs.Outcomes.{StandsAt}
use Rattle.job_outcome.proofs.Places.{same_some}
use Rattle.job_outcome.proofs.outcome.all_done.Goals as goal

-- What stands in a row stands in the list that is found at its place.
there : {A : Type 0} (rows : List (Items A)) {n s i : ℕ} {place : A} (row : Items A) → n < length rows → row ≡ get_or rows n row → n ≡ s → StandsAt rows s i place → slice_get row.items i ≡ Some place
there {A} rows {n} {s} {i} {place} row low is same stands =
    let at = get_is rows n row low is in
    let here : row ≡ stands.row = same_some (slice_get rows s) row stands.row (subst (λ (k : ℕ). slice_get rows k ≡ Some row) same at) stands.row_is in
    subst (λ (r : Items A). slice_get r.items i ≡ Some place) (sym here) stands.place_is

pub loop-row-preserved : goal.loop-row-preserved
loop-row-preserved g c = λ s i place low stands. elim (cases_lt s c.loop-row.row-index) [
  | inl before ↦ c.loop-row.invariant s i place before stands
  | inr behind ↦
      let same : c.loop-row.row-index ≡ s = omega (arith, low, behind) in
      let at = there c.args.rows.now c.row-item.result c.loop-row-test.true c.row-item.is same stands in
      c.all_done_in.ensures.0 c.if-not-all_done_in.false i place (subst (λ (xs : List g.row.P.Denot). slice_get xs i ≡ Some place) (sym c.as_slice.ensures) at)
]

pub returns-then-not-all_done_in : goal.returns-then-not-all_done_in
returns-then-not-all_done_in g c = (
  (λ no. absurd (let e : false ≡ true = no in let never : ⊥ = cc in never)),
  (λ all. sym c.if-not-all_done_in.true ∙ c.all_done_in.ensures.1 (λ i place at. all c.loop-row.row-index i place (record {
    row = c.row-item.result;
    row_is = get_is c.args.rows.now c.loop-row.row-index c.row-item.result c.loop-row-test.true c.row-item.is;
    place_is = subst (λ (xs : List g.row.P.Denot). slice_get xs i ≡ Some place) c.as_slice.ensures at;
  }))),
)

pub returns : goal.returns
returns g c = (
  (λ is s i place stands.
      let low = slice_get_within c.args.rows.now s stands.row stands.row_is in
      c.loop-row.invariant s i place (omega (arith, low, c.loop-row-test.false)) stands),
  (λ all. refl),
)
