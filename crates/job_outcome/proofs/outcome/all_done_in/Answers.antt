use Rattle.std.proofs.Common.{◌≡◌, ℕ, true, false, Some, slice_get, refl, subst, sym, ◌∙◌, arith, inl, inr}
use Rattle.std.proofs.lemmas.Bool.{cases_lt}
use Rattle.std.proofs.lemmas.Option.{slice_get_within}
use Rattle.conn_parts.proofs.Lists.{get_is}
use Rattle.flow_defs.specs.declared.cause.Cause.TheVariants.{Done}
use Rattle.job_outcome.proofs.Places.{same_some}
use Rattle.job_outcome.proofs.outcome.all_done_in.Goals as goal

pub loop-place-preserved : goal.loop-place-preserved
loop-place-preserved g c = λ k place before at. elim (cases_lt k c.loop-place.place-index) [
  | inl low ↦ c.loop-place.invariant k place low at
  | inr behind ↦
      let same : c.loop-place.place-index ≡ k = omega (arith, before, behind) in
      let here = get_is c.args.row.now c.loop-place.place-index c.place-item.result c.loop-place-test.true c.place-item.is in
      let is = same_some (slice_get c.args.row.now k) c.place-item.result place (subst (λ (j : ℕ). slice_get c.args.row.now j ≡ Some c.place-item.result) same here) at in
      subst (λ (p : g.row.P.Denot). g.P.Ends.cause_in p ≡ Some Done) is (c.is_done.ensures.0 c.if-not-is_done.false)
]

pub returns-then-not-is_done : goal.returns-then-not-is_done
returns-then-not-is_done g c =
    let at = get_is c.args.row.now c.loop-place.place-index c.place-item.result c.loop-place-test.true c.place-item.is in (
      (λ no. absurd (let e : false ≡ true = no in let never : ⊥ = cc in never)),
      (λ all. sym c.if-not-is_done.true ∙ c.is_done.ensures.1 (all c.loop-place.place-index c.place-item.result at)),
    )

pub returns : goal.returns
returns g c = (
  (λ is i place at.
      let low = slice_get_within c.args.row.now i place at in
      c.loop-place.invariant i place (omega (arith, low, c.loop-place-test.false)) at),
  (λ all. refl),
)
