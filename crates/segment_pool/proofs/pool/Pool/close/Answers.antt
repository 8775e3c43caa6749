use Rattle.std.proofs.Common.{◌≡◌, ◌-◌, ◌^◌, ◌<◌, ◌≤◌, ◌⊎◌, inl, inr, ℕ, min, length, refl, sym, ap, ◌∙◌, arith, subst}
use Rattle.std.specs.List.{sum_by}
use Rattle.std.proofs.lemmas.Bool.{false≢true}
use Rattle.turn_cell.specs.Closing.{AreAll}
use Rattle.segment_pool.specs.Passes.{out}
use Rattle.segment_pool.proofs.Dealt.{all_at, held_is_out, inner_are_all, none_in_sum, out_is_few, sum_none}
use Rattle.segment_pool.proofs.pool.Pool.close.Goals as goal

pub returns-then-lent-self-clause-exact : goal.returns-then-lent-self-clause-exact
returns-then-lent-self-clause-exact c =
    let held = ap (sum_by (λ pass. pass.held)) c.as_slice.ensures ∙ held_is_out c.args.self.cell c.args.passes.items c.requires.1 in let sum = c.lent_by-lent.ensures in
    let some = c.if-lent-gt0.true in let few = c.if-lent-self.true in let legal = c.args.self.legal.0.1 in
    (λ _. omega arith, λ _. refl)

pub returns-then-lent-self-clause-none_out : goal.returns-then-lent-self-clause-none_out
returns-then-lent-self-clause-none_out c =
    let held = ap (sum_by (λ pass. pass.held)) c.as_slice.ensures ∙ held_is_out c.args.self.cell c.args.passes.items c.requires.1 in let sum = c.lent_by-lent.ensures in
    let some = c.if-lent-gt0.true in let few = c.if-lent-self.true in let legal = c.args.self.legal.0.1 in
    (λ ok. absurd (false≢true ok), λ none. let zero = sum_none out c.args.passes.items none in absurd (omega arith))

pub returns-then-lent-self-clause-still_lent : goal.returns-then-lent-self-clause-still_lent
returns-then-lent-self-clause-still_lent c =
    let held = ap (sum_by (λ pass. pass.held)) c.as_slice.ensures ∙ held_is_out c.args.self.cell c.args.passes.items c.requires.1 in let sum = c.lent_by-lent.ensures in
    let some = c.if-lent-gt0.true in let few = c.if-lent-self.true in let legal = c.args.self.legal.0.1 in
    (refl, refl, omega arith)

pub gathered-requires-clause-new : goal.gathered-requires-clause-new
gathered-requires-clause-new c = all_at (λ pass. length pass.places.items ≡ 0) c.args.passes.items (λ k pass at. (c.requires.1 k pass at).0.2.0)

pub gathered-requires-clause-places : goal.gathered-requires-clause-places
gathered-requires-clause-places c = λ pass at. let one = c.requires.1 0 pass at in let room = one.0.2.1 one.1 in let count = c.requires.0 in omega arith

pub close-requires : goal.close-requires
close-requires c = subst (AreAll c.args.self.cell) (sym c.gathered.ensures) (inner_are_all c.args.self.cell c.args.passes.items c.requires.0 c.requires.1)

none_is_out : (sum lent total : ℕ) → lent ≡ min sum (2 ^ 32 - 1) → ((0 < lent) × (total < lent)) ⊎ (lent ≤ 0) → sum ≤ total → total ≤ 16384 → sum ≡ 0
none_is_out sum lent total is (inl both) few legal = let h = both.1 in absurd (omega arith)
none_is_out sum lent total is (inr none) few legal = omega arith

pub returns-clause-exact : goal.returns-clause-exact
returns-clause-exact c =
    let cell = c.args.self.cell in let passes = c.args.passes.items in
    let held = ap (sum_by (λ pass. pass.held)) c.as_slice.ensures ∙ held_is_out cell passes c.requires.1 in
    let few = out_is_few cell passes c.gathered.result.items c.gathered.ensures c.close.result c.close.ensures in let total = c.args.self.same_total in
    let zero = none_is_out (sum_by out passes) c.lent_by-lent.result c.args.self.total (c.lent_by-lent.ensures ∙ ap (λ n. min n (2 ^ 32 - 1)) held) c.else-lent-gt0.either (omega arith) c.args.self.legal.0.1 in
    (λ err. absurd (false≢true err), λ some. absurd (omega arith))

pub returns-clause-none_out : goal.returns-clause-none_out
returns-clause-none_out c =
    let cell = c.args.self.cell in let passes = c.args.passes.items in
    let held = ap (sum_by (λ pass. pass.held)) c.as_slice.ensures ∙ held_is_out cell passes c.requires.1 in
    let few = out_is_few cell passes c.gathered.result.items c.gathered.ensures c.close.result c.close.ensures in let total = c.args.self.same_total in
    let zero = none_is_out (sum_by out passes) c.lent_by-lent.result c.args.self.total (c.lent_by-lent.ensures ∙ ap (λ n. min n (2 ^ 32 - 1)) held) c.else-lent-gt0.either (omega arith) c.args.self.legal.0.1 in
    (λ _. none_in_sum out passes zero, λ _. refl)
