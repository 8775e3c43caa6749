use Rattle.std.proofs.Common.{◌≡◌, length, sym, ap, ◌∙◌, subst}
use Rattle.segment_pool.specs.Counting.{balance}
use Rattle.segment_pool.specs.Passes.{out}
use Rattle.segment_pool.specs.Places.{FirstHasPlaces}
use Rattle.segment_pool.proofs.Dealt.{all_at, length_map, new_are_fresh}
use Rattle.segment_pool.proofs.open.open.Goals as goal

pub returns-clause-made : goal.returns-clause-made
returns-clause-made c =
    let cell = c.in-Ok.cell in let inner = c.in-Ok.inner.items in let passes = c.passes_of-all.result.items in let all = c.passes_of-all.ensures in
    let made = c.in-Ok.ensures.made in let count = made.1 ∙ sym c.in-Ok.ensures.cell.1 in
    let fresh = new_are_fresh cell inner passes all.inner all.new (subst (λ n. FirstHasPlaces n passes) count all.places) made.0 in (
      (sym (length_map (λ p. p.pass) passes) ∙ (ap length all.inner ∙ count), λ k pass at. (fresh k pass at).0),
      λ k pass at. let one = fresh k pass at in (one.1, one.2),
    )

pub returns-clause-none_out : goal.returns-clause-none_out
returns-clause-none_out c =
    let cell = c.in-Ok.cell in let inner = c.in-Ok.inner.items in let passes = c.passes_of-all.result.items in let all = c.passes_of-all.ensures in
    let made = c.in-Ok.ensures.made in let count = made.1 ∙ sym c.in-Ok.ensures.cell.1 in
    let fresh = new_are_fresh cell inner passes all.inner all.new (subst (λ n. FirstHasPlaces n passes) count all.places) made.0 in
    all_at (λ pass. out pass ≡ 0) passes (λ k pass at. ap balance (fresh k pass at).2)
