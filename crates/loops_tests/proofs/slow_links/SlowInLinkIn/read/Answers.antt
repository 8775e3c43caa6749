use Rattle.std.proofs.Common.{◌≡◌, ℕ, ◌+◌, ◌-◌, ◌≤◌, List, ◌++◌, take, drop, length, Some, arith, sym, ap, ◌∙◌}
use Rattle.std.proofs.Math.Seq.{take-add}
use Rattle.std.proofs.lemmas.List.{take_at, take_rest, length-take}
use Rattle.loops_tests.proofs.slow_links.SlowInLinkIn.read.Goals as goal

-- A front of what is left was copied to the front of the room.
gave : (items shown copied room : List ℕ) (at n : ℕ) → shown ≡ items → copied ≡ take n (take (length shown - at) (drop at shown)) → n ≤ length (take (length shown - at) (drop at shown)) →
    take (at + n) items ≡ take at items ++ take n (copied ++ drop n room)
gave items shown copied room at n same is within =
    let long : length copied ≡ n = ap length is ∙ length-take n (take (length shown - at) (drop at shown)) ∙ omega arith in
    let all : take n (drop at items) ≡ copied = ap (λ l. take n (drop at l)) (sym same) ∙ ap (take n) (sym (take_rest shown at)) ∙ sym is in
    take-add at n items ∙ ap (λ l. take at items ++ l) (all ∙ sym (take_at copied (drop n room) n long))

pub returns-else-count-eq0-clause-told : goal.returns-else-count-eq0-clause-told
returns-else-count-eq0-clause-told g c = ap Some (
    gave c.args.self.now.bytes.items c.as_slice.result.now c.copy_from_slice.new.self c.args.room.now c.args.self.now.at c.min-count.result
    c.as_slice.ensures.value c.copy_from_slice.ensures.after (omega (arith, c.min.ensures, c.min-count.ensures))
    )
