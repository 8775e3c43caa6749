use Rattle.std.proofs.Common.{refl, ap, sym, ◌∙◌, ◌++◌, ◌∷◌, []}
use Rattle.fixtures.proofs.Dealt.{one_dealt, made_at, all_fresh, all_one}
use Rattle.turn_tests.proofs.overlap.turns_overlap.Goals as goal

pub close-requires : goal.close-requires
close-requires g c = let one = c.in-Ok.ensures in all_fresh c.in-Ok.one c.in-Ok.ones.items one.made.0 (one.made.1 ∙ sym one.cell.1)

pub join-a-requires-after_bounds : goal.join-a-requires-after_bounds
join-a-requires-after_bounds g c κs within = let one = c.in-Ok.ensures in let two = c.in-Ok-new.ensures in
    let a = one_dealt c.in-Ok.ones.items c.take_last-a.new.self.items c.take_last-a.result c.take_last-a.ensures.items one.made.1 in
    let b = one_dealt c.in-Ok-new.twos.items c.take_last-b.new.self.items c.take_last-b.result c.take_last-b.ensures.items two.made.1 in
    ((made_at c.in-Ok.one c.in-Ok.ones.items _ one.made.0 a.1 0 c.take_last-a.result refl).0, (made_at c.in-Ok-new.two c.in-Ok-new.twos.items _ two.made.0 b.1 0 c.take_last-b.result refl).0)

pub close-requires-2 : goal.close-requires-2
close-requires-2 g c = let one = c.in-Ok.ensures in let a = c.join-a.result.0.0 in let back = c.join-a.ensures.first in
    let dealt = one_dealt c.in-Ok.ones.items c.take_last-a.new.self.items c.take_last-a.result c.take_last-a.ensures.items one.made.1 in
    all_one c.in-Ok.one c.give_back.new.passes.items a (c.give_back.ensures.items ∙ ap (λ x. x ++ a ∷ []) dealt.0) one.cell.1 (back.0, back.1 ∙ (made_at c.in-Ok.one c.in-Ok.ones.items _ one.made.0 dealt.1 0 c.take_last-a.result refl).1.0)

pub close-requires-3 : goal.close-requires-3
close-requires-3 g c = let two = c.in-Ok-new.ensures in let b = c.join-a.result.1.0 in let back = c.join-a.ensures.second in
    let dealt = one_dealt c.in-Ok-new.twos.items c.take_last-b.new.self.items c.take_last-b.result c.take_last-b.ensures.items two.made.1 in
    all_one c.in-Ok-new.two c.give_back-2.new.passes.items b (c.give_back-2.ensures.items ∙ ap (λ x. x ++ b ∷ []) dealt.0) two.cell.1 (back.0, back.1 ∙ (made_at c.in-Ok-new.two c.in-Ok-new.twos.items _ two.made.0 dealt.1 0 c.take_last-b.result refl).1.0)
