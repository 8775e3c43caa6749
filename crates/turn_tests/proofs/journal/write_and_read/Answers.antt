use Rattle.std.proofs.Common.{refl, ap, ◌∙◌, ◌++◌, ◌∷◌, []}
use Rattle.fixtures.proofs.Dealt.{one_dealt, made_at, all_one}
use Rattle.turn_tests.proofs.journal.write_and_read.Goals as goal

pub write_then_read-shown-requires : goal.write_then_read-shown-requires
write_then_read-shown-requires g c = let one = c.in-Ok.ensures in
    let dealt = one_dealt c.in-Ok.passes.items c.take_last-pass.new.self.items c.take_last-pass.result c.take_last-pass.ensures.items one.made.1 in
    (made_at c.in-Ok.cell c.in-Ok.passes.items _ one.made.0 dealt.1 0 c.take_last-pass.result refl).0

pub close-requires : goal.close-requires
close-requires g c = let one = c.in-Ok.ensures in let pass = c.write_then_read-shown.new.pass in let back = c.write_then_read-shown.ensures.pass in
    let dealt = one_dealt c.in-Ok.passes.items c.take_last-pass.new.self.items c.take_last-pass.result c.take_last-pass.ensures.items one.made.1 in
    all_one c.in-Ok.cell c.give_back.new.passes.items pass (c.give_back.ensures.items ∙ ap (λ x. x ++ pass ∷ []) dealt.0) one.cell.1 (back.0, back.1 ∙ (made_at c.in-Ok.cell c.in-Ok.passes.items _ one.made.0 dealt.1 0 c.take_last-pass.result refl).1.0)
