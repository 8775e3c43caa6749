use Rattle.std.proofs.Common.{refl, ap, ◌∙◌}
use Rattle.fixtures.proofs.Dealt.{two_dealt, two_back, made_at, all_two}
use Rattle.turn_tests.proofs.journal.write_and_meet.Goals as goal

pub write_then_meet-shown-requires : goal.write_then_meet-shown-requires
write_then_meet-shown-requires g c =
    let cell = c.in-Ok.cell in let ps = c.in-Ok.passes.items in let a = c.take_last-writer.result in let b = c.take_last-reader.result in
    let dealt = two_dealt ps c.take_last-reader.new.self.items c.take_last-writer.new.self.items a b c.take_last-reader.ensures.items c.take_last-writer.ensures.items c.in-Ok.ensures.made.1 in
    ((made_at cell ps _ c.in-Ok.ensures.made.0 dealt.1 0 a refl).0, (made_at cell ps _ c.in-Ok.ensures.made.0 dealt.1 1 b refl).0)

pub close-requires : goal.close-requires
close-requires g c =
    let cell = c.in-Ok.cell in let ps = c.in-Ok.passes.items in let a = c.take_last-writer.result in let b = c.take_last-reader.result in
    let dealt = two_dealt ps c.take_last-reader.new.self.items c.take_last-writer.new.self.items a b c.take_last-reader.ensures.items c.take_last-writer.ensures.items c.in-Ok.ensures.made.1 in
    let writer = c.write_then_meet-shown.new.writer in let reader = c.write_then_meet-shown.new.reader in
    let back = two_back c.take_last-writer.new.self.items c.give_back.new.passes.items c.give_back-2.new.passes.items writer reader dealt.0 c.give_back.ensures.items c.give_back-2.ensures.items in
    let made = made_at cell ps _ c.in-Ok.ensures.made.0 dealt.1 in let one = c.write_then_meet-shown.ensures in
    all_two cell c.give_back-2.new.passes.items writer reader back c.in-Ok.ensures.cell.1 (one.writer.0, one.writer.1 ∙ (made 0 a refl).1.0) (one.reader.0, one.reader.1 ∙ (made 1 b refl).1.0)
