use Rattle.std.proofs.Common.{refl}
use Rattle.fixtures.proofs.Dealt.{two_dealt, made_at}
use Rattle.loops_tests.proofs.reader_state_tests.take_turns.Goals as goal

pub ask-requires : goal.ask-requires
ask-requires g c =
    let ps = c.args.passes.items in let a = c.take_last-writer.result in let b = c.take_last-reader.result in
    let dealt = two_dealt ps c.take_last-reader.new.self.items c.take_last-writer.new.self.items a b c.take_last-reader.ensures.items c.take_last-writer.ensures.items c.requires.passes.1 in
    let made = made_at c.args.cell ps _ c.requires.passes.0 dealt.1 1 b refl in
    (made.0, made.1.0)

pub send_end-requires-clause-pass : goal.send_end-requires-clause-pass
send_end-requires-clause-pass g c =
    let ps = c.args.passes.items in let a = c.take_last-writer.result in let b = c.take_last-reader.result in
    let dealt = two_dealt ps c.take_last-reader.new.self.items c.take_last-writer.new.self.items a b c.take_last-reader.ensures.items c.take_last-writer.ensures.items c.requires.passes.1 in
    let made = made_at c.args.cell ps _ c.requires.passes.0 dealt.1 0 a refl in
    (made.0, made.1.0)
