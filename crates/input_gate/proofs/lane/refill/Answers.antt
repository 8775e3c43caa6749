use Rattle.std.proofs.Common.{rules, refl, Some}
use Rattle.input_channel.specs.declared.entry.ReceiveEntry.TheVariants.{Returned}
use Rattle.input_gate.specs.Segments.{told_by_lender}
use Rattle.input_gate.specs.Lanes.{lent_size}
use Rattle.input_gate.proofs.LaneLaws.{lane_same, out_of, lane_back}
use Rattle.input_gate.proofs.SegmentLaws.{even_then, even_returned}
use Rattle.input_gate.proofs.lane.refill.Goals as goal

pub returns-in-Err-clause-lane : goal.returns-in-Err-clause-lane
returns-in-Err-clause-lane g c =
    lane_same (lent_size c.args.lender.now) c.args.lane.now c.feed.new.reader (Some c.in-Some.buf) (search rules) (search rules) c.requires.lane

pub return_in_turn-free-requires-clause-out : goal.return_in_turn-free-requires-clause-out
return_in_turn-free-requires-clause-out g c =
    out_of (lent_size c.args.lender.now) c.args.lane.now c.in-Some.buf c.requires.lane (search rules)

pub returns-clause-lane : goal.returns-clause-lane
returns-clause-lane g c =
    let e = c.return_in_turn-free.ensures in
    lane_back (lent_size c.args.lender.now) c.args.lane.now c.in-Some.buf c.requires.lane (search rules) c.feed.new.reader (search rules) c.return_in_turn-free.new.pass c.add_floating.new.pass
    c.add_floating.ensures.pass e.later e.given e.entered c.add_floating.ensures.idle c.take.new.self (search rules)

pub returns-clause-segments : goal.returns-clause-segments
returns-clause-segments g c =
    let e = c.return_in_turn-free.ensures in
    even_then (even_returned c.args.lane.now.pass c.return_in_turn-free.new.pass c.return_in_turn-free.result.0 (Returned c.in-Some.buf.exclusive) refl (told_by_lender c.args.lender.now) (told_by_lender c.give_free.new.lender) c.give_free.ensures.told e.entered e.freed) c.add_floating.ensures.segments
