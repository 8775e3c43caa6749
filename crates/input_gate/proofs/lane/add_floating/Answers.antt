use Rattle.std.proofs.Common.{rules}
use Rattle.input_gate.proofs.LaneLaws.{idle_refl, idle_then, idle_added, idle_same}
use Rattle.input_gate.specs.Segments.{told_by_lender, freed_by, added_by}
use Rattle.input_gate.proofs.SegmentLaws.{even_refl, even_then, even_added, even_back}
use Rattle.input_gate.proofs.lane.add_floating.Goals as goal

pub loop-want-init : goal.loop-want-init
loop-want-init g c = record { pass = c.requires.pass; idle = idle_refl c.args.pass.now; lender = c.requires.lender; same = search rules; segments = even_refl (told_by_lender c.args.lender.now) (freed_by c.args.pass.now) (added_by c.args.pass.now) }

pub returns-in-Some-add_in_turn-clause-idle : goal.returns-in-Some-add_in_turn-clause-idle
returns-in-Some-add_in_turn-clause-idle g c =
    let e = c.in-Some-add_in_turn.ensures in
    idle_then c.args.pass.now c.loop-want.pass c.add_in_turn.new.pass c.loop-want.invariant.idle (idle_same c.loop-want.pass c.add_in_turn.new.pass e.later e.given e.added.0)

pub loop-want-preserved : goal.loop-want-preserved
loop-want-preserved g c =
    let e = c.in_default-add_in_turn.ensures in
    record {
      pass = c.add_in_turn.ensures.pass;
      idle = idle_then c.args.pass.now c.loop-want.pass c.add_in_turn.new.pass c.loop-want.invariant.idle (idle_added c.loop-want.pass c.add_in_turn.new.pass c.add_in_turn.ensures.later c.add_in_turn.ensures.given e.added);
      lender = search rules;
      same = search rules;
      segments = even_then c.loop-want.invariant.segments (even_added c.loop-want.pass c.add_in_turn.new.pass (told_by_lender c.loop-want.lender) (told_by_lender c.request.new.lender) c.in-Some.ensures.told e.added c.add_in_turn.ensures.freed);
    }

pub returns-in-Some-add_in_turn-clause-segments : goal.returns-in-Some-add_in_turn-clause-segments
returns-in-Some-add_in_turn-clause-segments g c =
    even_then c.loop-want.invariant.segments (even_back c.loop-want.pass c.add_in_turn.new.pass (told_by_lender c.loop-want.lender) (told_by_lender c.request.new.lender) (told_by_lender c.give.new.lender) c.in-Some.ensures.told c.give.ensures.told c.in-Some-add_in_turn.ensures.added.0 c.add_in_turn.ensures.freed)
