use Rattle.std.proofs.Common.{rules, ◌≡◌, length, sym, subst, arith}
use Rattle.input_gate.specs.Gates.{Ended}
use Rattle.input_gate.specs.Channels.{account_of}
use Rattle.input_gate.proofs.RoundLaws.{quiet_all, quiet_length, quiet_on, up_of}
use Rattle.input_gate.proofs.SegmentLaws.{untouched_all, untouched_then}
use Rattle.input_gate.proofs.rounds.find_line.Goals as goal

pub loop-turn-init : goal.loop-turn-init
loop-turn-init c = record { lanes = λ size h. h; quiet = quiet_all c.args.lanes.now.items; spare = c.requires.spare; segments = untouched_all c.args.lanes.now.items }

pub prepare_at-requires-clause-within : goal.prepare_at-requires-clause-within
prepare_at-requires-clause-within c =
    let same = quiet_length c.args.lanes.now.items c.loop-turn.lanes.items c.loop-turn.invariant.quiet in
    let here = c.within-here.ensures in
    let count : c.len-count.result ≡ length c.args.lanes.now.items = search rules in
    omega (arith, same, here, count)

pub prepare_at-requires-clause-lanes : goal.prepare_at-requires-clause-lanes
prepare_at-requires-clause-lanes c = (c.requires.lanes.0, c.loop-turn.invariant.lanes c.requires.lanes.0 c.requires.lanes.1)

pub loop-turn-preserved : goal.loop-turn-preserved
loop-turn-preserved c = record {
  lanes = λ size h. c.prepare_at.ensures.lanes size (c.loop-turn.invariant.lanes size h);
  quiet = quiet_on c.args.lanes.now.items c.loop-turn.lanes.items c.prepare_at.new.lanes.items c.loop-turn.invariant.quiet c.prepare_at.ensures.quiet;
  spare = c.prepare_at.ensures.spare;
  segments = untouched_then c.args.lanes.now.items c.loop-turn.lanes.items c.prepare_at.new.lanes.items c.loop-turn.invariant.segments c.prepare_at.ensures.segments;
}

pub returns-in-Ok-true-clause-lanes : goal.returns-in-Ok-true-clause-lanes
returns-in-Ok-true-clause-lanes c size h = c.prepare_at.ensures.lanes size (c.loop-turn.invariant.lanes size h)

pub returns-in-Ok-true-clause-quiet : goal.returns-in-Ok-true-clause-quiet
returns-in-Ok-true-clause-quiet c = quiet_on c.args.lanes.now.items c.loop-turn.lanes.items c.prepare_at.new.lanes.items c.loop-turn.invariant.quiet c.prepare_at.ensures.quiet

pub returns-in-Err-clause-lanes : goal.returns-in-Err-clause-lanes
returns-in-Err-clause-lanes c size h = c.prepare_at.ensures.lanes size (c.loop-turn.invariant.lanes size h)

pub returns-in-Err-clause-quiet : goal.returns-in-Err-clause-quiet
returns-in-Err-clause-quiet c = quiet_on c.args.lanes.now.items c.loop-turn.lanes.items c.prepare_at.new.lanes.items c.loop-turn.invariant.quiet c.prepare_at.ensures.quiet

pub returns-in-Err-clause-err : goal.returns-in-Err-clause-err
returns-in-Err-clause-err c = up_of c.args.lanes.now.items c.loop-turn.lanes.items c.prepare_at.new.lanes.items c.end_of.result c.loop-turn.invariant.quiet c.prepare_at.ensures.quiet
    (subst (Ended (account_of c.loop-turn.lanes.items) (account_of c.prepare_at.new.lanes.items)) (sym c.end_of.ensures.end) c.in-Err.ensures.fault) c.end_of.ensures.own

pub returns-in-Ok-true-clause-segments : goal.returns-in-Ok-true-clause-segments
returns-in-Ok-true-clause-segments c = untouched_then c.args.lanes.now.items c.loop-turn.lanes.items c.prepare_at.new.lanes.items c.loop-turn.invariant.segments c.prepare_at.ensures.segments

pub returns-in-Err-clause-segments : goal.returns-in-Err-clause-segments
returns-in-Err-clause-segments c = untouched_then c.args.lanes.now.items c.loop-turn.lanes.items c.prepare_at.new.lanes.items c.loop-turn.invariant.segments c.prepare_at.ensures.segments
