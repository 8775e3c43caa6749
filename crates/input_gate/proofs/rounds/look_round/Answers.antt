use Rattle.std.proofs.Common.{rules, ◌<◌, ◌≤◌, ◌∙◌, length, arith}
use Rattle.flow_defs.specs.declared.task.BarrierKind.TheVariants.{Front}
use Rattle.input_gate.specs.declared.gate.GateItem.TheVariants as items
use Rattle.input_gate.proofs.RoundLaws.{quiet_later, later_on, quiet_all, quiet_length, quiet_on, quiet_cells, gave_on, most_on, looked_more}
use Rattle.input_gate.proofs.SegmentLaws.{untouched_all, untouched_then}
use Rattle.input_gate.proofs.rounds.look_round.Goals as goal

pub loop-i-init : goal.loop-i-init
loop-i-init g c = record { within = omega arith; lanes = λ size h. h; quiet = quiet_all c.args.lanes.now.items; spare = c.requires.spare; below = λ d low. absurd (omega (arith, low)); segments = untouched_all c.args.lanes.now.items }

pub look_at-requires-clause-within : goal.look_at-requires-clause-within
look_at-requires-clause-within g c =
    let same = quiet_length c.args.lanes.now.items c.loop-i.lanes.items c.loop-i.invariant.quiet in
    let low : c.loop-i.i < length c.args.lanes.now.items = search rules in
    omega (arith, same, low)

pub look_at-requires-clause-lanes : goal.look_at-requires-clause-lanes
look_at-requires-clause-lanes g c = (c.requires.lanes.0, c.loop-i.invariant.lanes c.requires.lanes.0 c.requires.lanes.1)

pub look_at-requires-clause-most : goal.look_at-requires-clause-most
look_at-requires-clause-most g c is = most_on c.args.lanes.now.items c.loop-i.lanes.items c.args.most c.loop-i.invariant.quiet (c.requires.most is)

pub loop-i-preserved : goal.loop-i-preserved
loop-i-preserved g c =
    let low : c.loop-i.i < length c.args.lanes.now.items = search rules in
    record {
      within = omega (arith, low);
      lanes = λ size h. c.look_at.ensures.lanes size (c.loop-i.invariant.lanes size h);
      quiet = quiet_on c.args.lanes.now.items c.loop-i.lanes.items c.look_at.new.lanes.items c.loop-i.invariant.quiet c.in-None.ensures.came;
      spare = c.look_at.ensures.spare;
      below = looked_more c.args.hold c.args.lanes.now.items c.loop-i.lanes.items c.look_at.new.lanes.items c.loop-i.i c.loop-i.invariant.quiet c.look_at.ensures.others c.loop-i.invariant.below c.in-None.ensures.looked;
      segments = untouched_then c.args.lanes.now.items c.loop-i.lanes.items c.look_at.new.lanes.items c.loop-i.invariant.segments c.look_at.ensures.segments;
    }

pub returns-in-Some-clause-lanes : goal.returns-in-Some-clause-lanes
returns-in-Some-clause-lanes g c size h = c.look_at.ensures.lanes size (c.loop-i.invariant.lanes size h)

pub returns-in-Some-clause-came : goal.returns-in-Some-clause-came
returns-in-Some-clause-came g c = gave_on c.args.lanes.now.items c.loop-i.lanes.items c.look_at.new.lanes.items c.args.hold (items.Barrier c.loop-i.i c.in-Some.k Front) c.loop-i.invariant.quiet c.in-Some.ensures.came

pub returns-in-Some-clause-cells : goal.returns-in-Some-clause-cells
returns-in-Some-clause-cells g c = c.look_at.ensures.cells ∙ quiet_cells c.args.lanes.now.items c.loop-i.lanes.items c.loop-i.invariant.quiet

pub returns-clause-looked : goal.returns-clause-looked
returns-clause-looked g c d low = let e : length c.args.lanes.now.items ≤ c.loop-i.i = search rules in c.loop-i.invariant.below d (omega (arith, low, e))

pub returns-clause-cells : goal.returns-clause-cells
returns-clause-cells g c = quiet_cells c.args.lanes.now.items c.loop-i.lanes.items c.loop-i.invariant.quiet

pub returns-in-Some-clause-segments : goal.returns-in-Some-clause-segments
returns-in-Some-clause-segments g c = untouched_then c.args.lanes.now.items c.loop-i.lanes.items c.look_at.new.lanes.items c.loop-i.invariant.segments c.look_at.ensures.segments

pub returns-in-Some-clause-later : goal.returns-in-Some-clause-later
returns-in-Some-clause-later g c = later_on c.args.lanes.now.items c.loop-i.lanes.items c.look_at.new.lanes.items (quiet_later c.args.lanes.now.items c.loop-i.lanes.items c.loop-i.invariant.quiet) c.look_at.ensures.later

pub returns-clause-later : goal.returns-clause-later
returns-clause-later g c = quiet_later c.args.lanes.now.items c.loop-i.lanes.items c.loop-i.invariant.quiet
