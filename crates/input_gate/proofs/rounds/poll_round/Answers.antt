use Rattle.std.proofs.Common.{rules, ◌≡◌, ◌∙◌, length, sym, subst, refl, arith, Ok}
use Rattle.input_gate.specs.declared.gate.GateItem.TheVariants as items
use Rattle.input_gate.specs.Gates.{Ended}
use Rattle.input_gate.specs.Channels.{account_of, CameAt}
use Rattle.input_gate.proofs.RoundLaws.{quiet_later, later_on, quiet_all, quiet_length, quiet_on, quiet_cells, up_of, gave_on, most_on}
use Rattle.input_gate.proofs.SegmentLaws.{even_refl, even_then}
use Rattle.input_gate.proofs.rounds.poll_round.Goals as goal

pub loop-turn-init : goal.loop-turn-init
loop-turn-init g c = record { lanes = c.requires.lanes; quiet = quiet_all c.args.lanes.now.items; lender = c.requires.lender; same = refl; spare = c.requires.spare; segments = even_refl _ _ _ }

pub step_at-requires-clause-within : goal.step_at-requires-clause-within
step_at-requires-clause-within g c =
    let same = quiet_length c.args.lanes.now.items c.loop-turn.lanes.items c.loop-turn.invariant.quiet in
    let here = c.within-here.ensures in
    let count : c.len-count.result ≡ length c.args.lanes.now.items = search rules in
    omega (arith, same, here, count)

pub step_at-requires-clause-most : goal.step_at-requires-clause-most
step_at-requires-clause-most g c is = most_on c.args.lanes.now.items c.loop-turn.lanes.items c.args.most c.loop-turn.invariant.quiet (c.requires.most is)

pub loop-turn-preserved : goal.loop-turn-preserved
loop-turn-preserved g c = record {
  lanes = search (rules, c.step_at.ensures.lanes, c.loop-turn.invariant.same);
  quiet = quiet_on c.args.lanes.now.items c.loop-turn.lanes.items c.step_at.new.lanes.items c.loop-turn.invariant.quiet (subst (λ step. CameAt c.args.hold c.within-here.result c.loop-turn.lanes.items (Ok step) c.step_at.new.lanes.items) c.in-Ok-Nothing.field-0-is c.in-Ok-Nothing.ensures.came);
  lender = c.step_at.ensures.lender.0;
  same = c.step_at.ensures.lender.1 ∙ c.loop-turn.invariant.same;
  spare = c.in-Ok-Nothing.ensures.spare;
  segments = even_then c.loop-turn.invariant.segments c.step_at.ensures.segments;
}

pub returns-in-Ok-Found-clause-came : goal.returns-in-Ok-Found-clause-came
returns-in-Ok-Found-clause-came g c = quiet_on c.args.lanes.now.items c.loop-turn.lanes.items c.step_at.new.lanes.items c.loop-turn.invariant.quiet (subst (λ step. CameAt c.args.hold c.within-here.result c.loop-turn.lanes.items (Ok step) c.step_at.new.lanes.items) c.in-Ok-Found.field-0-is c.in-Ok-Found.ensures.came)

pub returns-in-Ok-Found-clause-cells : goal.returns-in-Ok-Found-clause-cells
returns-in-Ok-Found-clause-cells g c = c.step_at.ensures.cells ∙ quiet_cells c.args.lanes.now.items c.loop-turn.lanes.items c.loop-turn.invariant.quiet

pub returns-in-Ok-Barrier-clause-came : goal.returns-in-Ok-Barrier-clause-came
returns-in-Ok-Barrier-clause-came g c = gave_on c.args.lanes.now.items c.loop-turn.lanes.items c.step_at.new.lanes.items c.args.hold (items.Barrier c.within-here.result c.in-Ok-Barrier.k c.in-Ok-Barrier.kind) c.loop-turn.invariant.quiet (subst (λ step. CameAt c.args.hold c.within-here.result c.loop-turn.lanes.items (Ok step) c.step_at.new.lanes.items) c.in-Ok-Barrier.field-0-is c.in-Ok-Barrier.ensures.came)

pub returns-in-Ok-Barrier-clause-cells : goal.returns-in-Ok-Barrier-clause-cells
returns-in-Ok-Barrier-clause-cells g c = c.step_at.ensures.cells ∙ quiet_cells c.args.lanes.now.items c.loop-turn.lanes.items c.loop-turn.invariant.quiet

pub returns-in-Err-clause-came : goal.returns-in-Err-clause-came
returns-in-Err-clause-came g c = up_of c.args.lanes.now.items c.loop-turn.lanes.items c.step_at.new.lanes.items c.end_of.result c.loop-turn.invariant.quiet c.in-Err.ensures.came.0
    (subst (Ended (account_of c.loop-turn.lanes.items) (account_of c.step_at.new.lanes.items)) (sym c.end_of.ensures.end) c.in-Err.ensures.came.1) c.end_of.ensures.own

pub returns-in-Err-clause-cells : goal.returns-in-Err-clause-cells
returns-in-Err-clause-cells g c = c.step_at.ensures.cells ∙ quiet_cells c.args.lanes.now.items c.loop-turn.lanes.items c.loop-turn.invariant.quiet

pub returns-clause-cells : goal.returns-clause-cells
returns-clause-cells g c = quiet_cells c.args.lanes.now.items c.loop-turn.lanes.items c.loop-turn.invariant.quiet

pub returns-in-Ok-Found-clause-segments : goal.returns-in-Ok-Found-clause-segments
returns-in-Ok-Found-clause-segments g c = even_then c.loop-turn.invariant.segments c.step_at.ensures.segments

pub returns-in-Ok-Barrier-clause-segments : goal.returns-in-Ok-Barrier-clause-segments
returns-in-Ok-Barrier-clause-segments g c = even_then c.loop-turn.invariant.segments c.step_at.ensures.segments

pub returns-in-Err-clause-segments : goal.returns-in-Err-clause-segments
returns-in-Err-clause-segments g c = even_then c.loop-turn.invariant.segments c.step_at.ensures.segments

pub returns-in-Ok-Found-clause-later : goal.returns-in-Ok-Found-clause-later
returns-in-Ok-Found-clause-later g c = later_on c.args.lanes.now.items c.loop-turn.lanes.items c.step_at.new.lanes.items (quiet_later c.args.lanes.now.items c.loop-turn.lanes.items c.loop-turn.invariant.quiet) c.step_at.ensures.later

pub returns-in-Ok-Barrier-clause-later : goal.returns-in-Ok-Barrier-clause-later
returns-in-Ok-Barrier-clause-later g c = later_on c.args.lanes.now.items c.loop-turn.lanes.items c.step_at.new.lanes.items (quiet_later c.args.lanes.now.items c.loop-turn.lanes.items c.loop-turn.invariant.quiet) c.step_at.ensures.later

pub returns-in-Err-clause-later : goal.returns-in-Err-clause-later
returns-in-Err-clause-later g c = later_on c.args.lanes.now.items c.loop-turn.lanes.items c.step_at.new.lanes.items (quiet_later c.args.lanes.now.items c.loop-turn.lanes.items c.loop-turn.invariant.quiet) c.step_at.ensures.later

pub returns-clause-later : goal.returns-clause-later
returns-clause-later g c = quiet_later c.args.lanes.now.items c.loop-turn.lanes.items c.loop-turn.invariant.quiet
