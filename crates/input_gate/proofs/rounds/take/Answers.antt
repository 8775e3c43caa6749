use Rattle.std.proofs.Common.{◌<◌, ◌∙◌, length, subst, arith, Ok}
use Rattle.flow_defs.specs.declared.task.BarrierKind.TheVariants.{Front}
use Rattle.input_gate.specs.declared.gate.GateItem.TheVariants as items
use Rattle.input_gate.specs.Channels.{CameRound}
use Rattle.input_gate.specs.Lanes.{lent_size}
use Rattle.input_gate.proofs.RoundLaws.{quiet_later, later_on, later_same, quiet_length, quiet_on, quiet_cells, up_then, gave_on, most_on, looked_through}
use Rattle.input_gate.proofs.SegmentLaws.{even_then, untouched_then, all_untouched}
use Rattle.input_gate.proofs.rounds.take.Goals as goal

pub look_round-requires-clause-few : goal.look_round-requires-clause-few
look_round-requires-clause-few g c = let same = quiet_length c.args.lanes.now.items c.find_line.new.lanes.items c.find_line.ensures.quiet in let few = c.requires.few in omega (arith, same, few)

pub look_round-requires-clause-lanes : goal.look_round-requires-clause-lanes
look_round-requires-clause-lanes g c = (lent_size c.args.lender.now, c.find_line.ensures.lanes _ c.requires.lanes)

pub look_round-requires-clause-most : goal.look_round-requires-clause-most
look_round-requires-clause-most g c is = most_on c.args.lanes.now.items c.find_line.new.lanes.items c.args.most c.find_line.ensures.quiet (c.requires.most is)

pub returns-in-Some-clause-lanes : goal.returns-in-Some-clause-lanes
returns-in-Some-clause-lanes g c = c.look_round.ensures.lanes _ (c.find_line.ensures.lanes _ c.requires.lanes)

pub returns-in-Some-clause-took : goal.returns-in-Some-clause-took
returns-in-Some-clause-took g c = (gave_on c.args.lanes.now.items c.find_line.new.lanes.items c.look_round.new.lanes.items c.args.hold (items.Barrier c.in-Some.channel c.in-Some.k Front) c.find_line.ensures.quiet c.in-Some.ensures.came, tt)

pub returns-in-Some-clause-cells : goal.returns-in-Some-clause-cells
returns-in-Some-clause-cells g c = c.look_round.ensures.cells ∙ quiet_cells c.args.lanes.now.items c.find_line.new.lanes.items c.find_line.ensures.quiet

pub line_at-requires-clause-within : goal.line_at-requires-clause-within
line_at-requires-clause-within g c =
    let at = subst (λ found. Rattle.std.specs.Prelude.IfSome found (λ at. at < length c.args.lanes.now.items)) c.in-Ok-Some.field-0-is c.in-Ok-Some.ensures.found in
    let one = quiet_length c.args.lanes.now.items c.find_line.new.lanes.items c.find_line.ensures.quiet in
    let two = quiet_length c.find_line.new.lanes.items c.look_round.new.lanes.items c.in_default.ensures.came in
    omega (arith, at, one, two)

pub line_at-requires-clause-lanes : goal.line_at-requires-clause-lanes
line_at-requires-clause-lanes g c = (lent_size c.args.lender.now, c.look_round.ensures.lanes _ (c.find_line.ensures.lanes _ c.requires.lanes))

pub returns-in_default-line_at-clause-lanes : goal.returns-in_default-line_at-clause-lanes
returns-in_default-line_at-clause-lanes g c = c.line_at.ensures.lanes _ (c.look_round.ensures.lanes _ (c.find_line.ensures.lanes _ c.requires.lanes))

pub poll_round-requires-clause-few : goal.poll_round-requires-clause-few
poll_round-requires-clause-few g c = let same = quiet_length c.args.lanes.now.items c.find_line.new.lanes.items c.find_line.ensures.quiet in let few = c.requires.few in omega (arith, same, few)

pub poll_round-requires-clause-lanes : goal.poll_round-requires-clause-lanes
poll_round-requires-clause-lanes g c = c.find_line.ensures.lanes _ c.requires.lanes

pub poll_round-requires-clause-most : goal.poll_round-requires-clause-most
poll_round-requires-clause-most g c is = most_on c.args.lanes.now.items c.find_line.new.lanes.items c.args.most c.find_line.ensures.quiet (c.requires.most is)

pub returns-in_default-line_at-clause-took : goal.returns-in_default-line_at-clause-took
returns-in_default-line_at-clause-took g c = quiet_on c.args.lanes.now.items c.find_line.new.lanes.items c.line_at.new.lanes.items c.find_line.ensures.quiet (quiet_on c.find_line.new.lanes.items c.look_round.new.lanes.items c.line_at.new.lanes.items c.in_default.ensures.came c.in_default-line_at.ensures.given)

pub returns-in_default-line_at-clause-cells : goal.returns-in_default-line_at-clause-cells
returns-in_default-line_at-clause-cells g c = c.line_at.ensures.cells ∙ c.look_round.ensures.cells ∙ quiet_cells c.args.lanes.now.items c.find_line.new.lanes.items c.find_line.ensures.quiet

pub returns-in-Err-clause-lanes : goal.returns-in-Err-clause-lanes
returns-in-Err-clause-lanes g c = c.find_line.ensures.lanes _ c.requires.lanes

pub returns-in-Err-clause-cells : goal.returns-in-Err-clause-cells
returns-in-Err-clause-cells g c = quiet_cells c.args.lanes.now.items c.find_line.new.lanes.items c.find_line.ensures.quiet

pub returns-in-Some-line_at-clause-lanes : goal.returns-in-Some-line_at-clause-lanes
returns-in-Some-line_at-clause-lanes g c = c.line_at.ensures.lanes _ (c.look_round.ensures.lanes _ (c.find_line.ensures.lanes _ c.requires.lanes))

pub returns-in-Some-line_at-clause-took : goal.returns-in-Some-line_at-clause-took
returns-in-Some-line_at-clause-took g c =
    let given = c.in-Some-line_at.ensures.given in
    let one = quiet_length c.args.lanes.now.items c.find_line.new.lanes.items c.find_line.ensures.quiet in (
      gave_on c.args.lanes.now.items c.look_round.new.lanes.items c.line_at.new.lanes.items c.args.hold (items.Line c.in-Ok-Some.at c.in-Some-line_at.line) (quiet_on c.args.lanes.now.items c.find_line.new.lanes.items c.look_round.new.lanes.items c.find_line.ensures.quiet c.in_default.ensures.came) (given.1, given.0),
      λ d low. looked_through c.args.hold c.args.lanes.now.items c.find_line.new.lanes.items c.look_round.new.lanes.items c.line_at.new.lanes.items c.find_line.ensures.quiet c.line_at.ensures.same d (c.in_default.ensures.looked d (omega (arith, low, one))),
    )

pub returns-in-Some-line_at-clause-cells : goal.returns-in-Some-line_at-clause-cells
returns-in-Some-line_at-clause-cells g c = c.line_at.ensures.cells ∙ c.look_round.ensures.cells ∙ quiet_cells c.args.lanes.now.items c.find_line.new.lanes.items c.find_line.ensures.quiet

pub returns-in-Err-poll_round-clause-took : goal.returns-in-Err-poll_round-clause-took
returns-in-Err-poll_round-clause-took g c = up_then c.args.lanes.now.items c.find_line.new.lanes.items c.poll_round.new.lanes.items c.in-Err-poll_round.end c.find_line.ensures.quiet c.in-Err-poll_round.ensures.came

pub returns-in-Err-poll_round-clause-cells : goal.returns-in-Err-poll_round-clause-cells
returns-in-Err-poll_round-clause-cells g c = c.poll_round.ensures.cells ∙ quiet_cells c.args.lanes.now.items c.find_line.new.lanes.items c.find_line.ensures.quiet

pub returns-in-Ok-Idle-clause-took : goal.returns-in-Ok-Idle-clause-took
returns-in-Ok-Idle-clause-took g c = quiet_on c.args.lanes.now.items c.find_line.new.lanes.items c.poll_round.new.lanes.items c.find_line.ensures.quiet (subst (λ round. CameRound c.args.hold c.find_line.new.lanes.items (Ok round) c.poll_round.new.lanes.items) c.in-Ok-Idle.field-0-is c.in-Ok-Idle.ensures.came)

pub returns-in-Ok-Idle-clause-cells : goal.returns-in-Ok-Idle-clause-cells
returns-in-Ok-Idle-clause-cells g c = c.poll_round.ensures.cells ∙ quiet_cells c.args.lanes.now.items c.find_line.new.lanes.items c.find_line.ensures.quiet

pub returns-in-Ok-Moved-clause-took : goal.returns-in-Ok-Moved-clause-took
returns-in-Ok-Moved-clause-took g c = quiet_on c.args.lanes.now.items c.find_line.new.lanes.items c.poll_round.new.lanes.items c.find_line.ensures.quiet (subst (λ round. CameRound c.args.hold c.find_line.new.lanes.items (Ok round) c.poll_round.new.lanes.items) c.in-Ok-Moved.field-0-is c.in-Ok-Moved.ensures.came)

pub returns-in-Ok-Moved-clause-cells : goal.returns-in-Ok-Moved-clause-cells
returns-in-Ok-Moved-clause-cells g c = c.poll_round.ensures.cells ∙ quiet_cells c.args.lanes.now.items c.find_line.new.lanes.items c.find_line.ensures.quiet

pub returns-in-Ok-Gave-clause-took : goal.returns-in-Ok-Gave-clause-took
returns-in-Ok-Gave-clause-took g c = (gave_on c.args.lanes.now.items c.find_line.new.lanes.items c.poll_round.new.lanes.items c.args.hold (items.Barrier c.in-Ok-Gave.channel c.in-Ok-Gave.k c.in-Ok-Gave.kind) c.find_line.ensures.quiet (subst (λ round. CameRound c.args.hold c.find_line.new.lanes.items (Ok round) c.poll_round.new.lanes.items) c.in-Ok-Gave.field-0-is c.in-Ok-Gave.ensures.came), tt)

pub returns-in-Ok-Gave-clause-cells : goal.returns-in-Ok-Gave-clause-cells
returns-in-Ok-Gave-clause-cells g c = c.poll_round.ensures.cells ∙ quiet_cells c.args.lanes.now.items c.find_line.new.lanes.items c.find_line.ensures.quiet

pub returns-in-Err-clause-segments : goal.returns-in-Err-clause-segments
returns-in-Err-clause-segments g c = all_untouched c.args.lanes.now.items c.find_line.new.lanes.items c.find_line.ensures.segments

pub returns-in-Some-clause-segments : goal.returns-in-Some-clause-segments
returns-in-Some-clause-segments g c = all_untouched c.args.lanes.now.items c.look_round.new.lanes.items (untouched_then c.args.lanes.now.items c.find_line.new.lanes.items c.look_round.new.lanes.items c.find_line.ensures.segments c.look_round.ensures.segments)

pub returns-in_default-line_at-clause-segments : goal.returns-in_default-line_at-clause-segments
returns-in_default-line_at-clause-segments g c = all_untouched c.args.lanes.now.items c.line_at.new.lanes.items (untouched_then c.args.lanes.now.items c.look_round.new.lanes.items c.line_at.new.lanes.items (untouched_then c.args.lanes.now.items c.find_line.new.lanes.items c.look_round.new.lanes.items c.find_line.ensures.segments c.look_round.ensures.segments) c.line_at.ensures.segments)

pub returns-in-Some-line_at-clause-segments : goal.returns-in-Some-line_at-clause-segments
returns-in-Some-line_at-clause-segments g c = all_untouched c.args.lanes.now.items c.line_at.new.lanes.items (untouched_then c.args.lanes.now.items c.look_round.new.lanes.items c.line_at.new.lanes.items (untouched_then c.args.lanes.now.items c.find_line.new.lanes.items c.look_round.new.lanes.items c.find_line.ensures.segments c.look_round.ensures.segments) c.line_at.ensures.segments)

pub returns-in-Err-poll_round-clause-segments : goal.returns-in-Err-poll_round-clause-segments
returns-in-Err-poll_round-clause-segments g c = even_then (all_untouched c.args.lanes.now.items c.find_line.new.lanes.items c.find_line.ensures.segments) c.poll_round.ensures.segments

pub returns-in-Ok-Idle-clause-segments : goal.returns-in-Ok-Idle-clause-segments
returns-in-Ok-Idle-clause-segments g c = even_then (all_untouched c.args.lanes.now.items c.find_line.new.lanes.items c.find_line.ensures.segments) c.poll_round.ensures.segments

pub returns-in-Ok-Moved-clause-segments : goal.returns-in-Ok-Moved-clause-segments
returns-in-Ok-Moved-clause-segments g c = even_then (all_untouched c.args.lanes.now.items c.find_line.new.lanes.items c.find_line.ensures.segments) c.poll_round.ensures.segments

pub returns-in-Ok-Gave-clause-segments : goal.returns-in-Ok-Gave-clause-segments
returns-in-Ok-Gave-clause-segments g c = even_then (all_untouched c.args.lanes.now.items c.find_line.new.lanes.items c.find_line.ensures.segments) c.poll_round.ensures.segments

pub returns-in-Err-clause-later : goal.returns-in-Err-clause-later
returns-in-Err-clause-later g c = quiet_later c.args.lanes.now.items c.find_line.new.lanes.items c.find_line.ensures.quiet

pub returns-in-Some-clause-later : goal.returns-in-Some-clause-later
returns-in-Some-clause-later g c = later_on c.args.lanes.now.items c.find_line.new.lanes.items c.look_round.new.lanes.items (quiet_later c.args.lanes.now.items c.find_line.new.lanes.items c.find_line.ensures.quiet) c.look_round.ensures.later

pub returns-in_default-line_at-clause-later : goal.returns-in_default-line_at-clause-later
returns-in_default-line_at-clause-later g c = later_on c.args.lanes.now.items c.look_round.new.lanes.items c.line_at.new.lanes.items (later_on c.args.lanes.now.items c.find_line.new.lanes.items c.look_round.new.lanes.items (quiet_later c.args.lanes.now.items c.find_line.new.lanes.items c.find_line.ensures.quiet) c.look_round.ensures.later) (later_same c.look_round.new.lanes.items c.line_at.new.lanes.items (λ d. (c.line_at.ensures.same d).0))

pub returns-in-Some-line_at-clause-later : goal.returns-in-Some-line_at-clause-later
returns-in-Some-line_at-clause-later g c = later_on c.args.lanes.now.items c.look_round.new.lanes.items c.line_at.new.lanes.items (later_on c.args.lanes.now.items c.find_line.new.lanes.items c.look_round.new.lanes.items (quiet_later c.args.lanes.now.items c.find_line.new.lanes.items c.find_line.ensures.quiet) c.look_round.ensures.later) (later_same c.look_round.new.lanes.items c.line_at.new.lanes.items (λ d. (c.line_at.ensures.same d).0))

pub returns-in-Err-poll_round-clause-later : goal.returns-in-Err-poll_round-clause-later
returns-in-Err-poll_round-clause-later g c = later_on c.args.lanes.now.items c.find_line.new.lanes.items c.poll_round.new.lanes.items (quiet_later c.args.lanes.now.items c.find_line.new.lanes.items c.find_line.ensures.quiet) c.poll_round.ensures.later

pub returns-in-Ok-Idle-clause-later : goal.returns-in-Ok-Idle-clause-later
returns-in-Ok-Idle-clause-later g c = later_on c.args.lanes.now.items c.find_line.new.lanes.items c.poll_round.new.lanes.items (quiet_later c.args.lanes.now.items c.find_line.new.lanes.items c.find_line.ensures.quiet) c.poll_round.ensures.later

pub returns-in-Ok-Moved-clause-later : goal.returns-in-Ok-Moved-clause-later
returns-in-Ok-Moved-clause-later g c = later_on c.args.lanes.now.items c.find_line.new.lanes.items c.poll_round.new.lanes.items (quiet_later c.args.lanes.now.items c.find_line.new.lanes.items c.find_line.ensures.quiet) c.poll_round.ensures.later

pub returns-in-Ok-Gave-clause-later : goal.returns-in-Ok-Gave-clause-later
returns-in-Ok-Gave-clause-later g c = later_on c.args.lanes.now.items c.find_line.new.lanes.items c.poll_round.new.lanes.items (quiet_later c.args.lanes.now.items c.find_line.new.lanes.items c.find_line.ensures.quiet) c.poll_round.ensures.later
