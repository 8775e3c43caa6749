use Rattle.std.proofs.Common.{◌∙◌, ap, false}
use Rattle.input_gate.specs.declared.lane.Lane.{Lane}
use Rattle.input_gate.specs.Turning.{looks_of}
use Rattle.input_gate.proofs.RoundLaws.{quiet_all, cells_set, at_same, no_spare_set, no_spare_at, same_lane, line_given, line_cell}
use Rattle.input_gate.proofs.SegmentLaws.{untouched_all, untouched_set, untouched_same}
use Rattle.input_gate.proofs.round.line_at.Goals as goal

pub returns-then-index-clause-given : goal.returns-then-index-clause-given
returns-then-index-clause-given c = quiet_all c.args.lanes.now.items

pub give_line-requires-clause-free : goal.give_line-requires-clause-free
give_line-requires-clause-free c = ap (λ (lane : Lane). lane.blocked) (same_lane c.args.lanes.now.items c.args.at _ _ c.index_mut.result.now c.index.result.now c.index_mut.ensures.value c.index.ensures c.requires.within) ∙ c.if-index.false

pub returns-clause-given : goal.returns-clause-given
returns-clause-given c = line_given c.requires.lanes.0 c.args.lanes.now.items c.args.at _ c.index_mut.result.now c.give_line.new.lane c.index_mut.ensures.value c.requires.within c.requires.lanes.1 c.give_line.result c.give_line.ensures.given

pub returns-clause-cells : goal.returns-clause-cells
returns-clause-cells c = cells_set c.args.lanes.now.items c.args.at _ c.index_mut.result.now c.give_line.new.lane c.index_mut.ensures.value c.requires.within (line_cell c.requires.lanes.0 c.args.lanes.now.items c.args.at _ c.index_mut.result.now c.give_line.new.lane c.index_mut.ensures.value c.requires.within c.requires.lanes.1 c.give_line.result c.give_line.ensures.given)

pub returns-clause-same : goal.returns-clause-same
returns-clause-same c d = (
  at_same (λ (lane : Lane). looks_of lane.pass) _ c.args.lanes.now.items c.args.at d _ c.index_mut.result.now c.give_line.new.lane c.index_mut.ensures.value c.requires.within (ap looks_of c.give_line.ensures.same.0),
  at_same (λ (lane : Lane). lane.ended) false c.args.lanes.now.items c.args.at d _ c.index_mut.result.now c.give_line.new.lane c.index_mut.ensures.value c.requires.within c.give_line.ensures.same.1,
)

pub returns-clause-spare : goal.returns-clause-spare
returns-clause-spare c = no_spare_set c.args.lanes.now.items c.args.at c.give_line.new.lane c.requires.spare c.requires.within (c.give_line.ensures.spare ∙ no_spare_at c.args.lanes.now.items c.args.at _ c.index_mut.result.now c.requires.spare c.requires.within c.index_mut.ensures.value)

pub returns-then-index-clause-segments : goal.returns-then-index-clause-segments
returns-then-index-clause-segments c = untouched_all c.args.lanes.now.items

pub returns-clause-segments : goal.returns-clause-segments
returns-clause-segments c = untouched_set c.args.lanes.now.items c.args.at _ c.index_mut.result.now c.give_line.new.lane c.index_mut.ensures.value c.requires.within (untouched_same c.index_mut.result.now.pass c.give_line.new.lane.pass c.give_line.ensures.same.0)
