use Rattle.std.proofs.Common.{◌<◌, ◌∙◌, ap, subst}
use Rattle.input_gate.specs.declared.lane.Lane.{Lane}
use Rattle.input_gate.proofs.RoundLaws.{later_all, later_set, came_later, quiet_all, cells_set, no_spare_at, same_lane, came_at, spare_given, came_cell}
use Rattle.input_gate.proofs.SegmentLaws.{even_refl, even_set}
use Rattle.input_gate.proofs.round.step_at.Goals as goal

pub returns-then-index-clause-came : goal.returns-then-index-clause-came
returns-then-index-clause-came g c = quiet_all c.args.lanes.now.items

pub step-requires-clause-free : goal.step-requires-clause-free
step-requires-clause-free g c = ap (λ (lane : Lane). lane.blocked) (same_lane c.args.lanes.now.items c.args.at _ _ c.index_mut.result.now c.index.result.now c.index_mut.ensures.value c.index.ensures c.requires.within) ∙ c.if-index.false

pub step-requires-clause-spare : goal.step-requires-clause-spare
step-requires-clause-spare g c = no_spare_at c.args.lanes.now.items c.args.at _ c.index_mut.result.now c.requires.spare c.requires.within c.index_mut.ensures.value

pub returns-clause-came : goal.returns-clause-came
returns-clause-came g c = came_at _ c.args.lanes.now.items c.args.at _ c.index_mut.result.now c.step.new.lane c.index_mut.ensures.value c.requires.within c.requires.lanes c.args.hold c.args.most c.requires.most c.is_held-held.result c.step.result c.step.ensures.came
    (λ f is. subst (λ (lane : Lane). lane.barriers < c.args.most) (same_lane c.args.lanes.now.items c.args.at _ _ c.index-2.result.now c.index_mut.result.now c.index-2.ensures c.index_mut.ensures.value c.requires.within) (c.is_held-held.ensures.not_held f is))

pub returns-clause-cells : goal.returns-clause-cells
returns-clause-cells g c = cells_set c.args.lanes.now.items c.args.at _ c.index_mut.result.now c.step.new.lane c.index_mut.ensures.value c.requires.within (came_cell _ c.args.lanes.now.items c.args.at _ c.index_mut.result.now c.step.new.lane c.index_mut.ensures.value c.requires.within c.requires.lanes c.is_held-held.result c.step.result c.step.ensures.came)

pub returns-clause-spare : goal.returns-clause-spare
returns-clause-spare g c = spare_given _ c.args.lanes.now.items c.args.at _ c.index_mut.result.now c.step.new.lane c.index_mut.ensures.value c.requires.within c.requires.lanes c.step.result c.requires.spare c.step.ensures.spare

pub returns-then-index-clause-segments : goal.returns-then-index-clause-segments
returns-then-index-clause-segments g c = even_refl _ _ _

pub returns-clause-segments : goal.returns-clause-segments
returns-clause-segments g c = even_set c.args.lanes.now.items c.args.at _ c.index_mut.result.now c.step.new.lane c.index_mut.ensures.value c.requires.within c.step.ensures.segments

pub returns-then-index-clause-later : goal.returns-then-index-clause-later
returns-then-index-clause-later g c = later_all c.args.lanes.now.items

pub returns-clause-later : goal.returns-clause-later
returns-clause-later g c = later_set c.args.lanes.now.items c.args.at _ c.index_mut.result.now c.step.new.lane c.index_mut.ensures.value c.requires.within (came_later c.is_held-held.result c.index_mut.result.now c.step.new.lane c.step.result c.step.ensures.came)
