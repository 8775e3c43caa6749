use Rattle.std.proofs.Common.{◌<◌, ◌∙◌, sym, ap, subst, false, true≢false}
use Rattle.input_gate.specs.Turning.{looks_of}
use Rattle.input_gate.specs.declared.lane.Lane.{Lane}
use Rattle.input_gate.proofs.RoundLaws.{later_all, later_set, look_later, quiet_all, cells_set, at_get, at_there, no_spare_set, no_spare_at, same_lane, not_free, may_not, look_given, look_cell, look_looked}
use Rattle.input_gate.proofs.SegmentLaws.{untouched_all, untouched_set}
use Rattle.input_gate.proofs.round.look_at.Goals as goal

pub returns-then-lane-clause-came : goal.returns-then-lane-clause-came
returns-then-lane-clause-came g c = quiet_all c.args.lanes.now.items

pub returns-then-lane-clause-looked : goal.returns-then-lane-clause-looked
returns-then-lane-clause-looked g c free may still =
    absurd (not_free c.requires.lanes.0 c.args.lanes.now.items c.args.at _ c.index-lane.result.now c.index-lane.result.now c.index-lane.ensures c.requires.within c.requires.lanes.1 c.if-lane.true free)

pub returns-then-lane-2-clause-came : goal.returns-then-lane-2-clause-came
returns-then-lane-2-clause-came g c = quiet_all c.args.lanes.now.items

pub returns-then-lane-2-clause-looked : goal.returns-then-lane-2-clause-looked
returns-then-lane-2-clause-looked g c free may still =
    absurd (true≢false (sym c.if-lane-2.true ∙ sym (at_get (λ (lane : Lane). lane.ended) false c.args.lanes.now.items c.args.at _ c.index-lane.result.now c.index-lane.ensures c.requires.within) ∙ still))

pub returns-then-is_held-clause-came : goal.returns-then-is_held-clause-came
returns-then-is_held-clause-came g c = quiet_all c.args.lanes.now.items

pub returns-then-is_held-clause-looked : goal.returns-then-is_held-clause-looked
returns-then-is_held-clause-looked g c free may still =
    let held = c.is_held.ensures.held c.if-is_held.true in
    absurd (may_not c.requires.lanes.0 c.args.lanes.now.items c.args.at _ c.index-lane.result.now c.index-lane.result.now c.index-lane.ensures c.requires.within c.requires.lanes.1 c.args.hold c.args.most c.requires.most held.1 held.0 may)

pub look-requires-clause-free : goal.look-requires-clause-free
look-requires-clause-free g c = ap (λ (lane : Lane). lane.blocked) (same_lane c.args.lanes.now.items c.args.at _ _ c.index_mut.result.now c.index-lane.result.now c.index_mut.ensures.value c.index-lane.ensures c.requires.within) ∙ c.if-lane.false

pub look-requires-clause-spare : goal.look-requires-clause-spare
look-requires-clause-spare g c = no_spare_at c.args.lanes.now.items c.args.at _ c.index_mut.result.now c.requires.spare c.requires.within c.index_mut.ensures.value

pub returns-clause-came : goal.returns-clause-came
returns-clause-came g c = look_given c.requires.lanes.0 c.args.lanes.now.items c.args.at _ c.index_mut.result.now c.look.new.lane c.index_mut.ensures.value c.requires.within c.requires.lanes.1 c.args.hold c.args.most c.requires.most c.look.result c.look.ensures.given
    (λ is. subst (λ (lane : Lane). lane.barriers < c.args.most) (same_lane c.args.lanes.now.items c.args.at _ _ c.index-lane.result.now c.index_mut.result.now c.index-lane.ensures c.index_mut.ensures.value c.requires.within) (c.is_held.ensures.not_held c.if-is_held.false is))

pub returns-clause-cells : goal.returns-clause-cells
returns-clause-cells g c = cells_set c.args.lanes.now.items c.args.at _ c.index_mut.result.now c.look.new.lane c.index_mut.ensures.value c.requires.within (look_cell c.requires.lanes.0 c.args.lanes.now.items c.args.at _ c.index_mut.result.now c.look.new.lane c.index_mut.ensures.value c.requires.within c.requires.lanes.1 c.look.result c.look.ensures.given)

pub returns-clause-looked : goal.returns-clause-looked
returns-clause-looked g c = look_looked c.requires.lanes.0 c.args.lanes.now.items c.args.at _ c.index_mut.result.now c.look.new.lane c.index_mut.ensures.value c.requires.within c.requires.lanes.1 c.args.hold c.look.result c.look.ensures.looked

pub returns-clause-others : goal.returns-clause-others
returns-clause-others g c d ne = (at_there (λ (lane : Lane). looks_of lane.pass) _ c.args.lanes.now.items c.args.at d c.look.new.lane ne, at_there (λ (lane : Lane). lane.ended) false c.args.lanes.now.items c.args.at d c.look.new.lane ne)

pub returns-clause-spare : goal.returns-clause-spare
returns-clause-spare g c = no_spare_set c.args.lanes.now.items c.args.at c.look.new.lane c.requires.spare c.requires.within (c.look.ensures.same.0 ∙ no_spare_at c.args.lanes.now.items c.args.at _ c.index_mut.result.now c.requires.spare c.requires.within c.index_mut.ensures.value)

pub returns-then-lane-clause-segments : goal.returns-then-lane-clause-segments
returns-then-lane-clause-segments g c = untouched_all c.args.lanes.now.items

pub returns-then-lane-2-clause-segments : goal.returns-then-lane-2-clause-segments
returns-then-lane-2-clause-segments g c = untouched_all c.args.lanes.now.items

pub returns-then-is_held-clause-segments : goal.returns-then-is_held-clause-segments
returns-then-is_held-clause-segments g c = untouched_all c.args.lanes.now.items

pub returns-clause-segments : goal.returns-clause-segments
returns-clause-segments g c = untouched_set c.args.lanes.now.items c.args.at _ c.index_mut.result.now c.look.new.lane c.index_mut.ensures.value c.requires.within c.look.ensures.segments

pub returns-then-lane-clause-later : goal.returns-then-lane-clause-later
returns-then-lane-clause-later g c = later_all c.args.lanes.now.items

pub returns-then-lane-2-clause-later : goal.returns-then-lane-2-clause-later
returns-then-lane-2-clause-later g c = later_all c.args.lanes.now.items

pub returns-then-is_held-clause-later : goal.returns-then-is_held-clause-later
returns-then-is_held-clause-later g c = later_all c.args.lanes.now.items

pub returns-clause-later : goal.returns-clause-later
returns-clause-later g c = later_set c.args.lanes.now.items c.args.at _ c.index_mut.result.now c.look.new.lane c.index_mut.ensures.value c.requires.within (look_later c.index_mut.result.now c.look.new.lane c.look.result c.look.ensures.given)
