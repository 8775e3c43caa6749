use Rattle.std.proofs.Common.{◌∙◌, refl}
use Rattle.input_gate.proofs.RoundLaws.{later_set, cells_set, no_spare_set, no_spare_at, blocked_here, resumed_of}
use Rattle.input_gate.proofs.SegmentLaws.{untouched_set}
use Rattle.input_gate.proofs.round.resume_at.Goals as goal

pub go_on-requires-clause-blocked : goal.go_on-requires-clause-blocked
go_on-requires-clause-blocked g c = blocked_here c.requires.lanes.0 c.args.lanes.now.items c.args.at _ c.index_mut.result.now c.index_mut.result.now c.index_mut.ensures.value c.requires.within c.requires.lanes.1 c.index_mut.result.now.blocked refl c.requires.stopped

pub returns-clause-resumed : goal.returns-clause-resumed
returns-clause-resumed g c = resumed_of c.requires.lanes.0 c.args.lanes.now.items c.args.at _ c.index_mut.result.now c.go_on.new.lane c.index_mut.ensures.value c.requires.within c.requires.lanes.1 c.go_on.ensures.resumed

pub returns-clause-cells : goal.returns-clause-cells
returns-clause-cells g c = cells_set c.args.lanes.now.items c.args.at _ c.index_mut.result.now c.go_on.new.lane c.index_mut.ensures.value c.requires.within c.go_on.ensures.resumed.cell

pub returns-clause-spare : goal.returns-clause-spare
returns-clause-spare g c none = no_spare_set c.args.lanes.now.items c.args.at c.go_on.new.lane none c.requires.within (c.go_on.ensures.spare ∙ no_spare_at c.args.lanes.now.items c.args.at _ c.index_mut.result.now none c.requires.within c.index_mut.ensures.value)

pub returns-clause-segments : goal.returns-clause-segments
returns-clause-segments g c = untouched_set c.args.lanes.now.items c.args.at _ c.index_mut.result.now c.go_on.new.lane c.index_mut.ensures.value c.requires.within c.go_on.ensures.segments

pub returns-clause-later : goal.returns-clause-later
returns-clause-later g c = later_set c.args.lanes.now.items c.args.at _ c.index_mut.result.now c.go_on.new.lane c.index_mut.ensures.value c.requires.within c.go_on.ensures.resumed.later
