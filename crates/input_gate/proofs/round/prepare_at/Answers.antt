use Rattle.input_gate.proofs.RoundLaws.{quiet_all, quiet_set, no_spare_set, no_spare_at, fault_given}
use Rattle.input_gate.proofs.SegmentLaws.{untouched_all, untouched_set}
use Rattle.input_gate.proofs.round.prepare_at.Goals as goal

pub returns-then-index-clause-quiet : goal.returns-then-index-clause-quiet
returns-then-index-clause-quiet c = quiet_all c.args.lanes.now.items

pub prepare-requires-clause-spare : goal.prepare-requires-clause-spare
prepare-requires-clause-spare c = no_spare_at c.args.lanes.now.items c.args.at _ c.index_mut.result.now c.requires.spare c.requires.within c.index_mut.ensures.value

pub returns-clause-quiet : goal.returns-clause-quiet
returns-clause-quiet c = quiet_set c.args.lanes.now.items c.args.at _ c.index_mut.result.now c.prepare.new.lane c.index_mut.ensures.value c.requires.within c.prepare.ensures.quiet

pub returns-clause-spare : goal.returns-clause-spare
returns-clause-spare c = no_spare_set c.args.lanes.now.items c.args.at c.prepare.new.lane c.requires.spare c.requires.within c.prepare.ensures.spare

pub returns-clause-fault : goal.returns-clause-fault
returns-clause-fault c = fault_given c.requires.lanes.0 c.args.lanes.now.items c.args.at _ c.index_mut.result.now c.prepare.new.lane c.index_mut.ensures.value c.requires.within c.requires.lanes.1 c.prepare.result c.prepare.ensures.fault

pub returns-then-index-clause-segments : goal.returns-then-index-clause-segments
returns-then-index-clause-segments c = untouched_all c.args.lanes.now.items

pub returns-clause-segments : goal.returns-clause-segments
returns-clause-segments c = untouched_set c.args.lanes.now.items c.args.at _ c.index_mut.result.now c.prepare.new.lane c.index_mut.ensures.value c.requires.within c.prepare.ensures.segments
