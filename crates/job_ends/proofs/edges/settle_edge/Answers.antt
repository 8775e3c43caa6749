use Rattle.job_ends.proofs.Returns.{row_came_back}
use Rattle.job_ends.proofs.Endings.{ends_in, wire_belongs, takers_own, pushers_own, edge_arrived, left_fault}
use Rattle.job_ends.proofs.edges.settle_edge.Goals as goal

pub take_edge-left-requires : goal.take_edge-left-requires
take_edge-left-requires g c = (ends_in c.requires.ended, c.requires.ended.row_is)

pub give_back-requires-clause-belong : goal.give_back-requires-clause-belong
give_back-requires-clause-belong g c κs within = wire_belongs c.requires.ended c.take_edge-left.result (c.take_edge-left.ensures (ends_in c.requires.ended) c.requires.ended.row_is)

pub settle_tasks-requires-clause-takers : goal.settle_tasks-requires-clause-takers
settle_tasks-requires-clause-takers g c = takers_own c.requires.ended c.take_edge-left.result (c.take_edge-left.ensures (ends_in c.requires.ended) c.requires.ended.row_is)

pub settle_tasks-requires-clause-pushers : goal.settle_tasks-requires-clause-pushers
settle_tasks-requires-clause-pushers g c = pushers_own c.requires.ended c.take_edge-left.result (c.take_edge-left.ensures (ends_in c.requires.ended) c.requires.ended.row_is)

pub returns-clause-carry : goal.returns-clause-carry
returns-clause-carry g c = λ tell.
    c.settle_tasks.ensures.carry (edge_arrived c.requires.ended c.take_edge-left.result (c.take_edge-left.ensures (ends_in c.requires.ended) c.requires.ended.row_is) _ _ c.give_back.ensures.met tell)

pub returns-clause-fault : goal.returns-clause-fault
returns-clause-fault g c = λ i place at fault.
    c.give_back.ensures.fault (left_fault c.requires.ended c.take_edge-left.result (c.take_edge-left.ensures (ends_in c.requires.ended) c.requires.ended.row_is) _ _ i place at fault)

pub returns-clause-wires : goal.returns-clause-wires
returns-clause-wires g c =
    row_came_back g.N.In.LinkIn.got g.N.In.LinkIn.ended c.requires.ended c.take_edge-left.result (c.take_edge-left.ensures (ends_in c.requires.ended) c.requires.ended.row_is)
    (g.N.Links.wires c.args.net.now) (g.N.Links.wires c.give_back.new.net) c.give_back.ensures.kept
