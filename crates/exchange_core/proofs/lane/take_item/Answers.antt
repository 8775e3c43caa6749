use Rattle.std.proofs.Common.{Some, sym, ap, ◌∙◌}
use Rattle.exchange_core.proofs.LaneSteps.{buffer_taken, barrier_taken, end_taken}
use Rattle.exchange_core.proofs.lane.take_item.Goals as goal

pub returns-in_ok-content-in-Some-Buffer-clause-lane : goal.returns-in_ok-content-in-Some-Buffer-clause-lane
returns-in_ok-content-in-Some-Buffer-clause-lane g c =
    buffer_taken c.args.pool.now c.args.limit c.args.lane.now c.requires.lane c.take.new.self c.give.new.self c.in-Some-Buffer.filled
    (ap Some (sym c.in-Some-Buffer.field-0-is) ∙ c.in-Some-Buffer.ensures.first) c.take.ensures.rest c.give.ensures.local.0 c.give.ensures.local.1 c.give.ensures.given.lent

pub returns-in-Some-Barrier-clause-lane : goal.returns-in-Some-Barrier-clause-lane
returns-in-Some-Barrier-clause-lane g c =
    barrier_taken c.args.pool.now c.args.limit c.args.lane.now c.requires.lane c.take.new.self c.in-Some-Barrier.k c.in-Some-Barrier.kind
    (ap Some (sym c.in-Some-Barrier.field-0-is) ∙ c.in-Some-Barrier.ensures.first) c.take.ensures.rest

pub returns-in-Some-End-clause-lane : goal.returns-in-Some-End-clause-lane
returns-in-Some-End-clause-lane g c =
    end_taken c.args.pool.now c.args.limit c.args.lane.now c.requires.lane c.take.new.self
    (ap Some (sym c.in-Some-End.field-0-is) ∙ c.in-Some-End.ensures.first) c.take.ensures.rest
