use Rattle.input_gate.specs.Lanes.{lent_size}
use Rattle.input_gate.proofs.lane.step.Goals as goal

pub returns-then-len-gt0-clause-lane : goal.returns-then-len-gt0-clause-lane
returns-then-len-gt0-clause-lane g c = c.prepare.ensures.lane (lent_size c.args.lender.now) c.requires.lane

pub returns-then-lane-clause-lane : goal.returns-then-lane-clause-lane
returns-then-lane-clause-lane g c = c.prepare.ensures.lane (lent_size c.args.lender.now) c.requires.lane
