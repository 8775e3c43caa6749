use Rattle.std.proofs.Common.{rules}
use Rattle.input_gate.proofs.LaneLaws.{lane_given, given_line}
use Rattle.input_gate.proofs.lane.give_line.Goals as goal

pub returns-clause-lane : goal.returns-clause-lane
returns-clause-lane c size h = lane_given size c.args.lane.now c.take.result c.take.new.self (search rules) (search rules) h

pub returns-clause-given : goal.returns-clause-given
returns-clause-given c = given_line c.requires.lane.0 c.args.lane.now c.take.result c.take.new.self (search rules) (search rules) c.requires.free c.requires.lane.1
