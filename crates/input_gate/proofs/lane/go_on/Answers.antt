use Rattle.std.proofs.Common.{refl}
use Rattle.input_channel.specs.declared.entry.ReceiveEntry.TheVariants.{Ask}
use Rattle.input_gate.proofs.LaneLaws.{lane_resumed, is_resumed, owed_at}
use Rattle.input_gate.proofs.SegmentLaws.{untouched_other}
use Rattle.input_gate.proofs.lane.go_on.Goals as goal

pub ask_in_turn-requires-clause-owed : goal.ask_in_turn-requires-clause-owed
ask_in_turn-requires-clause-owed g c = owed_at c.requires.lane.0 c.args.lane.now c.requires.lane.1 c.requires.blocked

pub returns-clause-lane : goal.returns-clause-lane
returns-clause-lane g c size h =
    let e = c.ask_in_turn.ensures in
    lane_resumed size c.args.lane.now c.ask_in_turn.new.pass h c.requires.blocked e.later e.given e.entered e.pass

pub returns-clause-resumed : goal.returns-clause-resumed
returns-clause-resumed g c =
    let e = c.ask_in_turn.ensures in
    is_resumed c.requires.lane.0 c.args.lane.now c.ask_in_turn.new.pass c.requires.lane.1 c.requires.blocked e.later e.given e.entered

pub returns-clause-segments : goal.returns-clause-segments
returns-clause-segments g c = untouched_other c.args.lane.now.pass c.ask_in_turn.new.pass Ask refl c.ask_in_turn.ensures.entered c.ask_in_turn.ensures.freed
