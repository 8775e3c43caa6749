use Rattle.std.proofs.Common.{false, refl}
use Rattle.input_gate.proofs.LaneLaws.{lane_front, gives_front, lane_looked, quiet_looked}
use Rattle.input_gate.proofs.SegmentLaws.{untouched_none, untouched_other}
use Rattle.input_gate.proofs.lane.look.Goals as goal

pub returns-in-Some-clause-lane : goal.returns-in-Some-clause-lane
returns-in-Some-clause-lane g c size h =
    let e = c.in-Some.ensures in
    lane_front size c.args.lane.now c.find_front.new.pass false h c.requires.spare e.pass e.later e.entered c.in-Some.k e.given e.numbered

pub returns-in-Some-clause-given : goal.returns-in-Some-clause-given
returns-in-Some-clause-given g c =
    let e = c.in-Some.ensures in
    gives_front c.requires.lane.0 c.args.lane.now c.find_front.new.pass false c.requires.lane.1 c.requires.spare e.pass e.later e.entered c.in-Some.k e.given e.numbered c.requires.free false refl

pub returns-in-None-clause-lane : goal.returns-in-None-clause-lane
returns-in-None-clause-lane g c size h =
    let e = c.in-None.ensures in
    lane_looked size c.args.lane.now c.find_front.new.pass h e.later e.given e.entered e.pass e.looked.no_front

pub returns-in-None-clause-given : goal.returns-in-None-clause-given
returns-in-None-clause-given g c =
    let e = c.in-None.ensures in
    quiet_looked c.requires.lane.0 c.args.lane.now c.find_front.new.pass c.requires.lane.1 e.later e.given e.entered

pub find_front-requires-clause-clear : goal.find_front-requires-clause-clear
find_front-requires-clause-clear g c = c.requires.lane.1.clear_is

pub returns-in-Some-clause-segments : goal.returns-in-Some-clause-segments
returns-in-Some-clause-segments g c = untouched_other c.args.lane.now.pass c.find_front.new.pass _ refl c.in-Some.ensures.entered c.find_front.ensures.freed

pub returns-in-None-clause-segments : goal.returns-in-None-clause-segments
returns-in-None-clause-segments g c = untouched_none c.args.lane.now.pass c.find_front.new.pass c.in-None.ensures.entered c.find_front.ensures.freed
