use Rattle.conn_send_control.proofs.Ends.{none_ended}
use Rattle.conn_send_control.proofs.Steps.{ran_on, ran_cut, ran_not}
use Rattle.conn_send_control.proofs.announce.announce.Goals as goal

pub returns-in_default-clause-account : goal.returns-in_default-clause-account
returns-in_default-clause-account g c = ran_not c.args.channels.now _ _ _ _

pub announce_rounds-requires-clause-ended : goal.announce_rounds-requires-clause-ended
announce_rounds-requires-clause-ended g c = none_ended c.in-Ok.rooms.ended.items c.args.passes.now.items c.in-Ok.ensures.none

pub returns-in-Ok-write_requests-clause-account : goal.returns-in-Ok-write_requests-clause-account
returns-in-Ok-write_requests-clause-account g c =
    ran_on c.args.channels.now _ _ _ _ _ _ _ _ c.announce_rounds.result c.write_requests.ensures.frames c.in-Ok-write_requests.ensures.written c.write_requests.ensures.never_falls c.announce_rounds.ensures.account

pub returns-clause-account : goal.returns-clause-account
returns-clause-account g c = ran_cut c.args.channels.now _ _ _ _ _ c.write_requests.ensures.frames c.in-Err.ensures.written
