use Rattle.conn_send_control.proofs.Account.{whole_account, told_since}
use Rattle.conn_send_control.proofs.announce.send_control.Goals as goal

pub returns-clause-account : goal.returns-clause-account
returns-clause-account g c =
    whole_account _ _ _ _ _ _ _ _ _ _ _ c.announce-cause.ensures.account c.end_loop-cause.ensures.closed c.announce-cause.ensures.never_falls c.end_loop-cause.ensures.never_falls

pub returns-clause-stop : goal.returns-clause-stop
returns-clause-stop g c = told_since _ _ _ _ _ c.announce-cause.ensures.stop.1 c.end_loop-cause.ensures.stop
