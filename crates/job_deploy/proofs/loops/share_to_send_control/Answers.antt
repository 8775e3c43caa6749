use Rattle.std.specs.Prelude.{None}
use Rattle.conn_parts.specs.declared.share.SharePasses.{SharePasses}
use Rattle.job_deploy.proofs.Lent.{may_announce}
use Rattle.job_deploy.proofs.loops.share_to_send_control.Goals as goal

pub returns-clause-may : goal.returns-clause-may
returns-clause-may c =
    let passes : SharePasses = record { readers = None; subpartitions = c.new.result; inputs = c.args.tellers; pools = c.new-2.result; stop = c.next_stop-stop.result } in
    let share = c.receiving_share in
    may_announce c.args.size c.args.edge.now c.next_stop-stop.new.self.stop.now share.result passes c.requires.edge share.ensures.over share.ensures.passes c.next_stop-stop.ensures.pass.0 c.requires.tellers
