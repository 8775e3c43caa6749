use Rattle.std.specs.Prelude.{None}
use Rattle.conn_parts.specs.declared.share.SharePasses.{SharePasses}
use Rattle.job_deploy.proofs.Lent.{may_receive}
use Rattle.job_deploy.proofs.loops.share_to_read_items.Goals as goal

pub returns-clause-may : goal.returns-clause-may
returns-clause-may c =
    let passes : SharePasses = record { readers = None; subpartitions = c.new.result; inputs = c.args.pushers; pools = c.args.pools; stop = c.next_stop-stop.result } in
    let share = c.receiving_share in
    may_receive c.args.size c.args.edge.now c.next_stop-stop.new.self.stop.now share.result passes c.requires.edge share.ensures.over share.ensures.passes c.next_stop-stop.ensures.pass.0 c.requires.pushers share.ensures.pools c.requires.pools
