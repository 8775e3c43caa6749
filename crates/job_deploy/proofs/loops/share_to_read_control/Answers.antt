use Rattle.std.proofs.Common.{refl}
use Rattle.std.specs.Prelude.{Some}
use Rattle.conn_parts.specs.declared.share.SharePasses.{SharePasses}
use Rattle.job_deploy.proofs.Lent.{may_grant}
use Rattle.job_deploy.proofs.loops.share_to_read_control.Goals as goal

pub returns-clause-may : goal.returns-clause-may
returns-clause-may c =
    let passes : SharePasses = record { readers = Some c.args.read_control; subpartitions = c.args.sizers; inputs = c.new.result; pools = c.new-2.result; stop = c.next_stop-stop.result } in
    let share = c.sending_share in
    may_grant c.args.size c.args.edge.now c.next_stop-stop.new.self.stop.now share.result passes c.requires.edge share.ensures.over share.ensures.passes c.next_stop-stop.ensures.pass.0 c.args.read_control refl c.requires.read_control c.requires.sizers
