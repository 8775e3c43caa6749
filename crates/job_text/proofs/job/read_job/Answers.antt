use Rattle.stage_fns.specs.Kinds.{kinds}
use Rattle.job_text.proofs.Law.{accepted}
use Rattle.job_text.proofs.job.read_job.Goals as goal

pub returns-in_err-check-clause-accepted : goal.returns-in_err-check-clause-accepted
returns-in_err-check-clause-accepted g c = accepted (kinds c.args.functions.now) c.args.bytes.now
