use Rattle.commands.proofs.RunLemmas.{can_run}
use Rattle.commands.proofs.run.job_of_text.Goals as goal

pub returns-in-Err-Line-clause-fault : goal.returns-in-Err-Line-clause-fault
returns-in-Err-Line-clause-fault g c =
    (c.read_job.ensures.line c.in-Err-Line.line c.in-Err-Line.kind).0 (let a = c.in-Err-Line.is in let b = c.in-Err-Line.field-0-is in let d = c.in-Err-Line.line-is in let e = c.in-Err-Line.kind-is in cc)

pub returns-in-Ok-clause-ready : goal.returns-in-Ok-clause-ready
returns-in-Ok-clause-ready g c = can_run _ _ c.in-Ok.job c.in-Ok.ensures.job
