use Rattle.job_deploy.proofs.Workers.{ends_are}
use Rattle.job_deploy.proofs.split.ends_of.Goals as goal

pub returns : goal.returns
returns c = λ job e size edge of are. ends_are job e size edge c.args.passes of are
