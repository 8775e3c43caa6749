use Rattle.job_text.specs.KnownKinds.{every_kind}
use Rattle.job_text.proofs.Law.{accepted}
use Rattle.job_text.proofs.job.read_grammar.Goals as goal

pub returns-in_err-check-clause-accepted : goal.returns-in_err-check-clause-accepted
returns-in_err-check-clause-accepted c = accepted every_kind c.args.bytes.now
