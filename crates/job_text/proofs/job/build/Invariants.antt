use Rattle.std.proofs.Common.{length}
use Rattle.job_text.specs.KnownKinds.{known}
use Rattle.job_text.proofs.Drafts.{IsDraft}
use Rattle.job_text.proofs.job.build.Given as goal

abbrev pub invariant-lines : goal.invariant-lines
invariant-lines g l = IsDraft (known l.functions) l.bytes l.sources.items l.stages.items l.lines

abbrev pub decreases-lines : goal.decreases-lines
decreases-lines g l = length l.lines.rest.now
