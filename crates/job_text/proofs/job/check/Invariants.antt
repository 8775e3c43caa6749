use Rattle.std.proofs.Common.{◌≡◌, length}
use Rattle.job_text.specs.KnownKinds.{known}
use Rattle.job_text.specs.JobFaults.{first_fault}
use Rattle.job_text.specs.Reading.{fault_left}
use Rattle.job_text.proofs.job.check.Given as goal

-- the text's first fault is that of the lines that are left
abbrev pub invariant-lines : goal.invariant-lines
invariant-lines g l = first_fault (known l.functions) l.bytes ≡ fault_left (known l.functions) l.lines

abbrev pub decreases-lines : goal.decreases-lines
decreases-lines g l = length l.lines.rest.now
