-- Which fault the words have, the text of the job that they name, and the pool that they give it.
use Rattle.std.specs.Prelude.{◌≡◌, ⊤, ℕ, ◌<◌, List, length, Option, Some, None, IfSome}
use Rattle.stage_fns.specs.Functions.{Functions}
use Rattle.job_text.specs.Words.{usage_fault}
use Rattle.job_text.specs.JobFaults.{first_fault}
use Rattle.flow_defs.specs.Limits.{job_text_max}
use Rattle.command_parts.specs.declared.fault.Fault.{Fault}
use Rattle.command_parts.specs.declared.fault.Fault.TheVariants.{Usage, JobLine, JobInput, LongJob, TooFewSegments, Memory}
use Rattle.flow_defs.specs.declared.job.Job.{Job}
use Rattle.job_text.specs.declared.words.RunOptions.{RunOptions}
use Rattle.job_command.specs.Pools.{HasSmallPool}

-- The words have this fault. Without one, memory may be lacking.
abbrev pub IsWordFault : List (List ℕ) → Fault → Type 0
IsWordFault words (Usage kind) = usage_fault words ≡ Some kind
IsWordFault words Memory = usage_fault words ≡ None
IsWordFault words fault = ⊥

-- The file of a job's text has this fault: its bytes, where they are told, are too many, or it is another one.
abbrev pub IsJobFileFault : Option (List ℕ) → Fault → Type 0
IsJobFileFault contents LongJob = IfSome contents (λ text. job_text_max < length text)
IsJobFileFault contents JobInput = ⊤
IsJobFileFault contents Memory = ⊤
IsJobFileFault contents fault = ⊥

-- The text of a job has this fault.
abbrev pub IsTextFault : Functions → List ℕ → Fault → Type 0
IsTextFault functions text (JobLine line kind) = first_fault functions text ≡ Some (line, kind)
IsTextFault functions text Memory = ⊤
IsTextFault functions text fault = ⊥

-- The pool that the options give a job has this fault: it is too small.
abbrev pub IsSmallPoolFault : RunOptions → Job → Fault → Type 0
IsSmallPoolFault options job (TooFewSegments have need) = HasSmallPool options job have need
IsSmallPoolFault options job fault = ⊥
