-- Lines that are cut out of pieces and emitted. That a source emits each line as soon as its newline was read is this project's own choice.
use Rattle.std.specs.Prelude.{◌≡◌, ℕ, ⊤, false, List, [], ◌++◌}
use Rattle.std.specs.List.{AllByRecursion}
use Rattle.turn_cell.specs.History.{StartsWith}
use Rattle.flow_defs.specs.declared.cause.Cause.{Cause}
use Rattle.flow_defs.specs.declared.cause.Cause.TheVariants as causes
use Rattle.flow_defs.specs.declared.job.Job.{Job}
use Rattle.flow_defs.specs.Lines.{lines}
use Rattle.flow_defs.specs.Records.{IsShort}
use Rattle.job_plan.specs.Begun.{IsBegun}
use Rattle.job_plan.specs.Limits.{HasLongLine}
use Rattle.record_writer.specs.Writers.{HasSeenFault}
use Rattle.source_task.specs.declared.output.LineFault.{LineFault}
use Rattle.source_task.specs.declared.output.LineFault.TheVariants as faults
use Rattle.source_task.specs.declared.output.SourceOutput.{SourceOutput}
use Rattle.source_task.specs.Emitting.{HasEmitted, HasBroken, is_at_end}

-- The source has read the lines that have ended, and another line has begun.
pub record IsSourceUnderWay (job : Job) (size : ℕ) (out : SourceOutput) (line : List ℕ) (ended : List (List ℕ)) : Type 0 where
  pub begun : IsBegun line
  pub short : AllByRecursion IsShort ended
  pub emitted : HasEmitted job size out ended

-- Some more lines end in the bytes. Whatever comes after these, they are the first lines, and those of what has begun then follow them.
abbrev pub OutputGoesOn : Job → ℕ → List (List ℕ) → List ℕ → List ℕ → SourceOutput → List ℕ → Type 0
OutputGoesOn job size ended old bytes out new =
    (more_ended : List (List ℕ)) × IsSourceUnderWay job size out new (ended ++ more_ended)
    × ((more : List ℕ) → lines (old ++ (bytes ++ more)) ≡ more_ended ++ lines (new ++ more))

-- A line of this text is too long, there was no memory, or the source was stopped.
abbrev pub IsLineFault : SourceOutput → List ℕ → LineFault → Type 0
IsLineFault out text faults.TooLong = HasLongLine (lines text)
IsLineFault out text faults.Memory = ⊤
IsLineFault out text faults.Stopped = HasSeenFault out.output.writer

-- A source that had read the lines that had ended broke off among the lines of this text, which follow them.
pub record BrokeOff (job : Job) (size : ℕ) (out : SourceOutput) (ended : List (List ℕ)) (text : List ℕ) (fault : LineFault) : Type 0 where
  pub done : List (List ℕ)
  pub begun : List (List ℕ)
  pub broken : HasBroken job size out (ended ++ done) begun
  pub short : AllByRecursion IsShort ((ended ++ done) ++ begun)
  pub front : StartsWith (lines text) (done ++ begun)
  pub not_ended : is_at_end out ≡ false
  pub fault_is : IsLineFault out text fault

-- The last line was read too.
pub record HasEndedLines (job : Job) (size : ℕ) (out : SourceOutput) (ended : List (List ℕ)) (line : List ℕ) : Type 0 where
  pub emitted : HasEmitted job size out (ended ++ lines (line ++ []))
  pub short : AllByRecursion IsShort (ended ++ lines (line ++ []))

-- What a source ends with where its lines have a fault.
abbrev pub cause_of_line : ℕ → LineFault → Cause
cause_of_line source faults.TooLong = causes.LongLine source
cause_of_line source faults.Memory = causes.Memory
cause_of_line source faults.Stopped = causes.Stopped
