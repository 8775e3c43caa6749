-- The sources of a job, and which fault they have.
use Rattle.std.specs.Prelude.{◌≡◌, ⊤, ℕ, ◌<◌, List, [], length, slice_get, Option, Some, IfSome}
use Rattle.std.specs.Option.{option_map_or}
use Rattle.flow_defs.specs.Items.{Items}
use Rattle.flow_defs.specs.declared.job.Job.{Job}
use Rattle.flow_defs.specs.Jobs.{tasks}
use Rattle.flow_defs.specs.Lines.{lines}
use Rattle.command_parts.specs.declared.fault.Fault.{Fault}
use Rattle.command_parts.specs.declared.fault.Fault.TheVariants.{SourceInput, LongLine, BigSource, Memory}
use Rattle.job_plan.specs.Limits.{HasLongLine, IsOverLimit, source_max}

-- The file that a source of a job names.
abbrev pub source_name : Job → ℕ → List ℕ
source_name job a = option_map_or (λ (file : Items ℕ). file.items) (slice_get job.sources.items a) []

-- The source of this index is the job's, and its bytes, where they are told, have P.
abbrev pub IsOfSource : Job → (List ℕ → Option (List ℕ)) → ℕ → (List ℕ → Type 0) → Type 0
IsOfSource job contents a P = (a < tasks job 0) × IfSome (contents (source_name job a)) P

-- The job's sources are told to have these bytes.
abbrev pub TellsSources : Job → (List ℕ → Option (List ℕ)) → (ℕ → List ℕ) → Type 0
TellsSources job contents bytes = (a : ℕ) → a < tasks job 0 → contents (source_name job a) ≡ Some (bytes a)

-- None of a job's sources passes a limit.
abbrev pub AreWithinLimits : Job → (ℕ → List ℕ) → Type 0
AreWithinLimits job bytes = (a : ℕ) → a < tasks job 0 → IsOverLimit (bytes a) → ⊥

-- A source of the job has this fault. Sources are read at once, so others may have one too.
abbrev pub IsSourceFault : Job → (List ℕ → Option (List ℕ)) → Fault → Type 0
IsSourceFault job contents (SourceInput a) = IsOfSource job contents a (λ bytes. ⊤)
IsSourceFault job contents (LongLine a) = IsOfSource job contents a (λ bytes. HasLongLine (lines bytes))
IsSourceFault job contents (BigSource a) = IsOfSource job contents a (λ bytes. source_max < length bytes)
IsSourceFault job contents Memory = ⊤
IsSourceFault job contents fault = ⊥

-- ---- the inputs of the sources

-- Each of these inputs tells what is told of the source of its index, and has no fault.
abbrev pub AreInputsOf : {S : Type 0} → (S → Option (List ℕ)) → (S → ℕ) → Job → (List ℕ → Option (List ℕ)) → List S → Type 0
AreInputsOf {S} left faults job contents inputs = (a : ℕ) (input : S) → slice_get inputs a ≡ Some input →
    (left input ≡ contents (source_name job a)) × (faults input ≡ 0)

-- One of these inputs has a fault.
abbrev pub HasFaulty : {S : Type 0} → (S → ℕ) → List S → Type 0
HasFaulty {S} faults inputs = (a : ℕ) × (input : S) × (slice_get inputs a ≡ Some input) × (0 < faults input)

-- A source that was not found is the one behind so many that were found: the first that was not.
abbrev pub IsBehindFound : ℕ → Fault → Type 0
IsBehindFound found (SourceInput a) = a ≡ found
IsBehindFound found fault = ⊤
