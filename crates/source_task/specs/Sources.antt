-- What a source did. As in Flink it emits its lines, and its snapshots say how far it was. That it tells so whatever its cause is this
-- project's own choice.
use Rattle.std.specs.Prelude.{◌≡◌, ◌≢◌, ℕ, suc, ◌<◌, ◌≤◌, ◌⊎◌, ⊤, true, false, List, [], ◌++◌, length, drop, Option, IfSome}
use Rattle.std.specs.List.{AllByRecursion}
use Rattle.turn_cell.specs.History.{StartsWith}
use Rattle.turn_cell.specs.Passes.{seen}
use Rattle.flow_defs.specs.declared.cause.Cause.{Cause}
use Rattle.flow_defs.specs.declared.cause.Cause.TheVariants as causes
use Rattle.flow_defs.specs.declared.job.Job.{Job}
use Rattle.flow_defs.specs.declared.image.Snapshot.{Snapshot}
use Rattle.flow_defs.specs.Lines.{lines}
use Rattle.flow_defs.specs.Records.{IsShort}
use Rattle.plain_machine.specs.Emitting.{receiver_on}
use Rattle.job_start.specs.declared.start.Start.{Start}
use Rattle.job_start.specs.Starts.{from_of, was_ended}
use Rattle.outside.specs.Faults.{HasRisen}
use Rattle.outside.specs.declared.last_image.Stored.{Stored}
use Rattle.job_plan.specs.Limits.{HasLongLine, source_max}
use Rattle.conn_parts.specs.Shares.{mine_at}
use Rattle.record_writer.specs.Writers.{SendPass, HasSeenFault, ways_on}
use Rattle.snapshot_channel.specs.Passes.{sent_by}
use Rattle.snapshot_channel.specs.Snapshots.{has_ended}
use Rattle.task_output.specs.Acking.{base_of}
use Rattle.task_output.specs.Outputs.{BegunOn, FinishedOn, all_of, end_of}
use Rattle.task_output.specs.Waiting.{HasWaited, LastIs, MayEnd}
use Rattle.source_task.specs.declared.output.LineFault.{LineFault}
use Rattle.source_task.specs.declared.output.SourceOutput.{SourceOutput}
use Rattle.source_task.specs.Emitting.{AreSnapshots, HasBroken, HasEnded, start_of}
use Rattle.source_task.specs.Cutting.{BrokeOff, cause_of_line}

-- A source ends so only where its own input failed, or is over a limit.
abbrev pub IsSourceCause : ℕ → Option (List ℕ) → ℕ → ℕ → Cause → Type 0
IsSourceCause a left fell rose causes.Done = ⊤
IsSourceCause a left fell rose causes.Stopped = ⊤
IsSourceCause a left fell rose (causes.Input source) = (source ≡ a) × HasRisen fell rose
IsSourceCause a left fell rose causes.Keeper = ⊥
IsSourceCause a left fell rose causes.Link = ⊥
IsSourceCause a left fell rose (causes.LongLine source) = (source ≡ a) × IfSome left (λ bytes. HasLongLine (lines bytes))
IsSourceCause a left fell rose (causes.BigSource source) = (source ≡ a) × IfSome left (λ bytes. source_max < length bytes)
IsSourceCause a left fell rose causes.BigImage = ⊥
IsSourceCause a left fell rose (causes.OverCredit channel received announced) = ⊥
IsSourceCause a left fell rose (causes.Peer fault) = ⊥
IsSourceCause a left fell rose causes.Memory = ⊤

-- What source a did by its passes: it emitted lines of its input from its start on, where that is told, with a barrier and a snapshot
-- behind each group of them. Behind a snapshot that it sent at its end no line follows, and none is left; one that was at its end before
-- emitted none. It was done only where it had acknowledged the last checkpoint of the job, at its end, and then ended its channels. Whatever
-- its cause, it put at most one barrier more than it sent snapshots, a barrier behind the first only after it had seen the image of the
-- checkpoint before, and an end only behind the barrier of the last checkpoint.
pub record SourceAccount (job : Job) (a size : ℕ) (start : Start) (every : Option ℕ) (passes : List SendPass) (sent : List Snapshot) (history : List (ℕ × Stored)) (left : Option (List ℕ)) (fell rose : ℕ) (cause : Cause) : Type 0 where
  pub groups : List (List (List ℕ))
  pub rest : List (List ℕ)
  pub begun : List (List ℕ)
  pub snapshots : AreSnapshots a every (from_of job start 0 a).number (from_of job start 0 a).offset (from_of job start 0 a).emitted groups sent
  pub put : (c : ℕ) → c < ways_on job 0 → BegunOn (receiver_on job 0 a) (from_of job start 0 a).emitted groups (end_of job 0 a c) size (rest ++ begun) (HasWaited (base_of start) (suc (length groups)) history) (MayEnd (base_of start) every history groups (rest ++ begun)) (mine_at c passes)
  pub short : AllByRecursion IsShort (all_of groups ++ (rest ++ begun))
  pub front : IfSome left (λ bytes. StartsWith (drop (from_of job start 0 a).offset (lines bytes)) (all_of groups ++ (rest ++ begun)))
  pub at_end : has_ended (was_ended start a) sent ≡ true → rest ++ begun ≡ []
  pub whole : has_ended false sent ≡ true → was_ended start a ≡ false → IfSome left (λ bytes. drop (from_of job start 0 a).offset (lines bytes) ≡ all_of groups)
  pub still : was_ended start a ≡ true → all_of groups ≡ []
  pub done : cause ≡ causes.Done → (has_ended (was_ended start a) sent ≡ true) × LastIs (base_of start) every history (length groups) true × ((c : ℕ) → c < ways_on job 0 → FinishedOn (receiver_on job 0 a) (from_of job start 0 a).emitted groups (end_of job 0 a c) size [] (mine_at c passes))
  pub within : cause ≡ causes.Done → was_ended start a ≡ false → IfSome left (λ bytes. length bytes ≤ source_max)
  pub never_falls : fell ≤ rose
  pub cause_is : IsSourceCause a left fell rose cause

-- It has its account, and was stopped only where its writer's pass had seen a fault.
pub record SourceEnd (job : Job) (size : ℕ) (out : SourceOutput) (left : Option (List ℕ)) (fell rose : ℕ) (cause : Cause) : Type 0 where
  pub account : SourceAccount job out.index size (start_of out) out.every out.output.writer.passes (sent_by out.acks.pass) (seen out.acks.last_pass) left fell rose cause
  pub stopped : cause ≡ causes.Stopped → HasSeenFault out.output.writer

-- A source that had read these lines, and was to read no more, ended behind its last checkpoint, or broke off on the way there.
abbrev pub EndedBehind : Job → ℕ → SourceOutput → List (List ℕ) → Cause → Type 0
EndedBehind job size out read cause =
    ((cause ≡ causes.Done) × HasEnded job size out read)
    ⊎ ((cause ≢ causes.Done) × (cause ≡ causes.Stopped → HasSeenFault out.output.writer) × ((cause ≡ causes.Memory) ⊎ (cause ≡ causes.Stopped)) × HasBroken job size out read [])

-- One that had read its input to the end, with this line begun, read that too and then ended; or it broke off on the way there.
abbrev pub EndedAs : Job → ℕ → SourceOutput → List (List ℕ) → List ℕ → ℕ → Cause → Type 0
EndedAs job size out ended line source cause =
    (AllByRecursion IsShort (ended ++ lines (line ++ [])) × EndedBehind job size out (ended ++ lines (line ++ [])) cause)
    ⊎ ((fault : LineFault) × (cause ≡ cause_of_line source fault) × BrokeOff job size out ended (line ++ []) fault)
