-- A source under way. As in Flink a source puts a barrier behind the records that it emitted before its snapshot, and goes on. After how
-- many lines it does so, and that it stays at its end for the checkpoints that follow, is this project's own choice.
use Rattle.std.specs.Prelude.{◌≡◌, ℕ, suc, ◌+◌, ◌-◌, ◌<◌, ⊤, Bool, true, false, List, [], ◌∷◌, ◌++◌, length, drop, Option, Some, None, IfSome, Result, Ok, Err}
use Rattle.std.specs.List.{AllByRecursion}
use Rattle.std.specs.FinMap.{empty}
use Rattle.turn_cell.specs.Passes.{seen}
use Rattle.flow_defs.specs.declared.job.Job.{Job}
use Rattle.flow_defs.specs.declared.image.Snapshot.{Snapshot}
use Rattle.flow_defs.specs.Records.{IsShort}
use Rattle.plain_machine.specs.Emitting.{count_after}
use Rattle.checkpoint_laws.specs.Chapters.{task_at}
use Rattle.job_start.specs.declared.start.Start.{Start}
use Rattle.job_start.specs.Starts.{from_of, was_ended}
use Rattle.record_writer.specs.Writers.{IsSame, HasSeenFault}
use Rattle.snapshot_channel.specs.Passes.{opening_of, sent_by, task_of}
use Rattle.snapshot_channel.specs.Snapshots.{has_ended}
use Rattle.task_output.specs.Acking.{HasPasses, base_of}
use Rattle.task_output.specs.Outputs.{HasSent, HasBegun, HasFinished, all_of}
use Rattle.task_output.specs.Waiting.{HasWaited, LastIs, MayEnd}
use Rattle.source_task.specs.declared.output.SourceOutput.{SourceOutput}
use Rattle.source_task.specs.declared.output.LineFault.{LineFault}
use Rattle.source_task.specs.declared.output.LineFault.TheVariants as faults

-- ---- the snapshots of a source

-- The snapshot of source a for checkpoint k, where it has read so many lines and emitted so many records modulo 2^64.
pub record IsSnapshotAt (a k offset emitted : ℕ) (x : Snapshot) : Type 0 where
  pub task : x.task ≡ task_at 0 a
  pub number : x.number ≡ k
  pub offset_is : x.offset ≡ offset
  pub emitted_is : x.emitted ≡ emitted
  pub no_table : x.table ≡ empty
  pub no_takes : x.takes.items ≡ []
  pub none_in : x.saved_in.items ≡ []
  pub none_out : x.saved_out.items ≡ []

-- How many lines a source reads between two barriers: with no interval all that there are, and it is then at its end. With one so
-- many, or fewer where it comes to its end.
abbrev pub IsInterval : Option ℕ → ℕ → Bool → Type 0
IsInterval None lines ended = ended ≡ true
IsInterval (Some interval) lines false = lines ≡ interval
IsInterval (Some interval) lines true = lines < interval

-- These are the snapshots of source a that belong to the groups of lines before its barriers, where so many checkpoints, lines and
-- records came before. Behind one at its end no line comes.
abbrev pub AreSnapshots : ℕ → Option ℕ → ℕ → ℕ → ℕ → List (List (List ℕ)) → List Snapshot → Type 0
AreSnapshots a every k offset emitted [] [] = ⊤
AreSnapshots a every k offset emitted [] (x ∷ xs) = ⊥
AreSnapshots a every k offset emitted (group ∷ groups) [] = ⊥
AreSnapshots a every k offset emitted (group ∷ groups) (x ∷ xs) =
    IsSnapshotAt a (suc k) (offset + length group) (count_after emitted group) x
    × IsInterval every (length group) x.ended
    × (x.ended ≡ true → all_of groups ≡ [])
    × AreSnapshots a every (suc k) (offset + length group) (count_after emitted group) groups xs

-- ---- a source under way

-- From where the run goes on for which its channel of snapshots is opened, and from where the source itself does.
abbrev pub start_of : SourceOutput → Start
start_of out = (opening_of out.acks.snapshots.now).start

abbrev pub from_in : Job → SourceOutput → Snapshot
from_in job out = from_of job (start_of out) 0 out.index

-- Whether it is at its end: it has told so, or was there before.
abbrev pub is_at_end : SourceOutput → Bool
is_at_end out = has_ended (was_ended (start_of out) out.index) (sent_by out.acks.pass)

-- The source of the job has read these lines of its input from the first on. It has emitted those behind its start, in segments of this
-- size, with a barrier and a snapshot behind each of the groups and none behind the rest.
pub record HasEmitted (job : Job) (size : ℕ) (out : SourceOutput) (lines : List (List ℕ)) : Type 0 where
  pub groups : List (List (List ℕ))
  pub rest : List (List ℕ)
  pub all_are : all_of groups ++ rest ≡ drop (from_in job out).offset lines
  pub sent : HasSent (from_in job out).emitted job 0 out.index size out.output groups rest
  pub snapshots : AreSnapshots out.index out.every (from_in job out).number (from_in job out).offset (from_in job out).emitted groups (sent_by out.acks.pass)
  pub offset_is : out.offset ≡ (from_in job out).offset + length (all_of groups ++ rest)
  pub skip_is : out.skip ≡ (from_in job out).offset - length lines
  pub since_is : out.since ≡ length rest
  pub at_end : is_at_end out ≡ true → rest ≡ []

-- It was stopped, or found no memory, where it had read these lines and had begun to emit those. It may have put a further barrier only
-- where it had seen the image of the checkpoint before.
pub record HasBroken (job : Job) (size : ℕ) (out : SourceOutput) (lines begun : List (List ℕ)) : Type 0 where
  pub groups : List (List (List ℕ))
  pub rest : List (List ℕ)
  pub all_are : all_of groups ++ (rest ++ begun) ≡ drop (from_in job out).offset (lines ++ begun)
  pub begun_them : HasBegun (from_in job out).emitted job 0 out.index size out.output groups rest begun (HasWaited (base_of (start_of out)) (suc (length groups)) (seen out.acks.last_pass)) (MayEnd (base_of (start_of out)) out.every (seen out.acks.last_pass) groups (rest ++ begun))
  pub snapshots : AreSnapshots out.index out.every (from_in job out).number (from_in job out).offset (from_in job out).emitted groups (sent_by out.acks.pass)
  pub at_end : is_at_end out ≡ true → rest ++ begun ≡ []

-- It has ended its channels behind these lines, and had acknowledged the last checkpoint of the job.
pub record HasEnded (job : Job) (size : ℕ) (out : SourceOutput) (lines : List (List ℕ)) : Type 0 where
  pub groups : List (List (List ℕ))
  pub all_are : all_of groups ≡ drop (from_in job out).offset lines
  pub finished : HasFinished (from_in job out).emitted job 0 out.index size out.output groups []
  pub snapshots : AreSnapshots out.index out.every (from_in job out).number (from_in job out).offset (from_in job out).emitted groups (sent_by out.acks.pass)
  pub ended : is_at_end out ≡ true
  pub last : LastIs (base_of (start_of out)) out.every (seen out.acks.last_pass) (length groups) true

-- Its passes are of its channel and its cell. It has sent a snapshot only where it had seen the image of the checkpoint before.
pub record HasOwnPasses (out : SourceOutput) : Type 0 where
  pub passes : HasPasses out.acks
  pub task : task_of out.acks.pass ≡ task_at 0 out.index
  pub waited : HasWaited (base_of (start_of out)) (length (sent_by out.acks.pass)) (seen out.acks.last_pass)

-- What a source has at hand is its own: it has read some lines, and its channel of snapshots is opened for its interval.
pub record IsSource (out : SourceOutput) : Type 0 where
  pub job : Job
  pub size : ℕ
  pub lines : List (List ℕ)
  pub emitted : HasEmitted job size out lines
  pub own : HasOwnPasses out
  pub every_is : (opening_of out.acks.snapshots.now).every ≡ out.every

-- It reads on: it is not at its end, and the next barrier is not due.
pub record IsReading (out : SourceOutput) : Type 0 where
  pub source : IsSource out
  pub not_ended : is_at_end out ≡ false
  pub not_due : IfSome out.every (λ interval. out.since < interval)

-- It is the same source, writes by the same writer, and acknowledges by the same channel and the same cell.
pub record IsSameSource (out out' : SourceOutput) : Type 0 where
  pub writer : IsSame out.output.writer out'.output.writer
  pub index : out'.index ≡ out.index
  pub every_is : out'.every ≡ out.every
  pub snapshots : out'.acks.snapshots ≡ out.acks.snapshots
  pub last_image : out'.acks.last_image ≡ out.acks.last_image

-- Of these further lines it had read the first ones and begun those behind them, where it broke off.
pub record BrokeAmong (job : Job) (size : ℕ) (out : SourceOutput) (lines further : List (List ℕ)) : Type 0 where
  pub done : List (List ℕ)
  pub begun : List (List ℕ)
  pub rest : List (List ℕ)
  pub parts : further ≡ done ++ (begun ++ rest)
  pub short : AllByRecursion IsShort (done ++ begun)
  pub not_ended : is_at_end out ≡ false
  pub broken : HasBroken job size out (lines ++ done) begun

-- A line was read, and a barrier put behind it where one was due; or the source broke off there.
abbrev pub LineEmitted : Job → ℕ → SourceOutput → List (List ℕ) → List ℕ → Result Unit LineFault → Type 0
LineEmitted job size out lines line (Ok done) = HasEmitted job size out (lines ++ line ∷ [])
LineEmitted job size out lines line (Err fault) = BrokeAmong job size out lines (line ∷ [])

-- A checkpoint was taken behind these lines, or the source broke off there.
abbrev pub CheckpointTaken : Job → ℕ → SourceOutput → List (List ℕ) → Result Bool LineFault → Type 0
CheckpointTaken job size out lines (Ok last) = HasEmitted job size out lines
CheckpointTaken job size out lines (Err fault) = HasBroken job size out lines []

-- A source breaks off only where another worker has met a fault, or for want of memory.
abbrev pub BreaksFor : LineFault → SourceOutput → Type 0
BreaksFor faults.TooLong out = ⊥
BreaksFor faults.Memory out = ⊤
BreaksFor faults.Stopped out = HasSeenFault out.output.writer
