-- From what tasks and channels did, in bytes, to the successor of an image. As in FLIP-76, on each
-- channel what was in flight and what was sent is what was taken and then what was saved.
use Rattle.std.specs.Prelude.{◌≡◌, ℕ, suc, ◌<◌, ◌≤◌, true, false, length, slice_range, slice_index, List, [], ◌++◌, flat_map}
use Rattle.std.specs.List.{AllByRecursion}
use Rattle.flow_defs.specs.declared.job.Job.{Job}
use Rattle.flow_defs.specs.declared.image.Image.{Image}
use Rattle.flow_defs.specs.Records.{all_encoded, IsShort}
use Rattle.flow_defs.specs.Jobs.{last_edge, tasks, is_channel}
use Rattle.flow_defs.specs.Tables.{add_all}
use Rattle.plain_machine.specs.Cuts.{SameCut}
use Rattle.plain_machine.specs.Emitting.{receiver_on, emit, count_after, apply_behind}
use Rattle.plain_machine.specs.Steps.{Rises}
use Rattle.plain_machine.specs.Images.{AreSpans, cut_of, takes_of, saved}
use Rattle.plain_machine.specs.Chains.{IsStepTo, cut_after}
use Rattle.plain_machine.specs.Histories.{run_senders, senders, records, of_sender}

-- What task a of stage e sends to task b, when it emits these records from the old image on.
abbrev pub put_on : Job → Image → ℕ → ℕ → ℕ → List (List ℕ) → List (List ℕ)
put_on job old e a b emitted = emit (receiver_on job e a) ((cut_of job old).emitted e a) emitted b

-- A new image is recorded: since the old one task a of stage i emitted put i a, task b behind edge e
-- took took e b, and the image holds what came of it.
-- It joins bytes and records since the old image. A cut that reckons from the base of a run is cut at that
-- image first, by the law `CutBetween`.
pub record Recorded (job : Job) (lines : ℕ → List (List ℕ)) (old new : Image) (took : ℕ → ℕ → List (ℕ × List ℕ)) (put : ℕ → ℕ → List (List ℕ)) : Type 0 where
  pub rise : Rises job (slice_index old.offsets.items) (slice_index new.offsets.items)
  pub within : (a : ℕ) → a < tasks job 0 → slice_index new.offsets.items a ≤ length (lines a)
  pub sources : (a : ℕ) → a < tasks job 0 → put 0 a ≡ slice_range (lines a) (slice_index old.offsets.items a) (slice_index new.offsets.items a)
  pub stages : (e b : ℕ) → e < last_edge job → b < tasks job (suc e) → put (suc e) b ≡ flat_map (apply_behind job e) (records (took e b))
  pub counts : (i a : ℕ) → i ≤ last_edge job → a < tasks job i → (cut_of job new).emitted i a ≡ count_after ((cut_of job old).emitted i a) (put i a)
  pub runs : (e b : ℕ) → e ≤ last_edge job → b < tasks job (suc e) → run_senders (takes_of job new (suc e) b) ≡ senders (took e b)
  pub tables : (b : ℕ) → b < tasks job (suc (last_edge job)) → (cut_of job new).tables b ≡ add_all job.agg ((cut_of job old).tables b) (records (took (last_edge job) b))
  -- the cut of each channel
  pub cut : (e a b : ℕ) → is_channel job e a b ≡ true →
      saved job old e a b ++ all_encoded (put_on job old e a b (put e a)) ≡ all_encoded (of_sender a (took e b)) ++ saved job new e a b
  -- a task takes of senders alone that have a channel to it
  pub apart : (e a b : ℕ) → e ≤ last_edge job → b < tasks job (suc e) → is_channel job e a b ≡ false → of_sender a (took e b) ≡ []
  -- no record is too long
  pub short : (e a b : ℕ) → is_channel job e a b ≡ true → AllByRecursion IsShort (put_on job old e a b (put e a)) × AllByRecursion IsShort (of_sender a (took e b))

-- The new image stands where the step from the old one leads, and what it saved are records.
pub record IsSuccessor (job : Job) (lines : ℕ → List (List ℕ)) (old new : Image) : Type 0 where
  pub defined : IsStepTo job lines old new
  pub same : SameCut job (cut_of job new) (cut_after job lines old new)
  pub spans : (e a b : ℕ) → is_channel job e a b ≡ true → AreSpans (saved job new e a b)
