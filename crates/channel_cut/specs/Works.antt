-- What a task did, told as its loop keeps it: stretch by stretch what it took and emitted, and the snapshot that ended each. As in Flink a
-- source takes nothing, and a task of the aggregate emits nothing. That the stretches and the snapshots are told side by side is this
-- project's own choice.
use Rattle.std.specs.Prelude.{◌≡◌, ℕ, zero, suc, ◌+◌, ◌<◌, ◌≤◌, ⊤, true, List, [], ◌∷◌, ◌++◌, length, map, slice_range, Option}
use Rattle.std.specs.List.{AllByRecursion}
use Rattle.turn_cell.specs.History.{by, entries_of}
use Rattle.flow_defs.specs.declared.job.Job.{Job}
use Rattle.flow_defs.specs.declared.image.Snapshot.{Snapshot}
use Rattle.flow_defs.specs.Jobs.{last_edge, is_channel}
use Rattle.flow_defs.specs.Records.{IsShort, all_encoded}
use Rattle.flow_defs.specs.Tables.{add_all}
use Rattle.plain_machine.specs.Emitting.{receiver_on, emit, count_after}
use Rattle.plain_machine.specs.Histories.{of_sender, records}
use Rattle.checkpoint_laws.specs.Puts.{stretches}
use Rattle.checkpoint_laws.specs.Chapters.{Chapter, OffsetGoesOn, RunsTake, applied, task_at}
use Rattle.subpartition.specs.declared.entry.SendEntry.{SendEntry}
use Rattle.subpartition.specs.Sending.{parcels_put}
use Rattle.input_channel.specs.declared.entry.ReceiveEntry.{ReceiveEntry}
use Rattle.channel_cut.specs.Cuts.{InLine, Shows}
use Rattle.channel_cut.specs.Takings.{taken_to}
use Rattle.channel_cut.specs.Runs.{HasNoFlight, TaskDid}

-- ---- one stretch

-- What a task took and emitted between two of its snapshots.
pub record Work : Type 0 where
  pub took : List (ℕ × List ℕ)
  pub emitted : List (List ℕ)

-- The snapshot behind a stretch, by the one before it: of source a with these lines,
pub record SourceWork (lines : List (List ℕ)) (every : Option ℕ) (a : ℕ) (old : Snapshot) (work : Work) (new : Snapshot) : Type 0 where
  pub task : new.task ≡ task_at 0 a
  pub number : new.number ≡ old.number + 1
  pub goes : OffsetGoesOn every (length lines) old.offset new.offset new.ended
  pub emits : work.emitted ≡ slice_range lines old.offset new.offset
  pub count : new.emitted ≡ count_after old.emitted work.emitted
  pub short : AllByRecursion IsShort work.emitted

-- and of task b behind edge e.
pub record TakerWork (job : Job) (e b : ℕ) (old : Snapshot) (work : Work) (new : Snapshot) : Type 0 where
  pub task : new.task ≡ task_at (suc e) b
  pub number : new.number ≡ old.number + 1
  pub takes : RunsTake job e b new.takes.items work.took
  pub emits : suc e ≤ last_edge job → work.emitted ≡ applied job e work.took
  pub count : suc e ≤ last_edge job → new.emitted ≡ count_after old.emitted work.emitted
  pub short : AllByRecursion IsShort work.emitted
  pub counts : e ≡ last_edge job → new.table ≡ add_all job.agg old.table (records work.took)

-- Of task a of stage i.
abbrev pub WorkStep : Job → (ℕ → List (List ℕ)) → Option ℕ → ℕ → ℕ → Snapshot → Work → Snapshot → Type 0
WorkStep job lines every zero a old work new = SourceWork (lines a) every a old work new
WorkStep job lines every (suc e) b old work new = TakerWork job e b old work new

-- ---- all stretches

-- These are the snapshots of task a of stage i that end these stretches, one behind the other, from this on.
abbrev pub AreWorks : Job → (ℕ → List (List ℕ)) → Option ℕ → ℕ → ℕ → Snapshot → List Work → List Snapshot → Type 0
AreWorks job lines every i a old [] [] = ⊤
AreWorks job lines every i a old [] (x ∷ xs) = ⊥
AreWorks job lines every i a old (work ∷ works) [] = ⊥
AreWorks job lines every i a old (work ∷ works) (x ∷ xs) = WorkStep job lines every i a old work x × AreWorks job lines every i a x works xs

-- What it took in each of them, and what it emitted.
abbrev pub groups_of : List Work → List (List (ℕ × List ℕ))
groups_of works = map (λ (work : Work). work.took) works

abbrev pub emitted_of : List Work → List (List (List ℕ))
emitted_of works = map (λ (work : Work). work.emitted) works

-- What these groups of records bring to task b, group by group, where the first record is emitted from the count n on.
abbrev pub brought : (ℕ → List ℕ → ℕ) → ℕ → List (List (List ℕ)) → ℕ → List (List ℕ)
brought to n [] b = []
brought to n (group ∷ groups) b = all_encoded (emit to n group b) ∷ brought to (count_after n group) groups b

-- ---- the account

-- The account of a task of any kind, from any base, as its loop keeps it: its stretches and the snapshots behind them, with nothing in flight;
-- what it put before its barriers on the channels on which it sends; and how its gate cut each channel from which it takes.
pub record HasWorked (job : Job) (lines : ℕ → List (List ℕ)) (every : Option ℕ) («from» : Snapshot) (flight : ℕ → ℕ → List ℕ) (i a : ℕ) (works : List Work) (acks : List Snapshot)
    (sends : ℕ → List (ℕ × SendEntry)) (takes : ℕ → ℕ → List (ℕ × ReceiveEntry)) (more : ℕ → List (List ℕ)) : Type 0 where
  pub are_works : AreWorks job lines every i a «from» works acks
  pub no_flight : AllByRecursion HasNoFlight acks
  pub puts : (b : ℕ) → is_channel job i a b ≡ true → stretches (parcels_put (by 0 (sends b))) ≡ brought (receiver_on job i a) «from».emitted (emitted_of works) b ++ more b
  pub cuts : (e s k : ℕ) → i ≡ suc e → is_channel job e s a ≡ true → k < length acks →
      Shows (flight e s) (entries_of (takes e s)) (InLine (suc k) (of_sender s (taken_to (suc k) (groups_of works))))

-- It is an account by chapters.
abbrev pub WorkedIsDid : Type 0
WorkedIsDid =
    (job : Job) (lines : ℕ → List (List ℕ)) (every : Option ℕ) («from» : Snapshot) (flight : ℕ → ℕ → List ℕ) (i a : ℕ) (works : List Work) (acks : List Snapshot)
    (sends : ℕ → List (ℕ × SendEntry)) (takes : ℕ → ℕ → List (ℕ × ReceiveEntry)) (more : ℕ → List (List ℕ)) →
    HasWorked job lines every «from» flight i a works acks sends takes more → (chapters : List Chapter) × TaskDid job lines every «from» flight i a chapters acks sends takes more
