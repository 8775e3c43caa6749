-- What a task did, told by chapters: one for each snapshot that it sent. As in Flink each task goes on
-- from one checkpoint to the next, and its snapshot says where it stands. That its account is a list
-- of chapters, each in one relation to the one before it, is this project's own choice.
use Rattle.std.specs.Prelude.{◌≡◌, ℕ, zero, suc, ◌+◌, ◌≤◌, ⊤, Bool, false, true, min, nat_lt, List, [], ◌∷◌, ◌++◌, length, map, flat_map, slice_index, slice_range, unwrap_or, slice_get, Option, Some, None}
use Rattle.std.specs.List.{AllByRecursion}
use Rattle.std.specs.FinMap.{empty}
use Rattle.flow_defs.specs.declared.parcel.Parcel.{Parcel}
use Rattle.flow_defs.specs.declared.task.TaskId.{TaskId}
use Rattle.flow_defs.specs.declared.job.Job.{Job}
use Rattle.flow_defs.specs.declared.image.TakeRun.{TakeRun}
use Rattle.flow_defs.specs.declared.image.Snapshot.{Snapshot}
use Rattle.flow_defs.specs.declared.image.Image.{Image}
use Rattle.flow_defs.specs.Records.{IsShort, IsSpans}
use Rattle.flow_defs.specs.Jobs.{last_edge, is_channel}
use Rattle.flow_defs.specs.Tables.{add_all}
use Rattle.plain_machine.specs.Places.{sender_place}
use Rattle.plain_machine.specs.Emitting.{receiver_on, emit, count_after, apply_behind}
use Rattle.plain_machine.specs.Images.{takes_of, AreRuns}
use Rattle.plain_machine.specs.Histories.{run_senders, senders, records}
use Rattle.checkpoint_laws.specs.Puts.{stretches}

-- Each of these is in a relation to the one before it, and the first to x.
abbrev pub Linked : {X : Type 0} → (X → X → Type 0) → X → List X → Type 0
Linked R x [] = ⊤
Linked R x (y ∷ ys) = R x y × Linked R y ys

-- ---- What a task does from one snapshot to the next

-- How far a source goes that has so many lines: without an interval to its end. With one it goes so many
-- lines or to its end, and is ended where it could not go the whole interval.
abbrev pub OffsetGoesOn : Option ℕ → ℕ → ℕ → ℕ → Bool → Type 0
OffsetGoesOn None all old new ended = (new ≡ all) × (ended ≡ true)
OffsetGoesOn (Some interval) all old new ended = (new ≡ min (old + interval) all) × (ended ≡ nat_lt all (old + interval))

-- Task a of stage e emits these records: the counts before and after them, and the bytes that it puts on
-- the channel to each receiving task.
pub record Emits (job : Job) (e a old new : ℕ) (emitted : List (List ℕ)) (put : ℕ → List ℕ) : Type 0 where
  pub count : new ≡ count_after old emitted
  pub puts : (b : ℕ) → is_channel job e a b ≡ true → IsSpans (put b) (emit (receiver_on job e a) old emitted b)

-- Task b behind edge e takes these records, each with its sender, and notes them in these runs.
pub record RunsTake (job : Job) (e b : ℕ) (runs : List TakeRun) (took : List (ℕ × List ℕ)) : Type 0 where
  pub senders_are : run_senders runs ≡ senders took
  pub are_runs : AreRuns job e b runs
  pub short : AllByRecursion IsShort (records took)

-- What a stateless task behind edge e emits for what it took.
abbrev pub applied : Job → ℕ → List (ℕ × List ℕ) → List (List ℕ)
applied job e took = flat_map (apply_behind job e) (records took)

-- ---- Chapters

-- What a task did since the snapshot before, and the snapshot that ended it: the records that it took,
-- each with its sender, and the data that it put on the channel to each receiving task.
pub record Chapter : Type 0 where
  pub took : List (ℕ × List ℕ)
  pub put : ℕ → List ℕ
  pub snapshot : Snapshot

-- The task that this is.
abbrev pub task_at : ℕ → ℕ → TaskId
task_at i a = record { stage = i; index = a }

-- What an image shows of task a of stage i.
abbrev pub shown : Job → Image → ℕ → ℕ → Snapshot
shown job image i a = record {
  task = task_at i a;
  number = image.number;
  offset = slice_index image.offsets.items a;
  ended = unwrap_or (slice_get image.ended.items a) false;
  emitted = slice_index image.emitted.items (sender_place job i a);
  table = unwrap_or (slice_get image.tables.items a) empty;
  takes = record { items = takes_of job image i a; room = 0 };
  saved_in = record { items = []; room = 0 };
  saved_out = record { items = []; room = 0 };
}

-- The chapter from which the task goes on.
abbrev pub opening : Job → Image → ℕ → ℕ → Chapter
opening job image i a = record { took = []; put = λ b. []; snapshot = shown job image i a }

-- A source with these lines goes on from one chapter to the next.
pub record SourceStep (job : Job) (lines : List (List ℕ)) (every : Option ℕ) (a : ℕ) (old new : Chapter) : Type 0 where
  pub task : new.snapshot.task ≡ task_at 0 a
  pub number : new.snapshot.number ≡ old.snapshot.number + 1
  pub goes : OffsetGoesOn every (length lines) old.snapshot.offset new.snapshot.offset new.snapshot.ended
  pub emits : Emits job 0 a old.snapshot.emitted new.snapshot.emitted (slice_range lines old.snapshot.offset new.snapshot.offset) new.put

-- Task b behind edge e goes on: a stateless one emits, and one of the aggregate counts.
pub record TakerStep (job : Job) (e b : ℕ) (old new : Chapter) : Type 0 where
  pub task : new.snapshot.task ≡ task_at (suc e) b
  pub number : new.snapshot.number ≡ old.snapshot.number + 1
  pub takes : RunsTake job e b new.snapshot.takes.items new.took
  pub emits : suc e ≤ last_edge job → Emits job (suc e) b old.snapshot.emitted new.snapshot.emitted (applied job e new.took) new.put
  pub counts : e ≡ last_edge job → new.snapshot.table ≡ add_all job.agg old.snapshot.table (records new.took)

-- Task a of a stage goes on.
abbrev pub Step : Job → (ℕ → List (List ℕ)) → Option ℕ → ℕ → ℕ → Chapter → Chapter → Type 0
Step job lines every zero a old new = SourceStep job (lines a) every a old new
Step job lines every (suc e) b old new = TakerStep job e b old new

-- The account of task a of stage i, whatever its end: chapters that go on from what the image shows,
-- which end with the snapshots that it sent, and whose data stand before the barriers that it put on each
-- channel. It may have put more behind them.
pub record Account (job : Job) (lines : ℕ → List (List ℕ)) (every : Option ℕ) (base : Image) (i a : ℕ)
    (chapters : List Chapter) (sent : List Snapshot) (parcels : ℕ → List Parcel) (more : ℕ → List (List ℕ)) : Type 0 where
  pub steps : Linked (Step job lines every i a) (opening job base i a) chapters
  pub snapshots : map (λ (c : Chapter). c.snapshot) chapters ≡ sent
  pub puts : (b : ℕ) → is_channel job i a b ≡ true → stretches (parcels b) ≡ map (λ (c : Chapter). c.put b) chapters ++ more b
