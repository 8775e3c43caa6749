-- The rule of the channel: of what it holds, and of what each pass knows. This project's own.
use Rattle.std.specs.Prelude.{◌≡◌, ℕ, ◌+◌, ◌<◌, ◌≤◌, ◌⊎◌, List, [], ◌∷◌, ◌++◌, None}
use Rattle.std.specs.List.{AllByRecursion}
use mathlib.Core.Option.{Option, some, none}
use lib.ListN.{get_elem?}
use Rattle.flow_defs.specs.declared.job.Job.{Job}
use Rattle.flow_defs.specs.declared.job.AggKind.TheVariants.{Count}
use Rattle.flow_defs.specs.declared.task.TaskId.{TaskId}
use Rattle.flow_defs.specs.declared.image.Snapshot.{Snapshot}
use Rattle.job_start.specs.declared.start.Start.{Start}
use Rattle.snapshot_channel.specs.declared.views.Opening.{Opening}
use Rattle.snapshot_channel.specs.declared.views.Sends.{Sends}
use Rattle.snapshot_channel.specs.declared.views.Handed.{Handed}
use Rattle.snapshot_channel.specs.declared.views.Collects.{Collects}
use Rattle.snapshot_channel.specs.declared.views.View.{View}
use Rattle.snapshot_channel.specs.declared.views.View.TheVariants.{Sending, Collecting, Spent}
use Rattle.snapshot_channel.specs.Snapshots.{task, IsTask, MaySend, MaySendAll, snapshots_of}

-- What stands in where nothing was opened yet: a job of no tasks.
abbrev pub no_job : Job
no_job = record {
  sources = record { items = []; room = 0 };
  stages = record { items = []; room = 0 };
  agg = Count;
  agg_tasks = 0;
  text = record { items = []; room = 0 };
}

abbrev pub no_start : Start
no_start = record {
  number = 0;
  offsets = record { items = []; room = 0 };
  ended = record { items = []; room = 0 };
  emitted = record { items = []; room = 0 };
  tables = record { items = []; room = 0 };
}

abbrev pub no_opening : Opening
no_opening = record { job = no_job; start = no_start; every = None }

abbrev pub sends : Opening → TaskId → List Snapshot → Sends
sends opening t sent = record { opening = opening; task = t; sent = sent }

abbrev pub handed : TaskId → List Snapshot → Handed
handed t sent = record { task = t; sent = sent }

abbrev pub collects : Opening → TaskId → List Snapshot → List Handed → Collects
collects opening next received back = record { opening = opening; next = next; received = received; back = back }

-- Before anything was opened.
abbrev pub unopened : View
unopened = Collecting (collects no_opening (task 0 0) [] [])

-- The second task is the first one, or comes behind it by stage and index.
abbrev pub IsFrom : TaskId → TaskId → Type 0
IsFrom s t = (s.stage < t.stage) ⊎ ((s.stage ≡ t.stage) × (s.index ≤ t.index))

-- The task behind this one.
abbrev pub behind : TaskId → TaskId
behind t = task t.stage (t.index + 1)

-- What the passes that have come back had sent is what was sent of their tasks, whose passes are gone.
abbrev pub IsBack : (TaskId → Option ℕ) → TaskId → List Snapshot → Handed → Type 0
IsBack seat next all h = (seat h.task ≡ none) × (h.sent ≡ snapshots_of h.task all) × (IsFrom next h.task → ⊥)

-- What a pass knows is true: a task sends by one pass alone, and the collecting pass alone receives.
abbrev pub Knows : Opening → ℕ → (TaskId → Option ℕ) → TaskId → List Snapshot → List Snapshot → ℕ → View → Type 0
Knows opening collector seat next received all pass (Sending s) =
    (s.opening ≡ opening) × (seat s.task ≡ some pass) × (s.sent ≡ snapshots_of s.task all) × IsTask opening.job s.task
Knows opening collector seat next received all pass (Collecting r) =
    (pass ≡ collector) × (r.opening ≡ opening) × (r.next ≡ next) × (r.received ≡ received) × AllByRecursion (IsBack seat next all) r.back
Knows opening collector seat next received all pass Spent = Unit {0}

-- All snapshots sent are those received and then those that the channel holds. Each task has sent as it
-- may, and one that has no pass yet has sent nothing.
pub record InOrder (items : List Snapshot) (views : List View) : Type 0 where
  pub opening : Opening
  pub collector : ℕ
  pub seat : TaskId → Option ℕ
  pub next : TaskId
  pub received : List Snapshot
  pub all : List Snapshot
  pub all_is : all ≡ received ++ items
  pub each : (t : TaskId) → MaySendAll opening t [] (snapshots_of t all)
  pub still : (t : TaskId) → IsFrom next t → (snapshots_of t all ≡ []) × (seat t ≡ none)
  pub knows : (pass : ℕ) (v : View) → get_elem? views pass ≡ some v → Knows opening collector seat next received all pass v

-- ---- what the steps do to the views

-- The channel is opened.
abbrev pub opened : Opening → View → View
opened opening (Sending s) = Sending s
opened opening (Collecting r) = Collecting (collects opening r.next r.received [])
opened opening Spent = Spent

-- A task gets its pass.
abbrev pub dealt : TaskId → View → View
dealt t (Sending s) = Sending s
dealt t (Collecting r) = Collecting (collects r.opening (behind t) r.received r.back)
dealt t Spent = Spent

abbrev pub dealt_to : TaskId → View → View
dealt_to t (Sending s) = Spent
dealt_to t (Collecting r) = Sending (sends r.opening t [])
dealt_to t Spent = Spent

-- A task's pass sends a snapshot.
abbrev pub sent_more : View → Snapshot → View
sent_more (Sending s) x = Sending (sends s.opening s.task (s.sent ++ x ∷ []))
sent_more (Collecting r) x = Collecting r
sent_more Spent x = Spent

-- A task's pass comes back.
abbrev pub gathered : View → View → View
gathered (Collecting r) (Sending s) = Collecting (collects r.opening r.next r.received (handed s.task s.sent ∷ r.back))
gathered (Collecting r) (Collecting other) = Collecting r
gathered (Collecting r) Spent = Collecting r
gathered (Sending s) w = Sending s
gathered Spent w = Spent

-- ---- what is asked of the views, and what is learnt

abbrev pub IsCollector : View → Type 0
IsCollector (Sending s) = ⊥
IsCollector (Collecting r) = Unit {0}
IsCollector Spent = ⊥

abbrev pub IsSender : View → Type 0
IsSender (Sending s) = Unit {0}
IsSender (Collecting r) = ⊥
IsSender Spent = ⊥

-- No task has a pass.
abbrev pub IsUnopened : View → Type 0
IsUnopened (Sending s) = ⊥
IsUnopened (Collecting r) = r.next ≡ task 0 0
IsUnopened Spent = ⊥

-- The task may get a pass.
abbrev pub MayDeal : TaskId → View → Type 0
MayDeal t (Sending s) = ⊥
MayDeal t (Collecting r) = IsTask r.opening.job t × IsFrom r.next t
MayDeal t Spent = ⊥

-- The pass may send this snapshot.
abbrev pub MaySendBy : View → Snapshot → Type 0
MaySendBy (Sending s) x = MaySend s.opening s.task s.sent x
MaySendBy (Collecting r) x = ⊥
MaySendBy Spent x = ⊥

-- What a receive tells: the snapshot is of a task of the job, which may have sent it behind those of it
-- that were received before.
pub record Receives (r : Collects) (x : Snapshot) (w : View) : Type 0 where
  pub after_is : w ≡ Collecting (collects r.opening r.next (r.received ++ x ∷ []) r.back)
  pub task_is : IsTask r.opening.job x.task
  pub may : MaySend r.opening x.task (snapshots_of x.task r.received) x

abbrev pub Gets : View → Snapshot → View → Type 0
Gets (Sending s) x w = Unit {0}
Gets (Collecting r) x w = Receives r x w
Gets Spent x w = Unit {0}

-- What is learnt of the passes that have come back: each has sent as it may, and the snapshots of its
-- task that were received are a beginning of those that it sent.
pub record IsMet (r : Collects) (items : List Snapshot) (h : Handed) : Type 0 where
  pub all_is : snapshots_of h.task (r.received ++ items) ≡ h.sent
  pub may : MaySendAll r.opening h.task [] h.sent

abbrev pub Meets : View → List Snapshot → Type 0
Meets (Sending s) items = Unit {0}
Meets (Collecting r) items = AllByRecursion (IsMet r items) r.back
Meets Spent items = Unit {0}
