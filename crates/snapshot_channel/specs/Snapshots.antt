-- Which snapshots a task may send. As in FLIP-76 a task acknowledges each checkpoint with one snapshot.
-- That checkpoints are numbered one by one, and what a source that has ended tells, is this project's
-- own choice.
use Rattle.std.specs.Prelude.{◌≡◌, ◌≢◌, ℕ, zero, suc, ◌+◌, ◌<◌, ◌≤◌, ◌==◌, ◌&&◌, ◌||◌, Bool, true, false, ⊤, List, [], ◌∷◌, ◌++◌, length, filter, All, AllPairs, Option, Some, None}
use Rattle.std.specs.List.{list_any}
use Rattle.flow_defs.specs.declared.job.Job.{Job}
use Rattle.flow_defs.specs.declared.task.TaskId.{TaskId}
use Rattle.flow_defs.specs.declared.task.ChannelId.{ChannelId}
use Rattle.flow_defs.specs.declared.image.Snapshot.{Snapshot}
use Rattle.flow_defs.specs.declared.image.Saved.{Saved}
use Rattle.flow_defs.specs.declared.image.TakeRun.{TakeRun}
use Rattle.flow_defs.specs.Jobs.{tasks, last_edge, is_channel}
use Rattle.plain_machine.specs.Images.{AreRuns, HasShortKeys}
use Rattle.plain_machine.specs.Worth.{concat_below}
use Rattle.job_start.specs.Starts.{was_ended}
use Rattle.snapshot_channel.specs.declared.views.Opening.{Opening}

-- A task, by its stage and its index there.
abbrev pub task : ℕ → ℕ → TaskId
task i a = record { stage = i; index = a }

-- The tasks of the first stages, by stage and index.
abbrev pub tasks_below : Job → ℕ → List TaskId
tasks_below job n = concat_below n (λ i. concat_below (tasks job i) (λ a. task i a ∷ []))

-- All tasks of a job.
abbrev pub all_tasks : Job → List TaskId
all_tasks job = tasks_below job (suc (suc (last_edge job)))

-- The job has this task.
pub record IsTask (job : Job) (t : TaskId) : Type 0 where
  pub stage_is : t.stage ≤ suc (last_edge job)
  pub index_is : t.index < tasks job t.stage

abbrev pub same_task : TaskId → TaskId → Bool
same_task s t = (s.stage == t.stage) && (s.index == t.index)

-- The snapshots of one task among these, in order.
abbrev pub snapshots_of : TaskId → List Snapshot → List Snapshot
snapshots_of t xs = filter (λ (x : Snapshot). same_task x.task t) xs

-- The channel leads to this task.
pub record LeadsTo (job : Job) (t : TaskId) (c : ChannelId) : Type 0 where
  pub edge_is : suc c.edge ≡ t.stage
  pub to_is : c.to ≡ t.index
  pub channel_is : is_channel job c.edge c.from c.to ≡ true

-- The channel comes from this task.
pub record ComesFrom (job : Job) (t : TaskId) (c : ChannelId) : Type 0 where
  pub edge_is : c.edge ≡ t.stage
  pub from_is : c.from ≡ t.index
  pub channel_is : is_channel job c.edge c.from c.to ≡ true

-- No channel has two of these pieces.
abbrev pub HaveOwnChannels : List Saved → Type 0
HaveOwnChannels pieces = AllPairs (λ (p q : Saved). p.channel ≢ q.channel) pieces

-- What a task may have taken: runs of the records that come to it. Sources take nothing.
abbrev pub AreTakesAt : Job → ℕ → ℕ → List TakeRun → Type 0
AreTakesAt job zero b runs = runs ≡ []
AreTakesAt job (suc e) b runs = AreRuns job e b runs

-- A snapshot fits its task: no key of its table is longer than a record, it took what may come to it,
-- and the pieces that it saved are of its own channels, at most one of each.
pub record FitsTask (job : Job) (x : Snapshot) : Type 0 where
  pub keys : HasShortKeys x.table
  pub runs : AreTakesAt job x.task.stage x.task.index x.takes.items
  pub came_in : All (λ (p : Saved). LeadsTo job x.task p.channel) x.saved_in.items
  pub came_in_once : HaveOwnChannels x.saved_in.items
  pub goes_out : All (λ (p : Saved). ComesFrom job x.task p.channel) x.saved_out.items
  pub goes_out_once : HaveOwnChannels x.saved_out.items

-- Whether a source has told that it is at its end, or was there before.
abbrev pub has_ended : Bool → List Snapshot → Bool
has_ended was before = was || list_any (λ (x : Snapshot). x.ended) before

-- With no interval between checkpoints a source reads to its end. With one it stays at its end once it
-- is there.
abbrev pub IsAtEnd : Option ℕ → Bool → List Snapshot → Type 0
IsAtEnd None was before = ⊤
IsAtEnd (Some every) was before = has_ended was before ≡ true

-- What a task may send behind the snapshots that it has sent: a snapshot of its own, with the next
-- number, that fits it. That of a source at its end tells so.
pub record MaySend (opening : Opening) (t : TaskId) (before : List Snapshot) (x : Snapshot) : Type 0 where
  pub task_is : x.task ≡ t
  pub number_is : x.number ≡ opening.start.number + length before + 1
  pub fits : FitsTask opening.job x
  pub at_end : t.stage ≡ 0 → IsAtEnd opening.every (was_ended opening.start t.index) before → x.ended ≡ true

-- Behind those sent before, a task of the job may send these, one after another.
abbrev pub MaySendAll : Opening → TaskId → List Snapshot → List Snapshot → Type 0
MaySendAll opening t before [] = ⊤
MaySendAll opening t before (x ∷ xs) = IsTask opening.job t × MaySend opening t before x × MaySendAll opening t (before ++ x ∷ []) xs

-- The first list is a beginning of the second.
abbrev pub IsBeginning : List Snapshot → List Snapshot → Type 0
IsBeginning xs ys = (rest : List Snapshot) × (xs ++ rest ≡ ys)
