-- What contracts say of the channel and its passes. What a pass keeps exists in proofs alone.
use Rattle.std.specs.Prelude.{◌≡◌, ℕ, List, [], All, Option, map}
use Rattle.crossbeam_channel.specs.Claims.{view, IsSeatAt}
use Rattle.crossbeam_channel.specs.Ends.{sends_on, receives_on}
use Rattle.flow_defs.specs.declared.job.Job.{Job}
use Rattle.flow_defs.specs.declared.task.TaskId.{TaskId}
use Rattle.flow_defs.specs.declared.image.Snapshot.{Snapshot}
use Rattle.job_start.specs.declared.start.Start.{Start}
use Rattle.snapshot_channel.specs.declared.opened.SnapshotChannel.{SnapshotChannel}
use Rattle.snapshot_channel.specs.declared.opened.TaskPass.{TaskPass}
use Rattle.snapshot_channel.specs.declared.opened.CollectingPass.{CollectingPass}
use Rattle.snapshot_channel.specs.declared.opened.Opened.{Opened}
use Rattle.snapshot_channel.specs.declared.views.Opening.{Opening}
use Rattle.snapshot_channel.specs.declared.views.Handed.{Handed}
use Rattle.snapshot_channel.specs.declared.views.View.{View}
use Rattle.snapshot_channel.specs.declared.views.View.TheVariants.{Sending, Collecting, Spent}
use Rattle.snapshot_channel.specs.Snapshots.{task, all_tasks, tasks_below, IsTask, MaySendAll, snapshots_of, IsBeginning}
use Rattle.snapshot_channel.specs.Views.{handed, IsFrom}

abbrev pub opening : Job → Start → Option ℕ → Opening
opening job start every = record { job = job; start = start; every = every }

-- For what the channel was opened.
abbrev pub opening_of : SnapshotChannel → Opening
opening_of channel = opening channel.job.value channel.start.value channel.every

-- ---- what the views say

abbrev pub task_in : View → TaskId
task_in (Sending s) = s.task
task_in (Collecting r) = task 0 0
task_in Spent = task 0 0

abbrev pub sent_in : View → List Snapshot
sent_in (Sending s) = s.sent
sent_in (Collecting r) = []
sent_in Spent = []

abbrev pub received_in : View → List Snapshot
received_in (Sending s) = []
received_in (Collecting r) = r.received
received_in Spent = []

abbrev pub back_in : View → List Handed
back_in (Sending s) = []
back_in (Collecting r) = r.back
back_in Spent = []

abbrev pub next_in : View → TaskId
next_in (Sending s) = task 0 0
next_in (Collecting r) = r.next
next_in Spent = task 0 0

abbrev pub IsSenderOf : Opening → View → Type 0
IsSenderOf o (Sending s) = (s.opening ≡ o) × IsTask o.job s.task
IsSenderOf o (Collecting r) = ⊥
IsSenderOf o Spent = ⊥

abbrev pub IsCollectorOf : Opening → View → Type 0
IsCollectorOf o (Sending s) = ⊥
IsCollectorOf o (Collecting r) = r.opening ≡ o
IsCollectorOf o Spent = ⊥

-- ---- what callers read

-- The task whose pass it is.
abbrev pub task_of : TaskPass → TaskId
task_of pass = task_in (view pass.pass)

-- The snapshots that it has sent, in order.
abbrev pub sent_by : TaskPass → List Snapshot
sent_by pass = sent_in (view pass.pass)

-- The snapshots that the collecting pass has received, in order.
abbrev pub received_by : CollectingPass → List Snapshot
received_by pass = received_in (view pass.pass)

-- The passes that were taken back, the last one first, each with what it had sent.
abbrev pub back_by : CollectingPass → List Handed
back_by pass = back_in (view pass.pass)

-- All that a pass had sent when it came back is among those that were received, and nothing else of its task.
abbrev pub IsAllReceived : List Snapshot → Handed → Type 0
IsAllReceived received h = snapshots_of h.task received ≡ h.sent

-- It is a task's pass of this channel.
pub record IsPassOf (channel : SnapshotChannel) (pass : TaskPass) : Type 0 where
  pub seat_is : IsSeatAt (sends_on channel.line) pass.pass
  pub sender_is : IsSenderOf (opening_of channel) (view pass.pass)

-- It has sent nothing.
abbrev pub IsFresh : SnapshotChannel → TaskPass → Type 0
IsFresh channel pass = IsPassOf channel pass × (sent_by pass ≡ [])

-- It is the collecting pass of this channel.
pub record IsCollecting (channel : SnapshotChannel) (pass : CollectingPass) : Type 0 where
  pub seat_is : IsSeatAt (sends_on channel.line) pass.pass
  pub collector_is : IsCollectorOf (opening_of channel) (view pass.pass)

-- What a task's pass hands back.
abbrev pub handed_by : TaskPass → Handed
handed_by pass = handed (task_of pass) (sent_by pass)

-- The tasks of the first n stages have their passes, in order, and nothing is received.
pub record IsDealt (channel : SnapshotChannel) (n : ℕ) (collecting : CollectingPass) (passes : List TaskPass) : Type 0 where
  pub collecting_is : IsCollecting channel collecting
  pub from : IsFrom (next_in (view collecting.pass)) (task n 0)
  pub none_received : received_by collecting ≡ []
  pub passes_are : All (IsFresh channel) passes
  pub tasks_are : map task_of passes ≡ tasks_below (opening_of channel).job n

-- The channel is opened for this job and from where it goes on: each of its tasks has a pass, in the order of their stages and then
-- of their indices, and nothing is sent.
pub record IsOpened (job : Job) (start : Start) (every : Option ℕ) (o : Opened) : Type 0 where
  pub opening_is : opening_of o.channel ≡ opening job start every
  pub collecting_is : IsCollecting o.channel o.collecting
  pub none_received : received_by o.collecting ≡ []
  pub passes_are : All (IsFresh o.channel) o.passes.items
  pub tasks_are : map task_of o.passes.items ≡ all_tasks job

-- A task's pass has sent as it may, and the snapshots of its task that were received are a beginning of
-- those that it sent.
pub record IsReceivedOf (o : Opening) (received : List Snapshot) (pass : TaskPass) : Type 0 where
  pub beginning : IsBeginning (snapshots_of (task_of pass) received) (sent_by pass)
  pub may : MaySendAll o (task_of pass) [] (sent_by pass)
