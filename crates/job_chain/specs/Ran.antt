-- What the workers of a job did in a run with aligned checkpoints, from an image on, and what comes of it: the images that were stored are
-- a chain. As in Flink a job goes on from its last checkpoint as if nothing had been lost or repeated. That this follows from what each
-- worker tells of itself, with no order between them, is this project's own choice.
use Rattle.std.specs.Prelude.{◌≡◌, ℕ, suc, ◌<◌, true, List, [], Option, Some}
use Rattle.turn_cell.specs.History.{by}
use Rattle.flow_defs.specs.declared.cause.Cause.{Cause}
use Rattle.flow_defs.specs.declared.image.Image.{Image}
use Rattle.flow_defs.specs.declared.image.Snapshot.{Snapshot}
use Rattle.flow_defs.specs.declared.image.TakeRun.{TakeRun}
use Rattle.flow_defs.specs.declared.job.Job.{Job}
use Rattle.flow_defs.specs.Jobs.{last_edge, tasks, exchange, is_channel, IsJob}
use Rattle.flow_defs.specs.Lines.{lines}
use Rattle.flow_defs.specs.Tables.{join}
use Rattle.plain_machine.specs.Worth.{worth}
use Rattle.plain_machine.specs.Images.{saved, cut_of, IsStart}
use Rattle.plain_machine.specs.Chains.{Chain, last_of, IsUnchanged}
use Rattle.job_start.specs.declared.start.Start.{Start}
use Rattle.job_start.specs.Starts.{IsBase}
use Rattle.checkpoint_laws.specs.Runs.{IsInterval}
use Rattle.conn_parts.specs.Shares.{mine_at, seen_at}
use Rattle.record_writer.specs.Writers.{SendPass, ways_on, receiver_at, sender_at, ways_into}
use Rattle.outside.specs.declared.last_image.Stored.{Stored}
use Rattle.subpartition.specs.declared.entry.SendEntry.{SendEntry}
use Rattle.input_channel.specs.declared.entry.ReceiveEntry.{ReceiveEntry}
use Rattle.channel_cut.specs.Ends.{AreEnds}
use Rattle.gate_account.specs.Accounts.{Account}
use Rattle.input_gate.specs.States.{shows_at}
use Rattle.input_gate.specs.Turning.{InputPass}
use Rattle.source_task.specs.Sources.{SourceAccount}
use Rattle.stage_task.specs.Stages.{StageAccount}
use Rattle.aggregate_task.specs.Aggregates.{AggregateAccount}
use Rattle.collecting_worker.specs.Laws.{AreCollected}

-- ---- what is told

-- What is told of the tasks of a job, by stage and task: from where they went on, the bytes of its sources, the passes by which the tasks sent
-- and those of their gates, and the snapshots that they sent.
pub record TasksRan : Type 0 where
  pub job : Job
  pub size : ℕ
  pub start : Start
  pub every : Option ℕ
  pub bytes : ℕ → List ℕ
  pub own : ℕ → ℕ → List SendPass
  pub gate : ℕ → ℕ → List InputPass
  pub sent : ℕ → ℕ → List Snapshot

-- ---- what each did, whatever its cause

-- A source, by its passes and its snapshots.
pub record SourceDid (all : TasksRan) (a : ℕ) : Type 0 where
  pub history : List (ℕ × Stored)
  pub fell : ℕ
  pub rose : ℕ
  pub cause : Cause
  pub account : SourceAccount all.job a all.size all.start all.every (all.own 0 a) (all.sent 0 a) history (Some (all.bytes a)) fell rose cause

-- A stateless task, by the passes of its gate besides, which show how its channels were cut.
pub record StageDid (all : TasksRan) (e b : ℕ) : Type 0 where
  pub gate_account : Account
  pub history : List (ℕ × Stored)
  pub takes : List TakeRun
  pub cause : Cause
  pub account : StageAccount all.job e b all.size all.start all.every gate_account (shows_at (all.gate e b)) (all.own (suc e) b) (all.sent (suc e) b) history takes cause

-- A task of the aggregate.
pub record AggregateDid (all : TasksRan) (b : ℕ) : Type 0 where
  pub gate_account : Account
  pub history : List (ℕ × Stored)
  pub takes : List TakeRun
  pub cause : Cause
  pub account : AggregateAccount all.job b all.start all.every gate_account (shows_at (all.gate (last_edge all.job) b)) (all.sent (suc (last_edge all.job)) b) history takes cause

-- The channel from task a to task b is number `way` of those on which a sends, and number `lane` of those from which b takes. Both cells were
-- closed, and the pass of a has its own entries in what it has seen.
pub record EndsAt (job : Job) (e a b : ℕ) (own : List SendPass) (gate : List InputPass) : Type 0 where
  pub way : ℕ
  pub way_below : way < ways_on job e
  pub leads : receiver_at (exchange job e) a way ≡ b
  pub lane : ℕ
  pub lane_below : lane < ways_into job e
  pub comes : sender_at (exchange job e) b lane ≡ a
  pub own_is : by 0 (seen_at way own) ≡ mine_at way own
  pub sent : List (ℕ × SendEntry)
  pub received : List (ℕ × ReceiveEntry)
  pub ends : AreEnds (seen_at way own) (seen_at lane gate) sent received

-- ---- the run

-- All workers of a job ran so, and these images were stored behind the base.
pub record JobRan (all : TasksRan) (base : Image) (images : List Image) : Type 0 where
  pub sources : (a : ℕ) → a < tasks all.job 0 → SourceDid all a
  pub stages : (e b : ℕ) → e < last_edge all.job → b < tasks all.job (suc e) → StageDid all e b
  pub aggregates : (b : ℕ) → b < tasks all.job (suc (last_edge all.job)) → AggregateDid all b
  pub channels : (e a b : ℕ) → is_channel all.job e a b ≡ true → EndsAt all.job e a b (all.own e a) (all.gate e b)
  pub snapshot : ℕ → ℕ → ℕ → Snapshot
  pub collected : AreCollected all.job all.every base images all.sent snapshot

-- The lines of the sources.
abbrev pub lines_of : (ℕ → List ℕ) → ℕ → List (List ℕ)
lines_of bytes a = lines (bytes a)

-- ---- from where it goes on

-- Nothing is in flight on any channel of the job.
abbrev pub HasNoneInFlight : Job → Image → Type 0
HasNoneInFlight job image = (e a b : ℕ) → is_channel job e a b ≡ true → saved job image e a b ≡ []

-- A run may go on from this image: nothing is in flight there, and no source has changed since.
pub record IsRunBase (job : Job) (start : Start) (lines : ℕ → List (List ℕ)) (base : Image) : Type 0 where
  pub is_base : IsBase job start base
  pub still : HasNoneInFlight job base
  pub unchanged : IsUnchanged job lines base

-- So it is at the start of a job.
abbrev pub StartIsRunBase : Type 0
StartIsRunBase = (job : Job) (start : Start) (lines : ℕ → List (List ℕ)) (base : Image) → IsStart job base → IsBase job start base → IsRunBase job start lines base

-- ---- what comes of it

-- The images are a chain, whatever the causes with which the workers ended,
abbrev pub RanIsChain : Type 0
RanIsChain =
    (ran : TasksRan) (base : Image) (images : List Image) → IsInterval ran.every → IsRunBase ran.job ran.start (lines_of ran.bytes) base →
    JobRan ran base images → Chain ran.job (lines_of ran.bytes) ran.every base images

-- and where the last one is marked so, its tables joined are what the base is worth.
abbrev pub RanEndsInWorth : Type 0
RanEndsInWorth =
    (ran : TasksRan) (base : Image) (images : List Image) → IsJob ran.job → IsInterval ran.every → IsRunBase ran.job ran.start (lines_of ran.bytes) base →
    JobRan ran base images → (last_of base images).final_one ≡ true →
    join ran.job.agg (last_of base images).tables.items ≡ worth ran.job (lines_of ran.bytes) (cut_of ran.job base)
