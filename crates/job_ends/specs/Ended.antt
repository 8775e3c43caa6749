-- What all workers of a job left, stage by stage and edge by edge. This is this project's own choice.
use Rattle.std.specs.Prelude.{◌≡◌, ℕ, suc, ◌*◌, ◌<◌, List, [], ◌∷◌, length, slice_get, Option, Some, None}
use Rattle.std.specs.Option.{option_map_or}
use Rattle.turn_cell.specs.History.{StartsWith, entries_of}
use Rattle.flow_defs.specs.Items.{Items}
use Rattle.flow_defs.specs.declared.image.Snapshot.{Snapshot}
use Rattle.flow_defs.specs.declared.job.Job.{Job}
use Rattle.flow_defs.specs.declared.task.ChannelId.{ChannelId}
use Rattle.flow_defs.specs.Jobs.{last_edge, tasks}
use Rattle.subpartition.specs.Sending.{taken}
use Rattle.input_channel.specs.Inboxes.{pushed}
use Rattle.conn_parts.specs.declared.share.LoopEnd.{LoopEnd}
use Rattle.conn_parts.specs.Shares.{AreOwn, mine_at, seen_at}
use Rattle.record_writer.specs.declared.partition.PartitionPasses.{PartitionPasses}
use Rattle.record_writer.specs.Writers.{SendPass, AreOwnAt, ways_on, ways_into}
use Rattle.input_gate.specs.declared.passes.GatePasses.{GatePasses}
use Rattle.input_gate.specs.Turning.{InputPass}
use Rattle.checkpoint_laws.specs.Chapters.{task_at}
use Rattle.snapshot_channel.specs.declared.opened.SnapshotChannel.{SnapshotChannel}
use Rattle.snapshot_channel.specs.declared.opened.TaskPass.{TaskPass}
use Rattle.snapshot_channel.specs.Passes as channels
use Rattle.snapshot_channel.specs.Snapshots.{IsBeginning, snapshots_of}
use Rattle.job_cells.specs.declared.edge.Edge.{Edge}
use Rattle.job_cells.specs.Edges.{AreEdgesOf, channels_on}
use Rattle.job_workers.specs.declared.connection.ConnLoop.{ConnLoop}
use Rattle.job_workers.specs.declared.connection.LoopLeft.{LoopLeft}
use Rattle.job_workers.specs.declared.connection.LoopLeft.TheVariants.{SentItems, ReadControl, ReadItems, SentControl}
use Rattle.job_workers.specs.declared.place.Place.{Place}
use Rattle.job_workers.specs.declared.place.Place.TheVariants.{Todo, Ended, Vacant}
use Rattle.job_workers.specs.declared.task.Task.{Task}
use Rattle.job_workers.specs.declared.task.TaskLeft.{TaskLeft}
use Rattle.job_workers.specs.Tasks.{gate_in, passes_in, snapshots_in}
use Rattle.job_ends.specs.Settling.{AreTaskAt}

abbrev pub TaskPlace : Type 0 → Type 0
TaskPlace S = Place (Task S) (TaskLeft S)

abbrev pub LoopPlace : Type 0 → Type 0 → Type 0
LoopPlace O I = Place (ConnLoop O I) (LoopLeft O I)

-- ---- what stands in the places

-- What a worker left in a place.
abbrev pub left_in : {W E : Type 0} → Place W E → Option E
left_in (Todo worker) = None
left_in (Ended end) = Some end
left_in Vacant = None

module _ {S : Type 0} where
  -- What stands at place i of row s, and what task i of stage s left there.
  abbrev pub place_at : List (Items (TaskPlace S)) → ℕ → ℕ → TaskPlace S
  place_at rows s i = option_map_or (λ (row : Items (TaskPlace S)). option_map_or (λ (place : TaskPlace S). place) (slice_get row.items i) Vacant) (slice_get rows s) Vacant

  abbrev pub left_at : List (Items (TaskPlace S)) → ℕ → ℕ → Option (TaskLeft S)
  left_at rows s i = left_in (place_at rows s i)

  -- Its passes of the channels on which it sends, and those of its gate.
  abbrev pub own_at : List (Items (TaskPlace S)) → ℕ → ℕ → List SendPass
  own_at rows e a = option_map_or (λ (left : TaskLeft S). passes_in left.partition) (left_at rows e a) []

  abbrev pub gate_at : List (Items (TaskPlace S)) → ℕ → ℕ → List InputPass
  gate_at rows e b = option_map_or (λ (left : TaskLeft S). gate_in left.gate) (left_at rows (suc e) b) []

  -- The snapshots that task i of stage s sent.
  abbrev pub snapshots_at : List (Items (TaskPlace S)) → ℕ → ℕ → List Snapshot
  snapshots_at rows s i = option_map_or (λ (left : TaskLeft S). snapshots_in left.snapshots) (left_at rows s i) []

  -- It has the passes of task a of edge e.
  pub record HasSent (job : Job) (e a : ℕ) (edge : Edge) (left : TaskLeft S) : Type 0 where
    pub passes : PartitionPasses
    pub are_there : left.partition ≡ Some passes
    pub own : AreOwnAt edge.subpartitions.items a (tasks job e) (ways_on job e) passes.subpartitions.items

  -- It has those of the gate of task b behind edge e.
  pub record HasTaken (job : Job) (e b : ℕ) (edge : Edge) (left : TaskLeft S) : Type 0 where
    pub passes : GatePasses
    pub are_there : left.gate ≡ Some passes
    pub many : length passes.cells.items ≡ ways_into job e
    pub own : AreTaskAt edge.inputs.items (b * ways_into job e) 1 passes.cells.items

  -- It has the pass of the channel of snapshots of task a of stage i.
  pub record HasAcknowledged (channel : SnapshotChannel) (i a : ℕ) (left : TaskLeft S) : Type 0 where
    pub pass : TaskPass
    pub is_there : left.snapshots ≡ Some pass
    pub of_channel : channels.IsPassOf channel pass
    pub task : channels.task_of pass ≡ task_at i a

  -- What a place has but for passes is the same.
  pub record SameRest (old new : TaskLeft S) : Type 0 where
    pub input : new.input ≡ old.input
    pub cause : new.cause ≡ old.cause

-- All links of a kind tell their bytes.
pub record LinksTell {O I : Type 0} (sent : O → Option (List ℕ)) (got : I → Option (List ℕ)) : Type 0 where
  pub out : (half : O) → (bytes : List ℕ) × (sent half ≡ Some bytes)
  pub input : (half : I) → (bytes : List ℕ) × (got half ≡ Some bytes)

module _ {O I : Type 0} (belong : O → I → Type 0) (sent : O → Option (List ℕ)) (got : I → Option (List ℕ)) where
  -- The four loops of edge e have ended over one wire. Where links tell their bytes, what arrived on each channel begins what was taken,
  -- if what was got begins what was sent.
  pub record AreLoopsEnded (job : Job) (e : ℕ) (edge : Edge) (row : List (LoopPlace O I)) : Type 0 where
    pub send : LoopEnd O
    pub control : LoopEnd I
    pub items : LoopEnd I
    pub announce : LoopEnd O
    pub row_is : row ≡ Ended (SentItems send) ∷ Ended (ReadControl control) ∷ Ended (ReadItems items) ∷ Ended (SentControl announce) ∷ []
    pub «data» : belong send.half items.half
    pub takers : AreOwn 1 edge.subpartitions.items send.passes.subpartitions.items
    pub pushers : AreOwn 1 edge.inputs.items items.passes.inputs.items
    pub arrived : LinksTell sent got → (all front : List ℕ) → sent send.half ≡ Some all → got items.half ≡ Some front → StartsWith all front →
        (k : ℕ) (c : ChannelId) → slice_get (channels_on job e) k ≡ Some c →
        StartsWith (taken (entries_of (seen_at k send.passes.subpartitions.items))) (pushed (mine_at k items.passes.inputs.items))

  module _ {S : Type 0} where
    -- All workers of a job have ended.
    pub record AreEnded (job : Job) (size : ℕ) (edges : List Edge) (rows : List (Items (TaskPlace S))) (loops : List (Items (LoopPlace O I))) : Type 0 where
      pub edges_are : AreEdgesOf job size edges
      pub rows_many : length rows ≡ suc (suc (last_edge job))
      pub row_many : (s : ℕ) (row : Items (TaskPlace S)) → slice_get rows s ≡ Some row → length row.items ≡ tasks job s
      pub sent_by : (e a : ℕ) (edge : Edge) → a < tasks job e → slice_get edges e ≡ Some edge →
          (left : TaskLeft S) × (left_at rows e a ≡ Some left) × HasSent job e a edge left
      pub taken_by : (e b : ℕ) (edge : Edge) → b < tasks job (suc e) → slice_get edges e ≡ Some edge →
          (left : TaskLeft S) × (left_at rows (suc e) b ≡ Some left) × HasTaken job e b edge left
      pub loops_many : length loops ≡ suc (last_edge job)
      pub loops_are : (e : ℕ) (edge : Edge) (row : Items (LoopPlace O I)) → slice_get edges e ≡ Some edge → slice_get loops e ≡ Some row → AreLoopsEnded job e edge row.items

-- Each task of the job has left its pass of the channel of snapshots.
pub record HaveAcknowledged {S : Type 0} (job : Job) (channel : SnapshotChannel) (rows : List (Items (TaskPlace S))) : Type 0 where
  pub rows_many : length rows ≡ suc (suc (last_edge job))
  pub row_many : (s : ℕ) (row : Items (TaskPlace S)) → slice_get rows s ≡ Some row → length row.items ≡ tasks job s
  pub each : (s i : ℕ) → s < suc (suc (last_edge job)) → i < tasks job s → (left : TaskLeft S) × (left_at rows s i ≡ Some left) × HasAcknowledged channel s i left

-- Of each task the snapshots that were received are the first ones of those that it sent.
abbrev pub AreReceived : {S : Type 0} → Job → List Snapshot → List (Items (TaskPlace S)) → Type 0
AreReceived job received rows = (s i : ℕ) → s < suc (suc (last_edge job)) → i < tasks job s → IsBeginning (snapshots_of (task_at s i) received) (snapshots_at rows s i)

-- Rows of the same lengths, in which each place has what it had but for passes.
pub record AreSettled {S : Type 0} (old new : List (Items (TaskPlace S))) : Type 0 where
  pub many : length new ≡ length old
  pub row_many : (s : ℕ) (before after : Items (TaskPlace S)) → slice_get old s ≡ Some before → slice_get new s ≡ Some after → length after.items ≡ length before.items
  pub each : (s i : ℕ) (left : TaskLeft S) → left_at old s i ≡ Some left → (rest : TaskLeft S) × (left_at new s i ≡ Some rest) × SameRest left rest

-- What each place has of the channel of snapshots stays, or what it has of its partition and its gate.
abbrev pub SnapshotsStay : {S : Type 0} → List (Items (TaskPlace S)) → List (Items (TaskPlace S)) → Type 0
SnapshotsStay {S} old new = (s i : ℕ) (left : TaskLeft S) → left_at old s i ≡ Some left →
    (rest : TaskLeft S) × (left_at new s i ≡ Some rest) × (rest.snapshots ≡ left.snapshots)

abbrev pub ChannelsStay : {S : Type 0} → List (Items (TaskPlace S)) → List (Items (TaskPlace S)) → Type 0
ChannelsStay {S} old new = (s i : ℕ) (left : TaskLeft S) → left_at old s i ≡ Some left →
    (rest : TaskLeft S) × (left_at new s i ≡ Some rest) × (rest.partition ≡ left.partition) × (rest.gate ≡ left.gate)

-- How many faults the half of a loop counted, and all four of a row.
module _ {O I : Type 0} (of_out : O → ℕ) (of_in : I → ℕ) where
  abbrev pub faults_in : LoopPlace O I → ℕ
  faults_in (Todo worker) = 0
  faults_in (Ended (SentItems end)) = of_out end.half
  faults_in (Ended (ReadControl end)) = of_in end.half
  faults_in (Ended (ReadItems end)) = of_in end.half
  faults_in (Ended (SentControl end)) = of_out end.half
  faults_in Vacant = 0

  -- One of the loops of an edge counted a fault.
  abbrev pub HasLinkFault : List (Items (LoopPlace O I)) → Type 0
  HasLinkFault loops = (e i : ℕ) × ((row : Items (LoopPlace O I)) × ((place : LoopPlace O I) × (slice_get loops e ≡ Some row) × (slice_get row.items i ≡ Some place) × (0 < faults_in place)))
