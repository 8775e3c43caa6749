-- How the places of tasks and loops change while the edges of a job are settled. This is this project's own choice.
use Rattle.std.specs.Prelude.{◌≡◌, ℕ, suc, ◌*◌, ◌<◌, ◌≤◌, List, [], ◌∷◌, length, slice_get, Some, None}
use Rattle.std.specs.List.{flat_map}
use Rattle.std.specs.Option.{option_map_or, option_to_list}
use Rattle.turn_cell.specs.History.{StartsWith, entries_of}
use Rattle.flow_defs.specs.Items.{Items}
use Rattle.flow_defs.specs.declared.job.Job.{Job}
use Rattle.flow_defs.specs.declared.task.ChannelId.{ChannelId}
use Rattle.flow_defs.specs.Jobs.{last_edge, tasks}
use Rattle.subpartition.specs.Sending.{taken}
use Rattle.input_channel.specs.Inboxes.{pushed}
use Rattle.conn_parts.specs.declared.share.LoopEnd.{LoopEnd}
use Rattle.conn_parts.specs.Shares.{mine_at, seen_at}
use Rattle.record_writer.specs.declared.partition.PartitionPasses.{PartitionPasses}
use Rattle.record_writer.specs.Writers.{SendCell, SendPass}
use Rattle.input_gate.specs.declared.passes.GatePasses.{GatePasses}
use Rattle.input_gate.specs.Turning.{InputCell, InputPass}
use Rattle.snapshot_channel.specs.declared.opened.TaskPass.{TaskPass}
use Rattle.job_cells.specs.declared.edge.Edge.{Edge}
use Rattle.job_cells.specs.Edges.{IsEdgeOf, channels_on}
use Rattle.job_workers.specs.declared.connection.LoopLeft.TheVariants.{SentItems, ReadControl, ReadItems, SentControl}
use Rattle.job_workers.specs.declared.place.Place.TheVariants.{Ended}
use Rattle.job_workers.specs.declared.task.TaskLeft.{TaskLeft}
use Rattle.job_workers.specs.Places.{Pairs}
use Rattle.job_workers.specs.Tasks.{gate_in, passes_in}
use Rattle.job_ends.specs.declared.left.EdgeLeft.{EdgeLeft}
use Rattle.job_ends.specs.Settling.{AreTaskAt}
use Rattle.job_ends.specs.Ended.{TaskPlace, LoopPlace, left_in, left_at, HasSent, HasTaken, SameRest}

-- ---- loops

-- What the four loops of an edge left.
pub record LoopEnds (O I : Type 0) : Type 0 where
  pub send : LoopEnd O
  pub control : LoopEnd I
  pub items : LoopEnd I
  pub announce : LoopEnd O

-- Their places, and what they leave for the edge.
abbrev pub places_of : {O I : Type 0} → LoopEnds O I → List (LoopPlace O I)
places_of ends = Ended (SentItems ends.send) ∷ Ended (ReadControl ends.control) ∷ Ended (ReadItems ends.items) ∷ Ended (SentControl ends.announce) ∷ []

abbrev pub left_by : {O I : Type 0} → LoopEnds O I → EdgeLeft O I
left_by ends = record {
  wire = record { data_out = ends.send.half; data_in = ends.items.half; control_out = ends.announce.half; control_in = ends.control.half };
  takers = ends.send.passes.subpartitions;
  pushers = ends.items.passes.inputs;
}

-- On each channel of the edge what arrived begins what was taken.
abbrev pub HasArrived : Job → ℕ → List SendPass → List InputPass → Type 0
HasArrived job e takers pushers = (k : ℕ) (c : ChannelId) → slice_get (channels_on job e) k ≡ Some c →
    StartsWith (taken (entries_of (seen_at k takers))) (pushed (mine_at k pushers))

module _ {S : Type 0} where
  -- ---- the place of a task

  -- The passes by which a task sent, and those of its gate.
  abbrev pub sent_in : TaskPlace S → List SendPass
  sent_in place = option_map_or (λ (left : TaskLeft S). passes_in left.partition) (left_in place) []

  abbrev pub taken_in : TaskPlace S → List InputPass
  taken_in place = option_map_or (λ (left : TaskLeft S). gate_in left.gate) (left_in place) []

  -- The pass of the channel of snapshots that it left, and those of the tasks of a stage.
  abbrev pub acknowledged_in : TaskPlace S → List TaskPass
  acknowledged_in place = option_map_or (λ (left : TaskLeft S). option_to_list left.snapshots) (left_in place) []

  abbrev pub acknowledged_by : Items (TaskPlace S) → List TaskPass
  acknowledged_by row = flat_map acknowledged_in row.items

  -- The task left passes of its partition, or of its gate, or its pass of the channel of snapshots.
  pub record HasPartition (place : TaskPlace S) : Type 0 where
    pub left : TaskLeft S
    pub is_left : left_in place ≡ Some left
    pub passes : PartitionPasses
    pub are_there : left.partition ≡ Some passes

  pub record HasGate (place : TaskPlace S) : Type 0 where
    pub left : TaskLeft S
    pub is_left : left_in place ≡ Some left
    pub passes : GatePasses
    pub are_there : left.gate ≡ Some passes

  pub record HasSnapshots (place : TaskPlace S) : Type 0 where
    pub left : TaskLeft S
    pub is_left : left_in place ≡ Some left
    pub pass : TaskPass
    pub is_there : left.snapshots ≡ Some pass

  -- They are the passes of the cells at these places, or of those behind the gates of the tasks before it.
  pub record SentAt (cells : List SendCell) (first stride : ℕ) (place : TaskPlace S) : Type 0 where
    pub has : HasPartition place
    pub own : AreTaskAt cells first stride has.passes.subpartitions.items

  pub record TookAt (cells : List InputCell) (number : ℕ) (place : TaskPlace S) : Type 0 where
    pub has : HasGate place
    pub own : AreTaskAt cells (number * length has.passes.cells.items) 1 has.passes.cells.items

  -- What it left is there without the passes of its partition, or of its gate, or without its pass of the channel of snapshots.
  pub record WithoutPartition (before after : TaskPlace S) : Type 0 where
    pub left : TaskLeft S
    pub was : left_in before ≡ Some left
    pub now : left_in after ≡ Some (record left { partition = None })

  pub record WithoutGate (before after : TaskPlace S) : Type 0 where
    pub left : TaskLeft S
    pub was : left_in before ≡ Some left
    pub now : left_in after ≡ Some (record left { gate = None })

  pub record WithoutSnapshots (before after : TaskPlace S) : Type 0 where
    pub left : TaskLeft S
    pub was : left_in before ≡ Some left
    pub now : left_in after ≡ Some (record left { snapshots = None })

  -- And these were taken out.
  pub record TookPartition (before after : TaskPlace S) (passes : PartitionPasses) : Type 0 where
    pub without : WithoutPartition before after
    pub had : without.left.partition ≡ Some passes

  pub record TookGate (before after : TaskPlace S) (passes : GatePasses) : Type 0 where
    pub without : WithoutGate before after
    pub had : without.left.gate ≡ Some passes

  pub record TookSnapshots (before after : TaskPlace S) (pass : TaskPass) : Type 0 where
    pub without : WithoutSnapshots before after
    pub had : without.left.snapshots ≡ Some pass

  -- ---- all tasks

  -- Each place of a row is without its pass of the channel of snapshots.
  pub record RowWithoutSnapshots (before after : Items (TaskPlace S)) : Type 0 where
    pub many : length after.items ≡ length before.items
    pub each : Pairs WithoutSnapshots before.items after.items

  -- How many tasks a stage has. Past the last it has none.
  abbrev pub row_length : List (Items (TaskPlace S)) → ℕ → ℕ
  row_length rows s = option_map_or (λ (row : Items (TaskPlace S)). length row.items) (slice_get rows s) 0

  -- What a task left but for the passes of its partition, which stay on a condition, and those of its gate, which stay on another. That
  -- of the channel of snapshots stays.
  pub record LeftGoesOn (partition gate : Type 0) (before after : TaskLeft S) : Type 0 where
    pub rest : SameRest before after
    pub partition_stays : partition → after.partition ≡ before.partition
    pub gate_stays : gate → after.gate ≡ before.gate
    pub snapshots_stay : after.snapshots ≡ before.snapshots

  -- Each stage has the tasks that it had, with all that they left but for passes; those of partitions stay at some stages, and those of
  -- gates at others.
  pub record RowsGoOn (partitions gates : ℕ → Type 0) (before after : List (Items (TaskPlace S))) : Type 0 where
    pub many : length after ≡ length before
    pub row_many : (s : ℕ) → row_length after s ≡ row_length before s
    pub each : (s i : ℕ) (left : TaskLeft S) → left_at before s i ≡ Some left → (now : TaskLeft S) × (left_at after s i ≡ Some now) × LeftGoesOn (partitions s) (gates s) left now

  -- The tasks at both ends of an edge have their passes of it.
  pub record HasEdge (job : Job) (e : ℕ) (edge : Edge) (rows : List (Items (TaskPlace S))) : Type 0 where
    pub size : ℕ
    pub is_edge : IsEdgeOf job e size edge
    pub rows_many : suc e < length rows
    pub low : e ≤ last_edge job
    pub row_many : (s : ℕ) (row : Items (TaskPlace S)) → slice_get rows s ≡ Some row → length row.items ≡ tasks job s
    pub sent_by : (a : ℕ) → a < tasks job e → (left : TaskLeft S) × (left_at rows e a ≡ Some left) × HasSent job e a edge left
    pub taken_by : (b : ℕ) → b < tasks job (suc e) → (left : TaskLeft S) × (left_at rows (suc e) b ≡ Some left) × HasTaken job e b edge left
