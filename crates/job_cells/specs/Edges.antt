-- The channels of an edge and their cells. As in Flink an edge has a channel for each pair of tasks that its exchange joins. The order in
-- which the channels of an edge stand is this project's own: by receiving task, and then by sending task, so that those of one gate stand
-- side by side.
use Rattle.std.specs.Prelude.{◌≡◌, ℕ, suc, ◌+◌, ◌*◌, List, [], length, slice_get, All, Some, map}
use Rattle.std.specs.List.{range_with_len}
use Rattle.segment_pool.specs.Pools.{total_of}
use Rattle.local_pool.specs.declared.held.HeldPool.{HeldPool}
use Rattle.local_pool.specs.declared.shares.Want.{Want}
use Rattle.local_pool.specs.Helds.{local_of, pool_of}
use Rattle.local_pool.specs.Locals.{limit_of}
use Rattle.local_pool.specs.Shares.{share_of}
use Rattle.turn_cell.specs.declared.cell.TurnCell.{TurnCell}
use Rattle.turn_cell.specs.declared.pass.Pass.{Pass}
use Rattle.turn_cell.specs.Passes.{IsPassOf, number, seen, mine, opened_with}
use Rattle.flow_defs.specs.declared.job.Job.{Job}
use Rattle.flow_defs.specs.declared.job.Exchange.{Exchange}
use Rattle.flow_defs.specs.declared.job.Exchange.TheVariants.{Hash, Rebalance, Forward}
use Rattle.flow_defs.specs.declared.task.ChannelId.{ChannelId}
use Rattle.flow_defs.specs.Jobs.{last_edge, tasks, exchange}
use Rattle.credit_reader.specs.Senders.{AreDistinct}
use Rattle.reader_state.specs.Turning.{channels_in, IsReaderPass}
use Rattle.subpartition.specs.Queues.{Queue}
use Rattle.subpartition.specs.declared.entry.SendEntry.{SendEntry}
use Rattle.input_channel.specs.States.{ChannelState}
use Rattle.input_channel.specs.declared.entry.ReceiveEntry.{ReceiveEntry}
use Rattle.plain_machine.specs.Worth.{concat_below}
use Rattle.conn_parts.specs.Shares.{AreOf, AreOwn, AreNew, HavePoolSize}
use Rattle.record_writer.specs.Writers.{SendPass, ways, ways_on, AreOwnAt, sender_at, ways_into}
use Rattle.job_cells.specs.declared.edge.Edge.{Edge}
use Rattle.job_cells.specs.declared.edge.EdgePasses.{EdgePasses}
use Rattle.job_cells.specs.Grants.{gate_want, partition_want, wants_of}

-- How many items a subpartition has room for, and how many buffers an input channel.
abbrev pub items_room : ℕ
items_room = 32

abbrev pub buffers_room : ℕ
buffers_room = 10

-- Each local pool, which wants so much among all these, lends up to its share of its global pool.
abbrev pub HaveShare : {E F : Type 0} → List Want → Want → List (TurnCell HeldPool E F) → Type 0
HaveShare {E} {F} wants want cells =
    All (λ (cell : TurnCell HeldPool E F). let held = opened_with cell in limit_of (local_of held) ≡ share_of wants (total_of (pool_of held)) want) cells

-- The channels into task b, in order, and all channels of the edge.
abbrev pub channels_into : Job → ℕ → ℕ → List ChannelId
channels_into job e b = map (λ i. record { edge = e; «from» = sender_at (exchange job e) b i; to = b }) (range_with_len 0 (ways_into job e))

abbrev pub channels_on : Job → ℕ → List ChannelId
channels_on job e = concat_below (tasks job (suc e)) (channels_into job e)

-- Where channel i of the gate of task b stands among them.
abbrev pub place_into : Job → ℕ → ℕ → ℕ → ℕ
place_into job e b i = b * ways_into job e + i

-- There is a cell of each kind for each channel, with that room, a pool for the partition of each sending task and one for the gate of each
-- receiving task, each with its share, and all have segments of one size.
pub record IsEdgeOf (job : Job) (e size : ℕ) (edge : Edge) : Type 0 where
  pub channels : edge.channels.items ≡ channels_on job e
  pub distinct : AreDistinct edge.channels.items
  pub readers : channels_in edge.readers ≡ edge.channels.items
  pub subpartitions : length edge.subpartitions.items ≡ length edge.channels.items
  pub sizes : All (λ (cell : TurnCell Queue SendEntry ℕ). (opened_with cell).size ≡ size) edge.subpartitions.items
  pub inputs : length edge.inputs.items ≡ length edge.channels.items
  pub input_sizes : All (λ (cell : TurnCell ChannelState ReceiveEntry ℕ). (opened_with cell).size ≡ size) edge.inputs.items
  pub rooms : All (λ (cell : TurnCell Queue SendEntry ℕ). (opened_with cell).room ≡ items_room) edge.subpartitions.items
  pub input_rooms : All (λ (cell : TurnCell ChannelState ReceiveEntry ℕ). (opened_with cell).room ≡ buffers_room) edge.inputs.items
  pub partitions : length edge.partitions.items ≡ tasks job e
  pub partition_sizes : HavePoolSize size edge.partitions.items
  pub gates : length edge.gates.items ≡ tasks job (suc e)
  pub gate_sizes : HavePoolSize size edge.gates.items
  pub partition_shares : HaveShare (wants_of job) (partition_want (ways_on job e)) edge.partitions.items
  pub gate_shares : HaveShare (wants_of job) (gate_want (ways_into job e)) edge.gates.items

abbrev pub InputPass : Type 0
InputPass = Pass ChannelState ReceiveEntry ℕ

-- These are the passes of a gate at the cells from a place on.
pub record AreGatesAt (cells : List (TurnCell ChannelState ReceiveEntry ℕ)) (first many : ℕ) (passes : List InputPass) : Type 0 where
  pub many_are : length passes ≡ many
  pub each : (i : ℕ) (pass : InputPass) → slice_get passes i ≡ Some pass →
      (cell : TurnCell ChannelState ReceiveEntry ℕ) × (slice_get cells (first + i) ≡ Some cell) × IsPassOf cell pass × (number pass ≡ 0) × (mine pass ≡ []) × (seen pass ≡ [])

-- The passes are those of the edge's cells, by their numbers, and none has made an entry: for each sending task those of its own channels,
-- for each receiving task those of its gate, and those of the four loops.
pub record ArePassesOf (job : Job) (e : ℕ) (edge : Edge) (passes : EdgePasses) : Type 0 where
  pub send_items : IsReaderPass edge.readers 0 passes.send_items
  pub send_items_new : mine passes.send_items ≡ []
  pub read_control : IsReaderPass edge.readers 1 passes.read_control
  pub read_control_new : mine passes.read_control ≡ []
  pub senders : length passes.senders.items ≡ tasks job e
  pub sender : (a : ℕ) (own : _) → slice_get passes.senders.items a ≡ Some own →
      AreOwnAt edge.subpartitions.items a (tasks job e) (ways_on job e) own.items × AreNew own.items
  pub takers : AreOwn 1 edge.subpartitions.items passes.takers.items
  pub sizers : AreOwn 2 edge.subpartitions.items passes.sizers.items
  pub gates : length passes.gates.items ≡ tasks job (suc e)
  pub gate : (b : ℕ) (own : _) → slice_get passes.gates.items b ≡ Some own →
      AreGatesAt edge.inputs.items (b * ways_into job e) (ways_into job e) own.items
  pub pushers : AreOwn 1 edge.inputs.items passes.pushers.items
  pub tellers : AreOwn 2 edge.inputs.items passes.tellers.items
  pub task_partitions : AreOf edge.partitions.items passes.task_partitions.items
  pub loop_partitions : AreOf edge.partitions.items passes.loop_partitions.items
  pub task_gates : AreOf edge.gates.items passes.task_gates.items
  pub loop_gates : AreOf edge.gates.items passes.loop_gates.items
  -- nothing was seen of the cells of channels
  pub takers_new : All (λ (pass : SendPass). seen pass ≡ []) passes.takers.items
  pub pushers_new : AreNew passes.pushers.items

-- The edges of a job, in order, and all their passes.
pub record AreEdgesOf (job : Job) (size : ℕ) (edges : List Edge) : Type 0 where
  pub many : length edges ≡ suc (last_edge job)
  pub each : (e : ℕ) (edge : Edge) → slice_get edges e ≡ Some edge → IsEdgeOf job e size edge

pub record AreAllPassesOf (job : Job) (edges : List Edge) (all : List EdgePasses) : Type 0 where
  pub many : length all ≡ length edges
  pub each : (e : ℕ) (edge : Edge) (passes : EdgePasses) → slice_get edges e ≡ Some edge → slice_get all e ≡ Some passes → ArePassesOf job e edge passes
