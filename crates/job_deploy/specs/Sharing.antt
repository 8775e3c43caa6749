-- What the loops of an edge are lent. This is this project's own choice.
use Rattle.std.specs.Prelude.{◌≡◌, ℕ, suc, ◌<◌, ◌≤◌, List, [], ◌∷◌, length, slice_get, All, Some}
use Rattle.turn_cell.specs.declared.cell.TurnCell.{TurnCell}
use Rattle.turn_cell.specs.Passes.{seen, mine, opened_with}
use Rattle.flow_defs.specs.Items.{Items}
use Rattle.flow_defs.specs.declared.job.Job.{Job}
use Rattle.flow_defs.specs.Jobs.{tasks}
use Rattle.credit_reader.specs.Senders.{AreDistinct}
use Rattle.subpartition.specs.Queues.{Queue}
use Rattle.subpartition.specs.declared.entry.SendEntry.{SendEntry}
use Rattle.input_channel.specs.States.{ChannelState}
use Rattle.input_channel.specs.declared.entry.ReceiveEntry.{ReceiveEntry}
use Rattle.reader_state.specs.Turning.{channels_in, IsReaderPass}
use Rattle.outside.specs.declared.wires.Wire.{Wire}
use Rattle.conn_parts.specs.declared.share.ConnShare.{ConnShare}
use Rattle.conn_parts.specs.Shares.{AreOf, AreOwn, AreNew, HavePoolSize}
use Rattle.conn_parts.specs.Stopping.{StopCell}
use Rattle.conn_send_items.specs.Sending.{MaySendItems}
use Rattle.conn_read_control.specs.Controlling.{MayReadControl}
use Rattle.conn_read_items.specs.Receiving.{MayReadItems}
use Rattle.conn_send_control.specs.Announcing.{MaySendControl}
use Rattle.record_writer.specs.Writers.{SendPass}
use Rattle.job_cells.specs.declared.edge.Edge.{Edge}
use Rattle.job_workers.specs.declared.connection.ConnLoop.TheVariants.{SendItems, ReadControl, ReadItems, SendControl}
use Rattle.job_workers.specs.declared.connection.LoopWork.{LoopWork}
use Rattle.job_workers.specs.declared.place.Place.TheVariants.{Todo}
use Rattle.job_deploy.specs.declared.loops.LoopPasses.{LoopPasses}
use Rattle.job_deploy.specs.declared.loops.Shares.{Shares}
use Rattle.job_deploy.specs.declared.split.Ends.{Ends}
use Rattle.job_deploy.specs.Deployed.{LoopPlace}
use Rattle.job_deploy.specs.Placing.{AreSenders, AreTakers}

-- The cells of an edge with segments of this size, whose channels lead between the tasks that have pools.
pub record IsWired (size : ℕ) (edge : Edge) : Type 0 where
  pub distinct : AreDistinct edge.channels.items
  pub readers : channels_in edge.readers ≡ edge.channels.items
  pub subpartitions : length edge.subpartitions.items ≡ length edge.channels.items
  pub sizes : All (λ (cell : TurnCell Queue SendEntry ℕ). (opened_with cell).size ≡ size) edge.subpartitions.items
  pub inputs : length edge.inputs.items ≡ length edge.channels.items
  pub input_sizes : All (λ (cell : TurnCell ChannelState ReceiveEntry ℕ). (opened_with cell).size ≡ size) edge.inputs.items
  pub partition_sizes : HavePoolSize size edge.partitions.items
  pub gate_sizes : HavePoolSize size edge.gates.items
  pub senders : All (λ c. c.from < length edge.partitions.items) edge.channels.items
  pub receivers : All (λ c. c.to < length edge.gates.items) edge.channels.items

-- The share is one of these cells.
pub record IsOver (edge : Edge) (size : ℕ) (stop : StopCell) (share : ConnShare) : Type 0 where
  pub channels : share.channels.now ≡ edge.channels.items
  pub size_is : share.size ≡ size
  pub readers : share.readers.now ≡ edge.readers
  pub subpartitions : share.subpartitions.now ≡ edge.subpartitions.items
  pub inputs : share.inputs.now ≡ edge.inputs.items
  pub stop_is : share.stop.now ≡ stop

-- The passes of the loops, of which none has made an entry at the readers.
pub record AreLoopPasses (edge : Edge) (passes : LoopPasses) : Type 0 where
  pub send_items : IsReaderPass edge.readers 0 passes.send_items × (mine passes.send_items ≡ [])
  pub read_control : IsReaderPass edge.readers 1 passes.read_control × (mine passes.read_control ≡ [])
  pub takers : AreOwn 1 edge.subpartitions.items passes.takers.items
  pub sizers : AreOwn 2 edge.subpartitions.items passes.sizers.items
  pub pushers : AreOwn 1 edge.inputs.items passes.pushers.items
  pub tellers : AreOwn 2 edge.inputs.items passes.tellers.items
  pub partitions : AreOf edge.partitions.items passes.partitions.items
  pub gates : AreOf edge.gates.items passes.gates.items
  pub takers_new : All (λ (pass : SendPass). seen pass ≡ []) passes.takers.items
  pub pushers_new : AreNew passes.pushers.items

-- All passes of an edge, by who gets them.
pub record AreEndsOf (job : Job) (e : ℕ) (edge : Edge) (ends : Ends) : Type 0 where
  pub senders : AreSenders job e edge ends.senders
  pub senders_all : length ends.senders.own.items ≡ tasks job e
  pub takers : AreTakers job e edge ends.takers
  pub takers_all : length ends.takers.own.items ≡ tasks job (suc e)
  pub loops : AreLoopPasses edge ends.loops

-- There is room for the four loops.
pub record HasRoom {O I : Type 0} (shares : Shares O I) : Type 0 where
  pub empty : shares.row.items ≡ []
  pub room : 4 ≤ shares.row.room

-- What the loops of an edge are lent.
pub record AreSharesOf {O I : Type 0} (edge : Edge) (shares : Shares O I) : Type 0 where
  pub channels : (shares.send.channels.now ≡ edge.channels.items) × (shares.items.channels.now ≡ edge.channels.items)
  pub cells : (shares.send.subpartitions.now ≡ edge.subpartitions.items) × (shares.items.inputs.now ≡ edge.inputs.items)
  pub unseen : All (λ (pass : SendPass). seen pass ≡ []) shares.send.passes.subpartitions.items
  pub new : AreNew shares.items.passes.inputs.items
  pub may_send : MaySendItems shares.send × MayReadControl shares.control
  pub may_receive : MayReadItems shares.items × MaySendControl shares.announce
  pub has_room : HasRoom shares

-- ---- over a wire

-- These are the four loops, each with its share and its half of the wire.
pub record AreLoopsOver {O I : Type 0} (shares : Shares O I) (wire : Wire O I) (row : List (LoopPlace O I)) : Type 0 where
  pub send : LoopWork O
  pub control : LoopWork I
  pub items : LoopWork I
  pub announce : LoopWork O
  pub row_is : row ≡ Todo (SendItems send) ∷ Todo (ReadControl control) ∷ Todo (ReadItems items) ∷ Todo (SendControl announce) ∷ []
  pub sending : (send.half ≡ wire.data_out) × (control.half ≡ wire.control_in)
  pub receiving : (items.half ≡ wire.data_in) × (announce.half ≡ wire.control_out)
  pub send_shares : (send.share ≡ shares.send) × (control.share ≡ shares.control)
  pub receive_shares : (items.share ≡ shares.items) × (announce.share ≡ shares.announce)

-- Those of each edge.
pub record IsRowOver {O I : Type 0} (shares : List (Shares O I)) (wires : List (Wire O I)) (e : ℕ) (row : Items (LoopPlace O I)) : Type 0 where
  pub share : Shares O I
  pub lent : slice_get shares e ≡ Some share
  pub wire : Wire O I
  pub over : slice_get wires e ≡ Some wire
  pub are : AreLoopsOver share wire row.items

pub record AreRowsOver {O I : Type 0} (shares : List (Shares O I)) (wires : List (Wire O I)) (rows : List (Items (LoopPlace O I))) : Type 0 where
  pub many : length rows ≡ length wires
  pub each : (e : ℕ) (row : Items (LoopPlace O I)) → slice_get rows e ≡ Some row → IsRowOver shares wires e row
