-- A connection's cells and their passes, as the tests open them. This is this project's own choice.
use Rattle.std.specs.Prelude.{◌≡◌, ℕ, ◌<◌, [], length}
use Rattle.std.specs.List.{All}
use Rattle.turn_cell.specs.declared.cell.TurnCell.{TurnCell}
use Rattle.turn_cell.specs.Passes.{IsPassOf, mine, opened_with}
use Rattle.credit_reader.specs.Senders.{AreDistinct}
use Rattle.reader_state.specs.Turning.{channels_in, IsReaderPass}
use Rattle.subpartition.specs.Queues.{Queue}
use Rattle.subpartition.specs.declared.entry.SendEntry.{SendEntry}
use Rattle.input_channel.specs.States.{ChannelState}
use Rattle.input_channel.specs.declared.entry.ReceiveEntry.{ReceiveEntry}
use Rattle.conn_parts.specs.Shares.{AreOf, AreOwn, HavePoolSize}
use Rattle.conn_parts.specs.Stopping.{StopCell}
use Rattle.conn_harness.specs.declared.cells.Cells.{Cells}
use Rattle.conn_harness.specs.declared.cells.Hands.{Hands}
use Rattle.conn_harness.specs.declared.cells.Stops.{Stops}
use Rattle.conn_harness.specs.Ends.{AreNewTasks}

-- There is a cell of each kind for each channel, and the pools and channels have segments of the one size.
pub record AreCells (cells : Cells) : Type 0 where
  pub distinct : AreDistinct cells.channels.items
  pub readers : channels_in cells.readers ≡ cells.channels.items
  pub subpartitions : length cells.subpartitions.items ≡ length cells.channels.items
  pub sizes : All (λ (cell : TurnCell Queue SendEntry ℕ). (opened_with cell).size ≡ cells.size) cells.subpartitions.items
  pub inputs : length cells.inputs.items ≡ length cells.channels.items
  pub input_sizes : All (λ (cell : TurnCell ChannelState ReceiveEntry ℕ). (opened_with cell).size ≡ cells.size) cells.inputs.items
  pub senders : All (λ c. c.from < length cells.senders.items) cells.channels.items
  pub sender_sizes : HavePoolSize cells.size cells.senders.items
  pub receivers : All (λ c. c.to < length cells.receivers.items) cells.channels.items
  pub receiver : length cells.receivers.items ≡ 1
  pub receiver_sizes : HavePoolSize cells.size cells.receivers.items

-- Each is a pass of the stop cell.
pub record AreStopsOf (stop : StopCell) (stops : Stops) : Type 0 where
  pub items : IsPassOf stop stops.items
  pub control : IsPassOf stop stops.control
  pub read : IsPassOf stop stops.read
  pub asked : IsPassOf stop stops.asked
  pub source : IsPassOf stop stops.source
  pub sink : IsPassOf stop stops.sink
  pub other : IsPassOf stop stops.other

-- The passes are those of the cells, by their numbers.
pub record AreHands (cells : Cells) (hands : Hands) : Type 0 where
  pub writer : IsReaderPass cells.readers 0 hands.writer
  pub writer_new : mine hands.writer ≡ []
  pub reader : IsReaderPass cells.readers 1 hands.reader
  pub reader_new : mine hands.reader ≡ []
  pub putters : AreNewTasks cells.subpartitions.items hands.putters.items
  pub takers : AreOwn 1 cells.subpartitions.items hands.takers.items
  pub sizers : AreOwn 2 cells.subpartitions.items hands.sizers.items
  pub pollers : AreNewTasks cells.inputs.items hands.pollers.items
  pub pushers : AreOwn 1 cells.inputs.items hands.pushers.items
  pub tellers : AreOwn 2 cells.inputs.items hands.tellers.items
  pub source_pools : AreOf cells.senders.items hands.source_pools.items
  pub items_pools : AreOf cells.senders.items hands.items_pools.items
  pub sink_pools : AreOf cells.receivers.items hands.sink_pools.items
  pub read_pools : AreOf cells.receivers.items hands.read_pools.items
  pub stops : AreStopsOf cells.stop hands.stops
