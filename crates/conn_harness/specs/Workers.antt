-- What the workers of a connection are lent, each what its contract asks for. This is this project's own choice.
use Rattle.turn_cell.specs.Passes.{IsPassOf}
use Rattle.conn_send_items.specs.Sending.{MaySendItems}
use Rattle.conn_read_control.specs.Controlling.{MayReadControl}
use Rattle.conn_read_items.specs.Receiving.{MayReadItems}
use Rattle.conn_send_control.specs.Announcing.{MaySendControl}
use Rattle.conn_harness.specs.declared.cells.Cells.{Cells}
use Rattle.conn_harness.specs.declared.workers.Workers.{Workers}
use Rattle.conn_harness.specs.Ends.{MayPut, MayTake}

pub record MayWork (cells : Cells) (workers : Workers) : Type 0 where
  pub source : MayPut workers.source
  pub sink : MayTake workers.sink
  pub items : MaySendItems workers.items
  pub control : MayReadControl workers.control
  pub read : MayReadItems workers.read
  pub asked : MaySendControl workers.asked
  pub other : IsPassOf cells.stop workers.other
