-- The parts of an edge, as they are made one after another. This is this project's own choice.
use Rattle.std.specs.Prelude.{◌≡◌, ℕ, List, [], length}
use Rattle.turn_cell.specs.Passes.{mine}
use Rattle.reader_state.specs.Turning.{channels_in, IsReaderPass}
use Rattle.local_pool.specs.declared.shares.Want.{Want}
use Rattle.job_cells.specs.declared.parts.Parts.{Parts}
use Rattle.job_cells.specs.declared.span.Span.{Span}
use Rattle.job_cells.specs.Edges.{HaveShare}
use Rattle.job_cells.specs.Ends.{ArePools, AreSent, AreGates}
use Rattle.job_cells.specs.Grants.{gate_want, partition_want}
use Rattle.job_cells.specs.Spans.{ids_below, ways_in, ways_out}

-- They are those of an edge of this span, with segments of this size: each sending task has all its channels, and each receiving task a
-- gate.
pub record AreParts (span : Span) (size : ℕ) (parts : Parts) : Type 0 where
  pub channels : parts.channels.items ≡ ids_below span span.receivers
  pub readers : channels_in parts.readers ≡ parts.channels.items
  pub send_items : IsReaderPass parts.readers 0 parts.send_items × (mine parts.send_items ≡ [])
  pub read_control : IsReaderPass parts.readers 1 parts.read_control × (mine parts.read_control ≡ [])
  pub sending : AreSent span.senders (ways_out span) 0 size parts.sending
  pub partitions : ArePools size parts.partitions
  pub partitions_many : length parts.partitions.cells.items ≡ span.senders
  pub gates : AreGates span.receivers (ways_in span) size parts.gates

-- The local pools of both its ends have their shares, where all local pools want this.
pub record HaveShares (span : Span) (wants : List Want) (parts : Parts) : Type 0 where
  pub partitions : HaveShare wants (partition_want (ways_out span)) parts.partitions.cells.items
  pub gates : HaveShare wants (gate_want (ways_in span)) parts.gates.pools.cells.items
