-- What contracts see of a gate over cells. That a gate has a cell for each channel, one for its pool and one for what stops all workers is
-- this project's own choice.
use Rattle.std.specs.Prelude.{◌≡◌, ℕ, ◌<◌, ◌^◌, Bool, false, List, [], length}
use Rattle.turn_cell.specs.History.{entries_of}
use Rattle.turn_cell.specs.Passes.{IsPassOf, number, mine}
pub use Rattle.local_pool.specs.Lending.{PoolCell, PoolPass}
use Rattle.flow_defs.specs.declared.parcel.Parcel.{Parcel}
use Rattle.conn_parts.specs.Shares.{seen_at, mine_at}
use Rattle.conn_parts.specs.Stopping.{StopCell, StopPass}
use Rattle.input_channel.specs.Legal.{polled_with, returned}
use Rattle.input_gate.specs.declared.gate.GateItem.{GateItem}
use Rattle.input_gate.specs.declared.gate.GateItem.TheVariants as items
use Rattle.input_gate.specs.declared.lane.Lane.{Lane}
use Rattle.input_gate.specs.declared.lender.Lender.{Lender}
use Rattle.input_gate.specs.declared.passes.GateEnds.{GateEnds}
use Rattle.gate_account.specs.Accounts.{Account, IsFree}
use Rattle.input_gate.specs.Turning.{InputCell, InputPass, Looked, looks_at, given_in}
use Rattle.input_gate.specs.Lanes.{IsLender, lent_size}
use Rattle.input_gate.specs.Segments.{told_by_lender, LoseNone}
use Rattle.channel_cut.specs.Cuts.{Cut, Shows}
use Rattle.input_gate.specs.Channels.{AreLanes, account_of, shows_in, cells_in, passes_in, MayGive}

-- The channels, the pool, the gate's pass of the pool as it was when the gate was made, and the cell that stops all workers, with the gate's
-- pass of it.
pub record GateState : Type 0 where
  pub lanes : List Lane
  pub lender : Lender
  pub first : PoolPass
  pub stop : StopCell
  pub stop_pass : StopPass

-- What the gate has given.
abbrev pub account_in : GateState → Account
account_in gate = account_of gate.lanes

-- By which cuts its channels were cut.
abbrev pub shows_of : GateState → ℕ → Cut → Type 0
shows_of gate = shows_in gate.lanes

-- By which cuts the channels were cut that these are the gate's passes of.
abbrev pub shows_at : List InputPass → ℕ → Cut → Type 0
shows_at passes c = Shows [] (entries_of (seen_at c passes))

-- Its passes of the channels' cells, in the order of the channels.
abbrev pub passes_of : GateState → List InputPass
passes_of gate = passes_in gate.lanes

-- It is the gate of these cells.
pub record IsGateOf (cells : List InputCell) (pool : PoolCell) (stop : StopCell) (gate : GateState) : Type 0 where
  pub cells_are : cells_in gate.lanes ≡ cells
  pub pool_is : gate.lender.cell.now ≡ pool
  pub stop_is : gate.stop ≡ stop

-- What it is a gate of.
abbrev pub ends_of : GateState → GateEnds
ends_of gate = record { cells = cells_in gate.lanes; pool = gate.lender.cell.now; first = gate.first; stop = gate.stop; number = number gate.stop_pass }

-- What polls of a channel gave.
abbrev pub given_at : GateState → ℕ → List Parcel
given_at gate c = given_in (seen_at c (passes_of gate))

-- Of each kind of buffers as many came back as polls gave.
abbrev pub AllCameBack : GateState → Type 0
AllCameBack gate = (c : ℕ) (exclusive : Bool) → returned exclusive (mine_at c (passes_of gate)) ≡ polled_with exclusive (mine_at c (passes_of gate))

-- Before a line is given each channel was looked at in the same call, and its last look found no front barrier. None was needed where no
-- barrier of the channel may be given, or its end was polled.
abbrev pub LookedFirst : Bool → GateState → GateState → GateItem → Type 0
LookedFirst hold before after (items.Line c line) = (d : ℕ) → d < (account_in before).channels → IsFree (account_in before) d → MayGive hold (account_in before) d →
    (account_in after).ended d ≡ false → Looked (looks_at d (passes_of before)) (looks_at d (passes_of after))
LookedFirst hold before after (items.Barrier c k kind) = Unit {0}
LookedFirst hold before after items.AllEnded = Unit {0}

-- What is kept fits what the passes tell. No segment was lost since the gate was made: what its pool lent and what its channels set free went
-- to a channel or back to the pool.
pub record IsGate (gate : GateState) : Type 0 where
  pub few : length gate.lanes < 2 ^ 32
  pub lanes_are : AreLanes (lent_size gate.lender) gate.lanes
  pub lender_is : IsLender gate.lender
  pub stop_is : IsPassOf gate.stop gate.stop_pass
  pub no_fault : mine gate.stop_pass ≡ []
  pub none_lost : LoseNone (mine gate.first) (told_by_lender gate.lender) (passes_of gate)
