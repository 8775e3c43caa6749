-- What the parts of `accept` do. It serves the channel's own functions; no public contract cites it.
use Rattle.std.specs.Prelude.{◌≡◌, ℕ, suc, ◌+◌, ◌-◌, ◌%◌, ◌^◌, ◌⊎◌, List, [], ◌∷◌, ◌++◌, Some}
use Rattle.flow_defs.specs.declared.task.BarrierKind.{BarrierKind}
use Rattle.flow_defs.specs.declared.parcel.Parcel.TheVariants as parcels
use Rattle.input_channel.specs.declared.arrival.ArrivalKind.TheVariants as kinds
use Rattle.input_channel.specs.declared.fault.AcceptFault.{AcceptFault}
use Rattle.input_channel.specs.declared.fault.AcceptFault.TheVariants.{Memory}
use Rattle.input_channel.specs.Inboxes.{Waits}
use Rattle.input_channel.specs.Counts.{with_data}
use Rattle.input_channel.specs.States.{ChannelState}
use Rattle.input_channel.specs.Answers.{kind_refused}

-- Data wait, which have used a credit and a free buffer.
abbrev pub with_data_in : ChannelState → List ℕ → ChannelState
with_data_in c bytes = record c {
  queue = c.queue ++ parcels.Data bytes ∷ [];
  line = c.line ++ Waits (parcels.Data bytes) ∷ [];
  counts = with_data c.counts;
  credit = c.credit - 1;
  received = (c.received + 1) % 2 ^ 64;
}

-- A barrier waits.
abbrev pub with_barrier_in : ChannelState → ℕ → BarrierKind → ChannelState
with_barrier_in c k kind = record c { queue = c.queue ++ parcels.Barrier k kind ∷ []; line = c.line ++ Waits (parcels.Barrier k kind) ∷ []; last = k }

abbrev pub IsBarrierFault : ChannelState → ℕ → BarrierKind → AcceptFault → Type 0
IsBarrierFault c k kind fault = (kind_refused c (kinds.Barrier k kind) [] ≡ Some fault) ⊎ ((k ≡ suc c.last) × (fault ≡ Memory))
