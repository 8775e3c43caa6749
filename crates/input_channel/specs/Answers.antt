-- What the calls of an input channel answer. The refusals and their order are this project's own.
use Rattle.std.specs.Prelude.{◌≡◌, ◌<◌, ⊤, ℕ, suc, ◌+◌, ◌%◌, ◌^◌, ◌⊎◌, Bool, true, false, not, ◌==◌, nat_lt, List, [], ◌∷◌, length, if◌then◌else◌, Option, Some, None}
use Rattle.flow_defs.specs.declared.parcel.Parcel.{Parcel}
use Rattle.flow_defs.specs.declared.parcel.Parcel.TheVariants as parcels
use Rattle.input_channel.specs.declared.arrival.ArrivalKind.{ArrivalKind}
use Rattle.input_channel.specs.declared.arrival.ArrivalKind.TheVariants as kinds
use Rattle.input_channel.specs.declared.arrival.Arrival.{Arrival}
use Rattle.input_channel.specs.declared.fault.AcceptFault.{AcceptFault}
use Rattle.input_channel.specs.declared.fault.AcceptFault.TheVariants.{WrongSequence, AfterEnd, OverCredit, OverSize, WrongBarrier, Memory}
use Rattle.input_channel.specs.declared.held.HeldBuf.{HeldBuf}
use Rattle.input_channel.specs.declared.polled.Polled.{Polled}
use Rattle.input_channel.specs.declared.polled.Polled.TheVariants as answers
use Rattle.input_channel.specs.declared.entry.Gave.{Gave}
use Rattle.input_channel.specs.declared.entry.Gave.TheVariants.{NoBuffer, Exclusive, Floating}
use Rattle.input_channel.specs.Contents.{content}
use Rattle.input_channel.specs.Inboxes.{due, is_barrier}
use Rattle.flow_defs.specs.declared.task.BarrierKind.TheVariants.{Inline, Front}
use Rattle.input_channel.specs.declared.entry.ReceiveEntry.TheVariants.{Saved}
use Rattle.input_channel.specs.States.{OpenSave, ChannelState, saved_bytes, channel_next, exclusive_here}

-- What arrives, with these bytes where it is a buffer.
abbrev pub parcel_in : ArrivalKind → List ℕ → Parcel
parcel_in kinds.Buffer bytes = parcels.Data bytes
parcel_in (kinds.Barrier k kind) bytes = parcels.Barrier k kind
parcel_in kinds.End bytes = parcels.End

-- Why a kind of arrival is refused, where its number is the next and the end has not come.
abbrev pub kind_refused : ChannelState → ArrivalKind → List ℕ → Option AcceptFault
kind_refused c kinds.Buffer bytes =
    if c.credit == 0 then Some (OverCredit ((c.received + 1) % 2 ^ 64) c.announced)
    else if nat_lt c.size (length bytes) then Some (OverSize (length bytes) c.size)
    else None
kind_refused c (kinds.Barrier k kind) bytes = if k == suc c.last then None else Some (WrongBarrier (suc c.last % 2 ^ 64) k)
kind_refused c kinds.End bytes = None

-- Why an arrival is refused: the first reason that there is.
abbrev pub refused : ChannelState → Arrival → List ℕ → Option AcceptFault
refused c a bytes =
    if not (a.sequence == c.next) then Some (WrongSequence c.next a.sequence)
    else if c.ended then Some AfterEnd
    else kind_refused c a.what bytes

-- Only a barrier takes memory.
abbrev pub may_want_memory : ArrivalKind → Bool
may_want_memory kinds.Buffer = false
may_want_memory (kinds.Barrier k kind) = true
may_want_memory kinds.End = false

-- The fault is that reason, or want of memory where there is none.
abbrev pub IsFault : ChannelState → Arrival → List ℕ → AcceptFault → Type 0
IsFault c a bytes fault = (refused c a bytes ≡ Some fault) ⊎ ((refused c a bytes ≡ None) × (fault ≡ Memory) × (may_want_memory a.what ≡ true))

-- Which buffer an answer gives.
abbrev pub gave_of : Polled → Gave
gave_of (answers.Buffer buf) = if buf.exclusive then Exclusive else Floating
gave_of (answers.Barrier k kind) = NoBuffer
gave_of answers.End = NoBuffer
gave_of answers.Empty = NoBuffer
gave_of answers.Held = NoBuffer

-- What a poll answers: what is due; that nothing stands there; or that a barrier is due and was held back.
-- A buffer has the channel's length, and is the first that waits with data.
pub record IsBufferOf (c : ChannelState) (buf : HeldBuf) : Type 0 where
  pub due : due c.queue ≡ Some (parcels.Data (content buf))
  pub size : length buf.segment ≡ c.size
  pub rest : List Bool
  pub kind : c.counts.held ≡ buf.exclusive ∷ rest

abbrev pub IsAnswer : Bool → ChannelState → Polled → Type 0
IsAnswer hold c (answers.Buffer buf) = IsBufferOf c buf
IsAnswer hold c (answers.Barrier k kind) = (due c.queue ≡ Some (parcels.Barrier k kind)) × (hold ≡ false)
IsAnswer hold c answers.End = due c.queue ≡ Some parcels.End
IsAnswer hold c answers.Empty = c.queue ≡ []
IsAnswer hold c answers.Held = (is_barrier (due c.queue) ≡ true) × (hold ≡ true)

-- What an answer gives, as a parcel.
abbrev pub given_by : Polled → Option Parcel
given_by (answers.Buffer buf) = Some (parcels.Data (content buf))
given_by (answers.Barrier k kind) = Some (parcels.Barrier k kind)
given_by answers.End = Some parcels.End
given_by answers.Empty = None
given_by answers.Held = None

-- What was saved for barrier k is given, and its save is closed.
pub record GivesSaved (old : ChannelState) (k : ℕ) (bytes : List ℕ) (new : ChannelState) : Type 0 where
  pub save : OpenSave
  pub was_open : old.save ≡ Some save
  pub number : save.number ≡ k
  pub bytes_are : bytes ≡ saved_bytes old save
  pub closed : new ≡ channel_next old (Saved k)

-- What an answer gives can be answered: a buffer may come back, and an inline barrier is owed a resumption.
abbrev pub IsAnswerable : Polled → ChannelState → Type 0
IsAnswerable (answers.Buffer buf) c = (length buf.segment ≡ c.size) × (buf.exclusive ≡ true → exclusive_here c < 2)
IsAnswerable (answers.Barrier k Inline) c = 0 < c.owed
IsAnswerable (answers.Barrier k Front) c = ⊤
IsAnswerable answers.End c = ⊤
IsAnswerable answers.Empty c = ⊤
IsAnswerable answers.Held c = ⊤
