-- What a turn of a gate at a channel does to its pass. Polls, and buffers that come back, are those of Flink's input channels; that they are
-- told by the pass's own lists is this project's own choice.
use Rattle.std.specs.Prelude.{◌≡◌, ℕ, zero, suc, Bool, false, List, [], ◌∷◌, ◌++◌, length, None}
use Rattle.turn_cell.specs.declared.cell.TurnCell.{TurnCell}
use Rattle.turn_cell.specs.declared.pass.Pass.{Pass}
use Rattle.turn_cell.specs.History.{IsHistory, StartsWith, entries_of}
use Rattle.turn_cell.specs.Passes.{IsPassOf, mine, number, seen, sights}
use Rattle.flow_defs.specs.declared.parcel.Parcel.{Parcel}
use Rattle.flow_defs.specs.Parcels.{barriers_of}
use Rattle.input_channel.specs.declared.entry.Gave.{Gave}
use Rattle.input_channel.specs.declared.entry.ReceiveEntry.{ReceiveEntry}
use Rattle.input_channel.specs.declared.entry.ReceiveEntry.TheVariants.{Poll}
use Rattle.input_channel.specs.declared.polled.Polled.{Polled}
use Rattle.input_channel.specs.declared.polled.Polled.TheVariants.{Buffer, Barrier, End, Empty, Held}
use Rattle.input_channel.specs.Inboxes.{inbox, waiting, front_waits}
use Rattle.input_channel.specs.Legal.{MayReceive, open_save, polled_with, returned}
use Rattle.input_channel.specs.States.{ChannelState}

-- An input channel's cell, and a pass of it.
abbrev pub InputCell : Type 0
InputCell = TurnCell ChannelState ReceiveEntry ℕ

abbrev pub InputPass : Type 0
InputPass = Pass ChannelState ReceiveEntry ℕ

-- What the polls of a channel gave, by the history that a pass has seen.
abbrev pub given_in : List (ℕ × ReceiveEntry) → List Parcel
given_in history = (inbox (entries_of history)).given

abbrev pub given_to : InputPass → List Parcel
given_to pass = given_in (seen pass)

-- The gate's pass of the cell. It has no save open.
abbrev pub IsGatePass : InputCell → InputPass → Type 0
IsGatePass cell pass = IsPassOf cell pass × (number pass ≡ 0) × (open_save (mine pass) ≡ None)

-- What a pass has seen, and what it saw at each of its looks.
abbrev pub Looks : Type 0
Looks = List (ℕ × ReceiveEntry) × List (List (ℕ × ReceiveEntry))

abbrev pub looks_of : InputPass → Looks
looks_of pass = (seen pass, sights pass)

abbrev pub looks_at : ℕ → List InputPass → Looks
looks_at c [] = ([], [])
looks_at zero (pass ∷ passes) = looks_of pass
looks_at (suc c) (pass ∷ passes) = looks_at c passes

-- At the end of this history no front barrier is the first barrier that waits.
abbrev pub NoFront : List (ℕ × ReceiveEntry) → Type 0
NoFront history = front_waits (waiting (inbox (entries_of history)).arrivals) ≡ false

-- The pass has looked since then, and the last of these looks saw what the pass has seen now. There no front barrier was the first barrier that waited.
pub record Looked (before after : Looks) : Type 0 where
  pub earlier : List (List (ℕ × ReceiveEntry))
  pub grew : after.1 ≡ before.1 ++ (earlier ++ after.0 ∷ [])
  pub no_front : NoFront after.0

-- The pass has seen what it had seen, or more, and looked as often as it had, or more often.
abbrev pub IsLater : InputPass → InputPass → Type 0
IsLater before after = StartsWith (seen after) (seen before) × StartsWith (sights after) (sights before)

-- The history that the pass has seen now ends with its poll. Before it, others' entries gave nothing.
pub record EndsInPoll (before after : InputPass) (hold : Bool) (gave : Gave) : Type 0 where
  pub entries : List ReceiveEntry
  pub room : ℕ
  pub legal : IsHistory (MayReceive room) entries
  pub given : (inbox entries).given ≡ given_to before
  pub ends : entries_of (seen after) ≡ entries ++ Poll hold gave ∷ []

-- Of each kind of buffers as many came back as polls gave.
abbrev pub IsEven : List ReceiveEntry → Type 0
IsEven es = (exclusive : Bool) → returned exclusive es ≡ polled_with exclusive es

-- A buffer that was polled has this length; a barrier has the number that follows those given, and was not held back.
abbrev pub Fits : ℕ → Bool → List Parcel → Polled → Type 0
Fits size hold given (Buffer buf) = length buf.segment ≡ size
Fits size hold given (Barrier k kind) = (k ≡ suc (length (barriers_of given))) × (hold ≡ false)
Fits size hold given End = Unit {0}
Fits size hold given Empty = Unit {0}
Fits size hold given Held = Unit {0}
