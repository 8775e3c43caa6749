-- One channel of a gate: what it has given of the flight and of what its polls gave, and how it was cut. What a gate keeps of a channel is
-- this project's own choice.
use Rattle.std.specs.Prelude.{◌≡◌, ◌⊎◌, ℕ, suc, ◌-◌, Bool, List, [], ◌∷◌, ◌++◌, length, take, None}
use Rattle.std.specs.List.{AllByRecursion}
use Rattle.turn_cell.specs.History.{IsHistory}
use Rattle.flow_defs.specs.declared.parcel.Parcel.{Parcel}
use Rattle.flow_defs.specs.declared.parcel.Parcel.TheVariants.{Barrier}
use Rattle.flow_defs.specs.declared.task.BarrierKind.TheVariants.{Inline}
use Rattle.flow_defs.specs.Parcels.{data_of, barriers_of}
use Rattle.flow_defs.specs.Records.{encoded, all_encoded, first_record, spans, IsShort}
use Rattle.input_channel.specs.declared.entry.Gave.{Gave}
use Rattle.input_channel.specs.declared.entry.ReceiveEntry.{ReceiveEntry}
use Rattle.input_channel.specs.declared.entry.ReceiveEntry.TheVariants.{Poll}
use Rattle.input_channel.specs.Inboxes.{inbox, polled_bytes}
use Rattle.input_channel.specs.Legal.{MayReceive}
use Rattle.channel_cut.specs.Cuts.{GaveInLine, IsRead, InLine, Shows}

-- ---- the lines

-- All bytes but the last ones.
abbrev pub but : List ℕ → List ℕ → List ℕ
but bytes rest = take (length bytes - length rest) bytes

-- The lines given, told by what is left.
abbrev pub lines_told : List ℕ → List ReceiveEntry → List ℕ → List (List ℕ)
lines_told flight es left = spans (but (flight ++ polled_bytes es) left)

-- At first nothing is given, and the flight is left.
abbrev pub ReadBegins : Type 0
ReadBegins = (flight : List ℕ) (es : List ReceiveEntry) → (inbox es).given ≡ [] → IsRead flight es [] flight

-- What a poll gives is left behind the rest; a barrier and the end add nothing.
abbrev pub PolledIsLeft : Type 0
PolledIsLeft =
    (flight : List ℕ) (es more : List ReceiveEntry) (lines : List (List ℕ)) (left : List ℕ) (given : List Parcel) →
    (inbox (es ++ more)).given ≡ (inbox es).given ++ given → IsRead flight es lines left → IsRead flight (es ++ more) lines (left ++ data_of given)

-- A line that is given is taken off the front.
abbrev pub LineIsGiven : Type 0
LineIsGiven =
    (flight : List ℕ) (es : List ReceiveEntry) (lines : List (List ℕ)) (line left : List ℕ) →
    IsShort line → IsRead flight es lines (encoded line ++ left) → IsRead flight es (lines ++ line ∷ []) left

-- So the lines are told by what is left.
abbrev pub LinesAreTold : Type 0
LinesAreTold = (flight : List ℕ) (es : List ReceiveEntry) (lines : List (List ℕ)) (left : List ℕ) → IsRead flight es lines left → lines ≡ lines_told flight es left

-- ---- the flight and the channel

-- The flight is given before what comes on the channel: of the flight these records were given and these bytes are left, and of what was
-- polled those; and while the flight is not given whole, nothing that was polled is.
pub record ReadsInParts (flight : List ℕ) (es : List ReceiveEntry) (lines : List (List ℕ)) (left rest : List ℕ) : Type 0 where
  pub front : List (List ℕ)
  pub more : List (List ℕ)
  pub lines_are : lines ≡ front ++ more
  pub short : AllByRecursion IsShort lines
  pub flight_is : flight ≡ all_encoded front ++ left
  pub polled_is : polled_bytes es ≡ all_encoded more ++ rest
  pub first : (left ≡ []) ⊎ (more ≡ [])

-- Then what is left is read as one, and the rest was polled last.
pub record AreParts (flight : List ℕ) (es : List ReceiveEntry) (lines : List (List ℕ)) (left rest : List ℕ) : Type 0 where
  pub read : IsRead flight es lines (left ++ rest)
  pub is_rest : (given : List ℕ) × (polled_bytes es ≡ given ++ rest)

abbrev pub PartsAreRead : Type 0
PartsAreRead = (flight : List ℕ) (es : List ReceiveEntry) (lines : List (List ℕ)) (left rest : List ℕ) → ReadsInParts flight es lines left rest → AreParts flight es lines left rest

-- ---- the cut

-- A barrier that a poll gives in line cuts the channel, where no whole record is left.
abbrev pub InLineCuts : Type 0
InLineCuts =
    (flight : List ℕ) (es : List ReceiveEntry) (hold : Bool) (gave : Gave) (k : ℕ) (lines : List (List ℕ)) (left : List ℕ) →
    GaveInLine es hold k → IsRead flight es lines left → first_record left ≡ None → Shows flight (es ++ Poll hold gave ∷ []) (InLine k lines)

-- So it does where a poll of a legal history gives the next barrier in line.
abbrev pub PollCuts : Type 0
PollCuts =
    (room : ℕ) (flight : List ℕ) (es : List ReceiveEntry) (hold : Bool) (gave : Gave) (k : ℕ) (lines : List (List ℕ)) (left : List ℕ) →
    IsHistory (MayReceive room) es → k ≡ suc (length (barriers_of (inbox es).given)) →
    (inbox (es ++ Poll hold gave ∷ [])).given ≡ (inbox es).given ++ Barrier k Inline ∷ [] →
    IsRead flight es lines left → first_record left ≡ None → Shows flight (es ++ Poll hold gave ∷ []) (InLine k lines)
