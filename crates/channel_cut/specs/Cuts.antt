-- The cut of a channel at the snapshots of its two tasks. As in FLIP-76 what was put before a barrier was taken before the snapshot of the
-- receiver, or is saved: at the receiver what had come before the barrier and was not taken, and at the sender what the barrier overtook. An
-- aligned barrier leaves nothing to save. That the two ends are told by lists of their own, with no order between them, and that what was in
-- flight from the start stands before all data, is this project's own choice.
use Rattle.std.specs.Prelude.{◌≡◌, ℕ, Bool, true, false, List, ◌∷◌, ◌++◌, Some, None}
use Rattle.std.specs.List.{AllByRecursion}
use Rattle.turn_cell.specs.History.{StartsWith}
use Rattle.flow_defs.specs.declared.parcel.Parcel.TheVariants.{Barrier}
use Rattle.flow_defs.specs.declared.task.BarrierKind.TheVariants.{Inline}
use Rattle.flow_defs.specs.Records.{all_encoded, first_record, IsShort}
use Rattle.plain_machine.specs.Images.{AreSpans}
use Rattle.subpartition.specs.declared.entry.SendEntry.{SendEntry}
use Rattle.subpartition.specs.Sending.{overtaken, put_before, taken}
use Rattle.input_channel.specs.declared.entry.Gave.{Gave}
use Rattle.input_channel.specs.declared.entry.ReceiveEntry.{ReceiveEntry}
use Rattle.input_channel.specs.declared.entry.ReceiveEntry.TheVariants.{Poll}
use Rattle.input_channel.specs.Inboxes.{inbox, poll_gives, polled_bytes, pushed, saved, waiting, IsSave}
use Rattle.flow_defs.specs.Barriers.{data_before, has_barrier}

-- ---- the two ends

-- A poll gives barrier k in line, behind all that waited before it, and none gave it before.
pub record GaveInLine (es : List ReceiveEntry) (hold : Bool) (k : ℕ) : Type 0 where
  pub gives : poll_gives hold (waiting (inbox es).arrivals) ≡ Some (Barrier k Inline)
  pub once : has_barrier k (inbox es).given ≡ false

-- Then all data before it had been polled, and no others.
abbrev pub InLineHasAllBefore : Type 0
InLineHasAllBefore = (es more : List ReceiveEntry) (hold : Bool) (k : ℕ) → GaveInLine es hold k → polled_bytes es ≡ data_before k (pushed (es ++ more))

-- ---- what a gate has of a channel

-- Of the flight, which stands before all data, and of what its polls gave it has given these lines, and these bytes are left.
pub record IsRead (flight : List ℕ) (es : List ReceiveEntry) (lines : List (List ℕ)) (left : List ℕ) : Type 0 where
  pub is : flight ++ polled_bytes es ≡ all_encoded lines ++ left
  pub short : AllByRecursion IsShort lines

-- A poll gave barrier k in line, where the gate had given these lines and no whole record was left.
pub record CameInLine (flight : List ℕ) (es : List ReceiveEntry) (k : ℕ) (lines : List (List ℕ)) : Type 0 where
  pub before : List ReceiveEntry
  pub hold : Bool
  pub gave : Gave
  pub after : List ReceiveEntry
  pub whole : es ≡ before ++ Poll hold gave ∷ after
  pub in_line : GaveInLine before hold k
  pub left : List ℕ
  pub read : IsRead flight before lines left
  pub none_whole : first_record left ≡ None

-- ---- what a save has of a channel

-- A save for barrier k was opened, where the gate had given these lines. What was left of what it had polled went into the save, and
-- this was left of the flight, which stands before that.
pub record WasSaved (flight : List ℕ) (es : List ReceiveEntry) (k : ℕ) (lines : List (List ℕ)) (left : List ℕ) : Type 0 where
  pub before : List ReceiveEntry
  pub rest : List ℕ
  pub after : List ReceiveEntry
  pub save : IsSave es k before rest after
  pub read : IsRead flight before lines (left ++ rest)

-- And the barrier has come, so this is what is saved of the channel.
pub record IsSaved (flight : List ℕ) (es : List ReceiveEntry) (k : ℕ) (lines : List (List ℕ)) (piece : List ℕ) : Type 0 where
  pub left : List ℕ
  pub was : WasSaved flight es k lines left
  pub came : has_barrier k (pushed es) ≡ true
  pub piece_is : piece ≡ left ++ saved k es

-- ---- how a gate cuts a channel

-- At checkpoint k, where these lines were given, its barrier came in line with no whole record left.
pub data Cut : Type 0 where
  InLine : ℕ → List (List ℕ) → Cut

abbrev pub Shows : List ℕ → List ReceiveEntry → Cut → Type 0
Shows flight es (InLine k lines) = CameInLine flight es k lines

-- ---- the laws

-- What was shown stays.
abbrev pub CutsStay : Type 0
CutsStay = (flight : List ℕ) (es more : List ReceiveEntry) (cut : Cut) → Shows flight es cut → Shows flight (es ++ more) cut

-- Where what came begins what was taken, and the flight and what was put before barrier k are records, those together are what was given
-- before the snapshot.
abbrev pub CutOfChannel : Type 0
CutOfChannel =
    (sent : List SendEntry) (es : List ReceiveEntry) (flight : List ℕ) (k : ℕ) (lines : List (List ℕ)) →
    StartsWith (taken sent) (pushed es) → AreSpans flight → AreSpans (put_before k sent) → Shows flight es (InLine k lines) →
    flight ++ put_before k sent ≡ all_encoded lines

-- What is saved of a channel stays too.
abbrev pub SavesStay : Type 0
SavesStay =
    (flight : List ℕ) (es more : List ReceiveEntry) (k : ℕ) (lines : List (List ℕ)) (piece : List ℕ) →
    IsSaved flight es k lines piece → IsSaved flight (es ++ more) k lines piece

-- Where what came begins what was taken, the flight and what was put before barrier k are what was given before the save for it, then what is
-- saved of the channel, and then what the barrier overtook. Of the bytes nothing is asked.
abbrev pub CutAtSave : Type 0
CutAtSave =
    (sent : List SendEntry) (es : List ReceiveEntry) (flight : List ℕ) (k : ℕ) (lines : List (List ℕ)) (piece : List ℕ) →
    StartsWith (taken sent) (pushed es) → IsSaved flight es k lines piece →
    flight ++ put_before k sent ≡ all_encoded lines ++ (piece ++ overtaken k sent)
