-- The laws of a channel's receiving end.
use Rattle.std.specs.Prelude.{◌≡◌, ℕ, ◌+◌, ◌<◌, true, false, Bool, List, [], ◌∷◌, ◌++◌, map, length, option_map, option_to_list, Some, None}
use Rattle.flow_defs.specs.declared.task.BarrierKind.{BarrierKind}
use Rattle.flow_defs.specs.declared.parcel.Parcel.TheVariants.{Barrier}
use Rattle.flow_defs.specs.Parcels.{data_of, barriers_of, has_end}
use Rattle.flow_defs.specs.Barriers.{data_before, has_barrier}
use Rattle.turn_cell.specs.History.{by}
use Rattle.input_channel.specs.declared.entry.Gave.{Gave}
use Rattle.input_channel.specs.declared.entry.ReceiveEntry.{ReceiveEntry}
use Rattle.input_channel.specs.declared.entry.ReceiveEntry.TheVariants.{Push, Poll, Save}
use Rattle.input_channel.specs.declared.arrival.Arrival.{Arrival}
use Rattle.input_channel.specs.declared.fault.AcceptFault.TheVariants.{OverCredit}
use Rattle.input_channel.specs.Answers.{IsFault, refused, parcel_in, gave_of, given_by, IsAnswer}
use Rattle.input_channel.specs.declared.polled.Polled.{Polled}
use Rattle.input_channel.specs.Inboxes.{inbox, pushed, waiting, parcel_of, poll_gives, polled_bytes, polled_behind, saved, has_save, IsSave}
use Rattle.input_channel.specs.Counts.{free, numbers}
use Rattle.turn_cell.specs.History.{IsHistory, entries_of}
use Rattle.std.specs.List.{range_with_len}
use Rattle.input_channel.specs.Legal.{MayReceive, MayReceiveAs, ReceivedByPasses, returned, polled_with, asks, credit_told, open_save}
use Rattle.input_channel.specs.States.{OpenSave, ChannelState, opening, saved_bytes, channel_next, ChannelStandsFor, Allows, exclusive_here}

-- ---- of every history

-- What arrived is what was pushed, in that order.
abbrev pub ArrivalsArePushed : Type 0
ArrivalsArePushed = (es : List ReceiveEntry) → map parcel_of (inbox es).arrivals ≡ pushed es

-- The bytes that polls gave, and then those that wait, are the bytes that arrived.
abbrev pub DataComeInOrder : Type 0
DataComeInOrder = (es : List ReceiveEntry) → data_of (inbox es).given ++ data_of (waiting (inbox es).arrivals) ≡ data_of (pushed es)

-- So are the barriers, with their kinds.
abbrev pub BarriersComeInOrder : Type 0
BarriersComeInOrder = (es : List ReceiveEntry) → barriers_of (inbox es).given ++ barriers_of (waiting (inbox es).arrivals) ≡ barriers_of (pushed es)

-- Once a channel was shut, nothing more is announced.
abbrev pub ShutAnnouncesNothing : Type 0
ShutAnnouncesNothing = (es more : List ReceiveEntry) → (numbers es).counts.shut ≡ true → (numbers (es ++ more)).announced ≡ (numbers es).announced

-- ---- of the saves of every history

-- What was polled before a save but for the rest, and then what is saved, are the data that came before the barrier.
abbrev pub SavedCompletesPolled : Type 0
SavedCompletesPolled =
    (es before after : List ReceiveEntry) (k : ℕ) (rest kept : List ℕ) →
    IsSave es k before rest after → polled_bytes before ≡ kept ++ rest → kept ++ saved k es ≡ data_before k (pushed es)

-- A save is in time while its barrier was not polled, and once it was, while nothing was polled since.
abbrev pub NotPolledIsInTime : Type 0
NotPolledIsInTime = (es : List ReceiveEntry) (k : ℕ) → has_barrier k (inbox es).given ≡ false → polled_behind k (inbox es).arrivals ≡ []

abbrev pub has_poll : List ReceiveEntry → Bool
has_poll [] = false
has_poll (Poll hold gave ∷ es) = true
has_poll (e ∷ es) = has_poll es

abbrev pub JustPolledIsInTime : Type 0
JustPolledIsInTime =
    (es more : List ReceiveEntry) (hold : Bool) (gave : Gave) (k : ℕ) (kind : BarrierKind) →
    has_barrier k (inbox es).given ≡ false → poll_gives hold (waiting (inbox es).arrivals) ≡ Some (Barrier k kind) → has_poll more ≡ false →
    polled_behind k (inbox (es ++ Poll hold gave ∷ more)).arrivals ≡ []

-- What is saved stays once the barrier has come.
abbrev pub SavedStays : Type 0
SavedStays = (es more : List ReceiveEntry) (k : ℕ) → has_save k es ≡ true → has_barrier k (pushed es) ≡ true → saved k (es ++ more) ≡ saved k es

-- ---- of every legal history

-- The credit announced is the 2 of the opening, and what was told.
abbrev pub AnnouncedIsTold : Type 0
AnnouncedIsTold = (room : ℕ) (es : List ReceiveEntry) → IsHistory (MayReceive room) es → (numbers es).announced ≡ 2 + credit_told es

-- The free buffers are the credit announced less the data received, and the credit not announced yet.
abbrev pub CreditAgrees : Type 0
CreditAgrees = (room : ℕ) (es : List ReceiveEntry) → IsHistory (MayReceive room) es →
    free (numbers es).counts + (numbers es).received ≡ (numbers es).announced + (numbers es).counts.pending

-- The barriers that arrive have the numbers 1, 2 and so on.
abbrev pub ArrivalsAreNumbered : Type 0
ArrivalsAreNumbered = (room : ℕ) (es : List ReceiveEntry) → IsHistory (MayReceive room) es →
    map (λ barrier. barrier.0) (barriers_of (pushed es)) ≡ range_with_len 1 (length (barriers_of (pushed es)))

-- Once the end was given nothing waits, and it had arrived.
abbrev pub EndIsGivenLast : Type 0
EndIsGivenLast = (room : ℕ) (es : List ReceiveEntry) → IsHistory (MayReceive room) es → has_end (inbox es).given ≡ true →
    (waiting (inbox es).arrivals ≡ []) × (has_end (pushed es) ≡ true)

-- An entry that opens a save is the save for its barrier.
abbrev pub SavesAreLegal : Type 0
SavesAreLegal =
    (room : ℕ) (es before after : List ReceiveEntry) (k : ℕ) (rest : List ℕ) → IsHistory (MayReceive room) es → es ≡ before ++ Save k rest ∷ after → IsSave es k before rest after

-- ---- of a channel and the history for which it stands

-- A channel that was opened stands for no entry.
abbrev pub OpensEmpty : Type 0
OpensEmpty = (size room : ℕ) → ChannelStandsFor (opening size room) []

-- What a call asks is what the history asks.
abbrev pub CallsAreLegal : Type 0
CallsAreLegal = (c : ChannelState) (pairs : List (ℕ × ReceiveEntry)) (e : ReceiveEntry) →
    ChannelStandsFor c pairs → Allows c (entries_of pairs) e → MayReceive c.room (entries_of pairs) e

-- Each entry is one that its pass makes, and the entries alone are legal too.
abbrev pub PassesAreKept : Type 0
PassesAreKept = (c : ChannelState) (pairs : List (ℕ × ReceiveEntry)) → ChannelStandsFor c pairs → ReceivedByPasses pairs

abbrev pub EntriesAreLegal : Type 0
EntriesAreLegal = (c : ChannelState) (pairs : List (ℕ × ReceiveEntry)) → ChannelStandsFor c pairs → IsHistory (MayReceive c.room) (entries_of pairs)

-- A call adds its entry.
abbrev pub CallsAddEntries : Type 0
CallsAddEntries = (c : ChannelState) (pairs : List (ℕ × ReceiveEntry)) (n : ℕ) (e : ReceiveEntry) →
    ChannelStandsFor c pairs → MayReceiveAs c.room pairs (n, e) → ChannelStandsFor (channel_next c e) (pairs ++ (n, e) ∷ [])

-- What a poll answers is given next.
abbrev pub PollTells : Type 0
PollTells = (c : ChannelState) (pairs : List (ℕ × ReceiveEntry)) (hold : Bool) (gave : Gave) → ChannelStandsFor c pairs →
    (inbox (entries_of pairs ++ Poll hold gave ∷ [])).given ≡ (inbox (entries_of pairs)).given ++ option_to_list (poll_gives hold c.queue)

-- What an open save comes to is what the history saves; and which save is open is what the history tells.
abbrev pub SavedTells : Type 0
SavedTells = (c : ChannelState) (pairs : List (ℕ × ReceiveEntry)) (save : OpenSave) → ChannelStandsFor c pairs → c.save ≡ Some save → saved_bytes c save ≡ saved save.number (entries_of pairs)

abbrev pub OpenSaveIsTold : Type 0
OpenSaveIsTold = (c : ChannelState) (pairs : List (ℕ × ReceiveEntry)) → ChannelStandsFor c pairs → open_save (entries_of pairs) ≡ option_map (λ save. save.number) c.save

-- An exclusive buffer that was given and has not come back is not there.
abbrev pub ReturnFits : Type 0
ReturnFits = (c : ChannelState) (pairs : List (ℕ × ReceiveEntry)) → ChannelStandsFor c pairs →
    returned true (entries_of pairs) < polled_with true (entries_of pairs) → exclusive_here c < 2

-- ---- of answers

-- What is accepted was allowed, and so is the poll that an answer tells of.
abbrev pub AcceptedIsAllowed : Type 0
AcceptedIsAllowed = (c : ChannelState) (es : List ReceiveEntry) (a : Arrival) (bytes : List ℕ) →
    refused c a bytes ≡ None → Allows c es (Push (parcel_in a.what bytes) a.backlog)

abbrev pub PolledIsAllowed : Type 0
PolledIsAllowed = (c : ChannelState) (es : List ReceiveEntry) (hold : Bool) (polled : Polled) →
    IsAnswer hold c polled → Allows c es (Poll hold (gave_of polled))

-- What an answer gives is what the poll gives.
abbrev pub AnswerIsGiven : Type 0
AnswerIsGiven = (c : ChannelState) (hold : Bool) (polled : Polled) → IsAnswer hold c polled → given_by polled ≡ poll_gives hold c.queue

-- Where a channel answers that data came over the credit, no credit is open, so that it may be shut.
abbrev pub OverCreditIsSpent : Type 0
OverCreditIsSpent = (c : ChannelState) (a : Arrival) (bytes : List ℕ) (received announced : ℕ) →
    IsFault c a bytes (OverCredit received announced) → c.credit ≡ 0

-- ---- of the entries of each pass

-- What was pushed is told by the entries of pass 1.
abbrev pub ReaderTellsPushed : Type 0
ReaderTellsPushed = (pairs : List (ℕ × ReceiveEntry)) → ReceivedByPasses pairs → pushed (entries_of pairs) ≡ pushed (by 1 pairs)

-- Which buffers polls gave, which came back, and which resumptions were asked for, is told by those of pass 0.
pub record IsToldByGate (pairs : List (ℕ × ReceiveEntry)) : Type 0 where
  pub polled : (exclusive : Bool) → polled_with exclusive (entries_of pairs) ≡ polled_with exclusive (by 0 pairs)
  pub returned : (exclusive : Bool) → returned exclusive (entries_of pairs) ≡ returned exclusive (by 0 pairs)
  pub asked : asks (entries_of pairs) ≡ asks (by 0 pairs)

abbrev pub GateTellsBuffers : Type 0
GateTellsBuffers = (pairs : List (ℕ × ReceiveEntry)) → ReceivedByPasses pairs → IsToldByGate pairs

-- So are the saves that were opened, and the one that is open.
pub record AreSavesTold (pairs : List (ℕ × ReceiveEntry)) : Type 0 where
  pub saved : (k : ℕ) → has_save k (entries_of pairs) ≡ has_save k (by 0 pairs)
  pub now : open_save (entries_of pairs) ≡ open_save (by 0 pairs)

abbrev pub GateTellsSaves : Type 0
GateTellsSaves = (pairs : List (ℕ × ReceiveEntry)) → ReceivedByPasses pairs → AreSavesTold pairs

-- The credit that was told is told by those of pass 2.
abbrev pub WriterTellsCredit : Type 0
WriterTellsCredit = (pairs : List (ℕ × ReceiveEntry)) → ReceivedByPasses pairs → credit_told (entries_of pairs) ≡ credit_told (by 2 pairs)

-- What was given changes by the entries of pass 0 alone.
abbrev pub GivenStays : Type 0
GivenStays = (pairs more : List (ℕ × ReceiveEntry)) → ReceivedByPasses more → by 0 more ≡ [] →
    (inbox (entries_of (pairs ++ more))).given ≡ (inbox (entries_of pairs)).given
