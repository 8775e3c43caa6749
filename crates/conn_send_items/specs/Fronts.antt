-- What stands first on a channel, as the loop that writes items sees it between its turns. Heads and backlog are those of Flink's
-- network stack; that the readers are told of them in turns of their own is this project's own choice.
use Rattle.std.specs.Prelude.{◌≡◌, ◌≢◌, ◌⊎◌, ℕ, suc, List, [], ◌∷◌, ◌++◌, slice_get, All, Option, Some, None}
use Rattle.turn_cell.specs.declared.cell.TurnCell.{TurnCell}
use Rattle.turn_cell.specs.declared.pass.Pass.{Pass}
use Rattle.turn_cell.specs.History.{entries_of, StartsWith}
use Rattle.turn_cell.specs.Passes.{IsPassOf, opened_with, number}
use Rattle.flow_defs.specs.declared.task.ChannelId.{ChannelId}
use Rattle.flow_defs.specs.declared.task.BarrierKind.TheVariants as barrier
use Rattle.flow_defs.specs.declared.task.Head.{Head}
use Rattle.flow_defs.specs.declared.task.Head.TheVariants.{Nothing, Buffer, Event}
use Rattle.flow_defs.specs.declared.parcel.Parcel.{Parcel}
use Rattle.flow_defs.specs.declared.parcel.Parcel.TheVariants.{Data, Barrier, End}
use Rattle.subpartition.specs.declared.entry.SendEntry.{SendEntry}
use Rattle.subpartition.specs.declared.entry.SendEntry.TheVariants.{Put, PutInline, PutFront, Finish, Take, Size}
use Rattle.subpartition.specs.Queues.{Queue}
use Rattle.subpartition.specs.Sending.{Outbox, sent_one, outbox, taken}
use Rattle.subpartition.specs.Theorems.{FirstStays}
use Rattle.reader_state.specs.declared.entry.ReaderEntry.{ReaderEntry}
use Rattle.reader_state.specs.Turning.{head_told}
use Rattle.conn_parts.specs.Shares.{seen_at}

abbrev pub SendCell : Type 0
SendCell = TurnCell Queue SendEntry ℕ

abbrev pub SendPass : Type 0
SendPass = Pass Queue SendEntry ℕ

-- The segments of each have this size.
abbrev pub HaveQueueSize : ℕ → List SendCell → Type 0
HaveQueueSize size cells = All (λ (cell : SendCell). (opened_with cell).size ≡ size) cells

-- It is a pass of this cell, that of the sender.
abbrev pub IsSender : SendCell → SendPass → Type 0
IsSender cell pass = IsPassOf cell pass × (number pass ≡ 1)

-- What was taken in a history, and what is left after it.
abbrev pub taken_in : List (ℕ × SendEntry) → List Parcel
taken_in history = taken (entries_of history)

abbrev pub left_after : List (ℕ × SendEntry) → List Parcel
left_after history = (outbox (entries_of history)).items

-- The backlog of these parcels: the number of data among them.
abbrev pub backlog_of : List Parcel → ℕ
backlog_of [] = 0
backlog_of (Data bytes ∷ ps) = suc (backlog_of ps)
backlog_of (Barrier k kind ∷ ps) = backlog_of ps
backlog_of (End ∷ ps) = backlog_of ps

-- The backlog of what is left after a history.
abbrev pub backlog_after : List (ℕ × SendEntry) → ℕ
backlog_after history = backlog_of (left_after history)

-- The backlog behind the first of these.
abbrev pub behind_first : List Parcel → List ℕ
behind_first [] = []
behind_first (p ∷ ps) = backlog_of ps ∷ []

abbrev pub behind_one : Outbox → SendEntry → List ℕ
behind_one o (Put bytes) = []
behind_one o (PutInline k) = []
behind_one o (PutFront k) = []
behind_one o Finish = []
behind_one o Take = behind_first o.items
behind_one o (Size n) = []

-- The backlog behind each item as it is taken, in order.
abbrev pub behind_from : Outbox → List SendEntry → List ℕ
behind_from o [] = []
behind_from o (e ∷ es) = behind_one o e ++ behind_from (sent_one o e) es

abbrev pub behind_taken : List SendEntry → List ℕ
behind_taken es = behind_from (record { taken = []; items = [] }) es

abbrev pub behind_in : List (ℕ × SendEntry) → List ℕ
behind_in history = behind_taken (entries_of history)

-- Nothing was taken between two turns.
pub record NoneTaken (before now : List (ℕ × SendEntry)) : Type 0 where
  pub grows : StartsWith now before
  pub taken : taken_in now ≡ taken_in before
  pub behind : behind_in now ≡ behind_in before

-- One item was taken, with this backlog behind it.
pub record OneTaken (before now : List (ℕ × SendEntry)) (item : Parcel) (backlog : ℕ) : Type 0 where
  pub grows : StartsWith now before
  pub taken : taken_in now ≡ taken_in before ++ item ∷ []
  pub behind : behind_in now ≡ behind_in before ++ backlog ∷ []

-- So many data stood there at a turn of this history.
abbrev pub StoodIn : List (ℕ × SendEntry) → ℕ → Type 0
StoodIn history backlog = (then : List (ℕ × SendEntry)) × StartsWith history then × (backlog_after then ≡ backlog)

-- The head of a queue in which this stands first.
abbrev pub head_with : Option Parcel → Head
head_with None = Nothing
head_with (Some (Data bytes)) = Buffer
head_with (Some (Barrier k kind)) = Event
head_with (Some End) = Event

-- What stands first after a history, and the head with it.
abbrev pub first_after : List (ℕ × SendEntry) → Option Parcel
first_after history = slice_get (left_after history) 0

abbrev pub front_after : List (ℕ × SendEntry) → Head
front_after history = head_with (first_after history)

-- What stood first still does, or it was data and a front barrier came before it.
abbrev pub FrontStays : List (ℕ × SendEntry) → List (ℕ × SendEntry) → Type 0
FrontStays before now = FirstStays (first_after before) (first_after now)

-- All passes but that at a place have seen what they had seen.
abbrev pub OthersStay : ℕ → List SendPass → List SendPass → Type 0
OthersStay place before now = (k : ℕ) → k ≢ place → seen_at k now ≡ seen_at k before

-- What was told to stand first does: where data were told, data or a front barrier, and where an event was told, an event.
abbrev pub StandsAs : Head → Option Parcel → Type 0
StandsAs Nothing first = Unit {0}
StandsAs Buffer first = (head_with first ≡ Buffer) ⊎ ((k : ℕ) × (first ≡ Some (Barrier k barrier.Front)))
StandsAs Event first = head_with first ≡ Event

-- What the reader of the channel at a place was told to stand first does so.
abbrev pub StandsAt : List ChannelId → List (ℕ × ReaderEntry) → List SendPass → ℕ → Type 0
StandsAt channels history passes k = (c : ChannelId) → slice_get channels k ≡ Some c → StandsAs (head_told channels c history) (first_after (seen_at k passes))
