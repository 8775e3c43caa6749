-- Laws of the readers of a connection, over every legal history of their turns. Each is proved as a clause of a function of `laws`.
-- That credit covers the data sent is the rule of Flink's credit-based flow control; the rest is this project's own.
use Rattle.std.specs.Prelude.{◌≡◌, ℕ, ◌+◌, ◌%◌, ◌^◌, ◌≤◌, Bool, true, false, List, length, count_by, if◌then◌else◌, Some}
use Rattle.std.specs.List.{list_any}
use Rattle.turn_cell.specs.History.{by, entries_of, IsHistory}
use Rattle.flow_defs.specs.declared.task.ChannelId.{ChannelId}
use Rattle.credit_reader.specs.declared.reader.Reader.{Reader}
use Rattle.credit_reader.specs.declared.reader.SentKind.{SentKind}
use Rattle.credit_reader.specs.declared.reader.SentKind.TheVariants as kinds
use Rattle.credit_reader.specs.Readers.{blocks}
use Rattle.credit_reader.specs.Senders.{reader_of}
use Rattle.reader_state.specs.declared.state.Early.{Early}
use Rattle.reader_state.specs.declared.entry.ReaderEntry.{ReaderEntry}
use Rattle.reader_state.specs.Ledgers.{KEPT_MAX, early_of, is_end}
use Rattle.reader_state.specs.Standing.{MayEnterAs, sent_on, credit_on, resumptions_on, told_last}
use Rattle.reader_state.specs.Turning.{IsOneOf, ledger_after}

-- A legal history of the readers of these channels.
abbrev pub IsLegal : List ChannelId → List (ℕ × ReaderEntry) → Type 0
IsLegal channels history = IsHistory (MayEnterAs channels) history

-- After a history this is the reader of a channel, and this its early part.
pub record HasParts (channels : List ChannelId) (history : List (ℕ × ReaderEntry)) (c : ChannelId) (r : Reader) (e : Early) : Type 0 where
  pub reader_is : reader_of c (ledger_after channels history).sender.readers ≡ Some r
  pub early_is : early_of c (ledger_after channels history) ≡ Some e

-- Each of the channels has both.
abbrev pub ChannelsHaveParts : Type 0
ChannelsHaveParts = (channels : List ChannelId) (history : List (ℕ × ReaderEntry)) (c : ChannelId) → IsLegal channels history → IsOneOf c channels → (r : Reader) × (e : Early) × HasParts channels history c r e

-- A law of the reader and the early part of every channel, with the entries of the history.
abbrev pub AfterEachHistory : (ChannelId → List ReaderEntry → Reader → Early → Type 0) → Type 0
AfterEachHistory P =
    (channels : List ChannelId) (history : List (ℕ × ReaderEntry)) (c : ChannelId) (r : Reader) (e : Early) → IsLegal channels history → HasParts channels history c r e → P c (entries_of history) r e

-- Whether an item is a data buffer.
abbrev pub is_data : SentKind → Bool
is_data kinds.Buffer = true
is_data kinds.Inline = false
is_data kinds.Front = false
is_data kinds.End = false

-- The data sent, the credit that is there and the credit that is kept are at most the credit that came, and exactly that as long as
-- all that came can be kept.
pub record CoversData (c : ChannelId) (es : List ReaderEntry) (r : Reader) (e : Early) : Type 0 where
  pub covered : count_by is_data (sent_on c es) + r.credit + e.credit ≤ credit_on c es
  pub exact : credit_on c es ≤ KEPT_MAX → count_by is_data (sent_on c es) + r.credit + e.credit ≡ credit_on c es

-- The inline barriers sent and the resumptions that are kept are at most the resumptions that came, and one more while the channel is
-- blocked.
abbrev pub CoversBarriers : ChannelId → List ReaderEntry → Reader → Early → Type 0
CoversBarriers c es r e = count_by blocks (sent_on c es) + e.resumptions ≤ resumptions_on c es + (if r.blocked then 1 else 0)

-- The end is noted once it was sent, and the next number counts the items that were sent.
abbrev pub NotesEnd : ChannelId → List ReaderEntry → Reader → Early → Type 0
NotesEnd c es r e = e.ended ≡ list_any is_end (sent_on c es)

abbrev pub CountsItems : ChannelId → List ReaderEntry → Reader → Early → Type 0
CountsItems c es r e = r.sequence ≡ length (sent_on c es) % 2 ^ 32

-- The backlog is the number that was told last.
abbrev pub KeepsBacklog : ChannelId → List ReaderEntry → Reader → Early → Type 0
KeepsBacklog c es r e = r.backlog ≡ told_last c es

-- What was sent, the backlog that was told last, and the credit and the resumptions that came, are told by the own entries of the pass
-- that makes them.
pub record PassesTell (channels : List ChannelId) (history : List (ℕ × ReaderEntry)) (c : ChannelId) : Type 0 where
  pub sent : sent_on c (entries_of history) ≡ sent_on c (by 0 history)
  pub backlog : told_last c (entries_of history) ≡ told_last c (by 0 history)
  pub credit : credit_on c (entries_of history) ≡ credit_on c (by 1 history)
  pub resumptions : resumptions_on c (entries_of history) ≡ resumptions_on c (by 1 history)

abbrev pub AllPassesTell : Type 0
AllPassesTell = (channels : List ChannelId) (history : List (ℕ × ReaderEntry)) (c : ChannelId) → IsLegal channels history → PassesTell channels history c
