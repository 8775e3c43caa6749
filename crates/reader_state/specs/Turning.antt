-- What a pass has seen of the readers between its turns.
use Rattle.std.specs.Prelude.{◌≡◌, ◌≢◌, ℕ, true, false, List, [], ◌∷◌, ◌++◌, slice_get, Option, Some, None, Result, Ok, Err}
use Rattle.std.specs.Option.{option_map, option_map_or}
use Rattle.turn_cell.specs.declared.cell.TurnCell.{TurnCell}
use Rattle.turn_cell.specs.declared.pass.Pass.{Pass}
use Rattle.turn_cell.specs.History.{entries_of}
use Rattle.turn_cell.specs.Passes.{IsPassOf, IsSamePass, number, seen, mine, opened_with}
use Rattle.flow_defs.specs.declared.task.ChannelId.{ChannelId}
use Rattle.flow_defs.specs.declared.task.Head.{Head}
use Rattle.flow_defs.specs.declared.task.Head.TheVariants.{Nothing}
use Rattle.flow_defs.specs.declared.cause.PeerFault.{PeerFault}
use Rattle.flow_defs.specs.declared.cause.PeerFault.TheVariants as peer
use Rattle.credit_reader.specs.declared.reader.Told.{Told as Announced}
use Rattle.credit_reader.specs.Answers.{due_first, told_of}
use Rattle.credit_reader.specs.Senders.{is_same, is_able, reader_of}
use Rattle.reader_state.specs.declared.entry.ReaderEntry.{ReaderEntry}
use Rattle.reader_state.specs.declared.entry.ReaderEntry.TheVariants.{Ready, Sent, Told, Asked, Granted, Resumed}
use Rattle.reader_state.specs.Ledgers.{Ledger, channels_of, replayed, is_requested, IsOverdueCredit, IsOverdueResumption, HasNoneOverdue}
use Rattle.reader_state.specs.Standing.{LedgerStandsFor, told_last}

abbrev pub ReaderCell : Type 0
ReaderCell = TurnCell Ledger ReaderEntry (List ChannelId)

abbrev pub ReaderPass : Type 0
ReaderPass = Pass Ledger ReaderEntry (List ChannelId)

-- The channels of the readers in a cell.
abbrev pub channels_in : ReaderCell → List ChannelId
channels_in cell = channels_of (opened_with cell)

-- The channel is one of these.
abbrev pub IsOneOf : ChannelId → List ChannelId → Type 0
IsOneOf c channels = (k : ℕ) × (slice_get channels k ≡ Some c)

-- The readers in a cell stand for a history.
abbrev pub StandsIn : ReaderCell → List (ℕ × ReaderEntry) → Ledger → Type 0
StandsIn cell history l = LedgerStandsFor l history × (channels_of l ≡ channels_in cell)

-- The ledger after a history.
abbrev pub ledger_after : List ChannelId → List (ℕ × ReaderEntry) → Ledger
ledger_after channels history = replayed channels (entries_of history)

-- What the reader of a channel was told to stand first.
abbrev pub head_told : List ChannelId → ChannelId → List (ℕ × ReaderEntry) → Head
head_told channels c history = option_map_or (λ r. r.head) (reader_of c (ledger_after channels history).sender.readers) Nothing

-- It is the turn of this channel's reader, which can send what it was told to stand first.
pub record CanSend (channels : List ChannelId) (c : ChannelId) (history : List (ℕ × ReaderEntry)) : Type 0 where
  pub first : slice_get (ledger_after channels history).sender.queue 0 ≡ Some c
  pub able : is_able c (ledger_after channels history).sender.readers ≡ true
  pub standing : head_told channels c history ≢ Nothing

-- What readers were told to stand first is as it was, of all of them, or of all but one.
abbrev pub HeadsStay : List ChannelId → List (ℕ × ReaderEntry) → List (ℕ × ReaderEntry) → Type 0
HeadsStay channels before now = (c : ChannelId) → head_told channels c now ≡ head_told channels c before

pub record HeadsChange (channels : List ChannelId) (c : ChannelId) (head : Head) (before now : List (ℕ × ReaderEntry)) : Type 0 where
  pub told : head_told channels c now ≡ head
  pub others : (d : ChannelId) → is_same d c ≡ false → head_told channels d now ≡ head_told channels d before

-- An announcement is made in the turn in which it is the first that is due, and tells the backlog that the pass told its reader last.
pub record AnnouncedFirst (channels : List ChannelId) (before after : ReaderPass) (told : Announced) : Type 0 where
  pub history : List (ℕ × ReaderEntry)
  pub entered : seen after ≡ history ++ (0, Told told.channel) ∷ []
  pub due : option_map told_of (due_first (ledger_after channels history).sender) ≡ Some told
  pub backlog : told_last told.channel (mine before) ≡ told.backlog

-- What a turn announces: nothing only where nothing is due.
abbrev pub AnnouncesDue : List ChannelId → ReaderPass → ReaderPass → Option Announced → Type 0
AnnouncesDue channels before after None = due_first (ledger_after channels (seen after)).sender ≡ None
AnnouncesDue channels before after (Some told) = AnnouncedFirst channels before after told

-- It is a pass of this cell with this number.
abbrev pub IsReaderPass : ReaderCell → ℕ → ReaderPass → Type 0
IsReaderPass cell n pass = IsPassOf cell pass × (number pass ≡ n)

-- A message is refused: a request of a channel that there isn't or that was requested before, credit and resumptions of one that was
-- not requested.
abbrev pub IsRefused : Ledger → ReaderEntry → Type 0
IsRefused l (Asked c n) = option_map_or (λ r. r.requested) (reader_of c l.sender.readers) true ≡ true
IsRefused l (Granted c n) = is_requested c l ≡ false
IsRefused l (Resumed c) = is_requested c l ≡ false
IsRefused l e = ⊥

-- Overdue at the end of a turn.
abbrev pub IsOverdue : Ledger → PeerFault → Type 0
IsOverdue l peer.Credit = IsOverdueCredit l
IsOverdue l peer.Resume = IsOverdueResumption l
IsOverdue l fault = ⊥

-- What a turn with a message came to. A refused one makes no entry, and the fault is `Channel`. Where something is then overdue, and
-- only there, it is a fault, which says what.
abbrev pub TookMessage : List ChannelId → ReaderEntry → ReaderPass → ReaderPass → Result (Unit {0}) PeerFault → Type 0
TookMessage channels entry before after (Ok done) = (mine after ≡ mine before ++ entry ∷ []) × HasNoneOverdue (ledger_after channels (seen after))
TookMessage channels entry before after (Err peer.Channel) = (mine after ≡ mine before) × IsRefused (ledger_after channels (seen after)) entry
TookMessage channels entry before after (Err fault) = (mine after ≡ mine before ++ entry ∷ []) × IsOverdue (ledger_after channels (seen after)) fault

-- What a turn with no message came to.
abbrev pub LookedForOverdue : List ChannelId → ReaderPass → Result (Unit {0}) PeerFault → Type 0
LookedForOverdue channels after (Ok done) = HasNoneOverdue (ledger_after channels (seen after))
LookedForOverdue channels after (Err fault) = IsOverdue (ledger_after channels (seen after)) fault
