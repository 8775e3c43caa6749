-- What the sending end of a connection keeps of its channels. Readers and their credit are those of Flink's network stack. That
-- credit which doesn't fit yet and resumptions that come too early are kept and given later is this project's own: the two ends
-- work in threads of their own, and a message says nothing of what the other end has done by then.
use Rattle.std.specs.Prelude.{◌≡◌, ℕ, ◌+◌, ◌-◌, ◌≤◌, min, Bool, true, false, ◌&&◌, ◌||◌, ◌==◌, nat_lt, List, [], ◌∷◌, map, find, slice_get, if◌then◌else◌, Option, Some, None}
use Rattle.std.specs.Option.{option_map_or, IsSomeAnd}
use Rattle.flow_defs.specs.declared.task.ChannelId.{ChannelId}
use Rattle.flow_defs.specs.declared.task.Head.{Head}
use Rattle.credit_reader.specs.declared.reader.Reader.{Reader}
use Rattle.credit_reader.specs.declared.reader.SentKind.{SentKind}
use Rattle.credit_reader.specs.declared.reader.SentKind.TheVariants as kinds
use Rattle.flow_defs.specs.Limits.{credit_max}
use Rattle.credit_reader.specs.Readers as readers
use Rattle.credit_reader.specs.Senders.{Sender, sender_of, is_same, reader_of, MayHappen, happened, has_sent}
use Rattle.credit_reader.specs.Answers.{due_first}
use Rattle.reader_state.specs.declared.state.Early.{Early}
use Rattle.reader_state.specs.declared.entry.ReaderEntry.{ReaderEntry}
use Rattle.reader_state.specs.declared.entry.ReaderEntry.TheVariants.{Ready, Sent, Told, Asked, Granted, Resumed}

-- The readers, and of each channel, in the same order, what came too early.
pub record Ledger : Type 0 where
  pub sender : Sender
  pub early : List Early

-- The most that is kept of what came too early.
abbrev pub KEPT_MAX : ℕ
KEPT_MAX = 18446744073709551615

-- A channel on which nothing came yet.
abbrev pub none_early : ChannelId → Early
none_early c = record { channel = c; credit = 0; resumptions = 0; ended = false }

-- The readers of these channels before any is requested.
abbrev pub opened : List ChannelId → Ledger
opened channels = record { sender = sender_of channels; early = map none_early channels }

-- Its channels, in order.
abbrev pub channels_of : Ledger → List ChannelId
channels_of l = map (λ r. r.channel) l.sender.readers

-- What came too early on a channel, where there is such a channel.
abbrev pub early_of : ChannelId → Ledger → Option Early
early_of c l = find (λ e. is_same e.channel c) l.early

-- Another early part for one channel.
abbrev pub with_early : ChannelId → (Early → Early) → Ledger → Ledger
with_early c f l = record l { early = map (λ e. if is_same e.channel c then f e else e) l.early }

-- Something happens to the reader of a channel.
abbrev pub with_reader : ChannelId → readers.Happening → Ledger → Ledger
with_reader c happening l = record l { sender = happened c happening l.sender }

-- How much of the early credit of a channel fits now: the credit of a reader has a greatest number.
abbrev pub fitting : ChannelId → Ledger → ℕ
fitting c l = min (option_map_or (λ e. e.credit) (early_of c l) 0) (credit_max - option_map_or (λ r. r.credit) (reader_of c l.sender.readers) credit_max)

-- So much of the early credit of a channel is given to its reader.
abbrev pub credit_given : ChannelId → ℕ → Ledger → Ledger
credit_given c n l = if n == 0 then l else with_early c (λ e. record e { credit = e.credit - n }) (with_reader c (readers.Granted n) l)

-- Whether an early resumption of a channel fits now: where the channel is blocked.
abbrev pub may_resume : ChannelId → Ledger → Bool
may_resume c l = option_map_or (λ e. nat_lt 0 e.resumptions) (early_of c l) false && option_map_or (λ r. r.blocked) (reader_of c l.sender.readers) false

-- An early resumption of a channel is given to its reader, where one fits.
abbrev pub resumption_given : ChannelId → Ledger → Ledger
resumption_given c l = if may_resume c l then with_early c (λ e. record e { resumptions = e.resumptions - 1 }) (with_reader c readers.Resumed l) else l

-- What fits of a channel's early part is given to its reader.
abbrev pub settled : ChannelId → Ledger → Ledger
settled c l = resumption_given c (credit_given c (fitting c l) l)

-- Whether it is the end that was sent.
abbrev pub is_end : SentKind → Bool
is_end kinds.Buffer = false
is_end kinds.Inline = false
is_end kinds.Front = false
is_end kinds.End = true

-- The early part of a channel on which an item was sent.
abbrev pub ended_by : SentKind → Early → Early
ended_by what e = record e { ended = e.ended || is_end what }

-- The ledger after an entry. Each item sent and each message that came gives what then fits on its channel.
abbrev pub ledger_next : Ledger → ReaderEntry → Ledger
ledger_next l (Ready c head backlog) = with_reader c (readers.Ready head backlog) l
ledger_next l (Sent c what head backlog) = settled c (with_early c (ended_by what) (record l { sender = has_sent c what head backlog l.sender }))
ledger_next l (Told c) = with_reader c readers.Announced l
ledger_next l (Asked c n) = with_reader c (readers.Asked n) l
ledger_next l (Granted c n) = settled c (with_early c (λ e. record e { credit = min (e.credit + n) KEPT_MAX }) l)
ledger_next l (Resumed c) = settled c (with_early c (λ e. record e { resumptions = min (e.resumptions + 1) KEPT_MAX }) l)

-- The ledger after several entries, one after another.
abbrev pub after_all : Ledger → List ReaderEntry → Ledger
after_all l [] = l
after_all l (e ∷ es) = after_all (ledger_next l e) es

-- What a history makes of newly opened channels.
abbrev pub replayed : List ChannelId → List ReaderEntry → Ledger
replayed channels es = after_all (opened channels) es

-- Whether a channel is known and was requested.
abbrev pub is_requested : ChannelId → Ledger → Bool
is_requested c l = option_map_or (λ r. r.requested) (reader_of c l.sender.readers) false

-- Which entry may come: a channel is requested once, gets credit and is resumed only after that, and only the reader whose turn it
-- is sends, data only where it has credit.
abbrev pub MayEnter : Ledger → ReaderEntry → Type 0
MayEnter l (Ready c head backlog) = IsSomeAnd (reader_of c l.sender.readers) (λ r. backlog ≤ credit_max)
MayEnter l (Sent c what head backlog) = (slice_get l.sender.queue 0 ≡ Some c) × MayHappen c (readers.Sent what head backlog) l.sender × (backlog ≤ credit_max)
MayEnter l (Told c) = IsSomeAnd (due_first l.sender) (λ r. r.channel ≡ c)
MayEnter l (Asked c n) = MayHappen c (readers.Asked n) l.sender × (n ≤ credit_max)
MayEnter l (Granted c n) = (is_requested c l ≡ true) × (1 ≤ n) × (n ≤ credit_max)
MayEnter l (Resumed c) = is_requested c l ≡ true

-- Early credit is still kept of a channel whose end was sent, and an early resumption likewise.
abbrev pub IsOverdueCredit : Ledger → Type 0
IsOverdueCredit l = (k : ℕ) × (e : Early) × (slice_get l.early k ≡ Some e) × (e.ended ≡ true) × (1 ≤ e.credit)

abbrev pub IsOverdueResumption : Ledger → Type 0
IsOverdueResumption l = (k : ℕ) × (e : Early) × (slice_get l.early k ≡ Some e) × (e.ended ≡ true) × (1 ≤ e.resumptions)

-- Neither is.
pub record HasNoneOverdue (l : Ledger) : Type 0 where
  pub credit : ¬ IsOverdueCredit l
  pub resumption : ¬ IsOverdueResumption l
