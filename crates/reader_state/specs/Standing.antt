-- What the readers in a turn cell stand for: the history of the turns. Which pass makes which entry is this project's own choice.
use Rattle.std.specs.Prelude.{◌≡◌, ℕ, ◌+◌, Bool, true, false, ◌==◌, List, [], ◌∷◌, count_by, map, if◌then◌else◌, ◌&&◌}
use Rattle.turn_cell.specs.History.{IsHistory, entries_of}
use Rattle.flow_defs.specs.declared.task.ChannelId.{ChannelId}
use Rattle.credit_reader.specs.declared.reader.SentKind.{SentKind}
use Rattle.credit_reader.specs.Readers.{cost}
use Rattle.credit_reader.specs.Senders.{is_same}
use Rattle.reader_state.specs.declared.entry.ReaderEntry.{ReaderEntry}
use Rattle.reader_state.specs.declared.entry.ReaderEntry.TheVariants.{Ready, Sent, Told, Asked, Granted, Resumed}
use Rattle.reader_state.specs.Ledgers.{Ledger, channels_of, replayed, MayEnter}

-- Pass 0, the writer of items, tells what stands first, what was sent and what was announced; pass 1, the reader of control frames,
-- asks, grants and resumes.
abbrev pub may_make : ℕ → ReaderEntry → Bool
may_make n (Ready c head backlog) = n == 0
may_make n (Sent c what head backlog) = n == 0
may_make n (Told c) = n == 0
may_make n (Asked c credit) = n == 1
may_make n (Granted c credit) = n == 1
may_make n (Resumed c) = n == 1

-- A pass adds an entry of its own that may come.
abbrev pub MayEnterAs : List ChannelId → List (ℕ × ReaderEntry) → ℕ × ReaderEntry → Type 0
MayEnterAs channels history pair = (may_make pair.0 pair.1 ≡ true) × MayEnter (replayed channels (entries_of history)) pair.1

-- The history is legal, and the ledger is what it makes of newly opened channels.
pub record LedgerStandsFor (l : Ledger) (history : List (ℕ × ReaderEntry)) : Type 0 where
  pub legal : IsHistory (MayEnterAs (channels_of l)) history
  pub replayed : l ≡ replayed (channels_of l) (entries_of history)

-- The kinds of the items that were sent on a channel, in order.
abbrev pub sent_on : ChannelId → List ReaderEntry → List SentKind
sent_on c [] = []
sent_on c (Ready d head backlog ∷ es) = sent_on c es
sent_on c (Sent d what head backlog ∷ es) = if is_same d c then what ∷ sent_on c es else sent_on c es
sent_on c (Told d ∷ es) = sent_on c es
sent_on c (Asked d n ∷ es) = sent_on c es
sent_on c (Granted d n ∷ es) = sent_on c es
sent_on c (Resumed d ∷ es) = sent_on c es

-- The credit that came on a channel: that of its request, and what was granted since.
abbrev pub credit_on : ChannelId → List ReaderEntry → ℕ
credit_on c [] = 0
credit_on c (Ready d head backlog ∷ es) = credit_on c es
credit_on c (Sent d what head backlog ∷ es) = credit_on c es
credit_on c (Told d ∷ es) = credit_on c es
credit_on c (Asked d n ∷ es) = if is_same d c then n + credit_on c es else credit_on c es
credit_on c (Granted d n ∷ es) = if is_same d c then n + credit_on c es else credit_on c es
credit_on c (Resumed d ∷ es) = credit_on c es

-- The resumptions that came on a channel.
abbrev pub resumptions_on : ChannelId → List ReaderEntry → ℕ
resumptions_on c [] = 0
resumptions_on c (Ready d head backlog ∷ es) = resumptions_on c es
resumptions_on c (Sent d what head backlog ∷ es) = resumptions_on c es
resumptions_on c (Told d ∷ es) = resumptions_on c es
resumptions_on c (Asked d n ∷ es) = resumptions_on c es
resumptions_on c (Granted d n ∷ es) = resumptions_on c es
resumptions_on c (Resumed d ∷ es) = if is_same d c then 1 + resumptions_on c es else resumptions_on c es

-- The backlog that the reader of a channel was told last, with what stands first or with an item that was sent; before that a first
-- number, and at the beginning 0.
abbrev pub told_last_from : ChannelId → ℕ → List ReaderEntry → ℕ
told_last_from c n [] = n
told_last_from c n (Ready d head backlog ∷ es) = told_last_from c (if is_same d c then backlog else n) es
told_last_from c n (Sent d what head backlog ∷ es) = told_last_from c (if is_same d c then backlog else n) es
told_last_from c n (Told d ∷ es) = told_last_from c n es
told_last_from c n (Asked d credit ∷ es) = told_last_from c n es
told_last_from c n (Granted d credit ∷ es) = told_last_from c n es
told_last_from c n (Resumed d ∷ es) = told_last_from c n es

abbrev pub told_last : ChannelId → List ReaderEntry → ℕ
told_last c es = told_last_from c 0 es

-- The backlogs that are announced on a channel, in order: each is what its reader was told last.
abbrev pub announced_from : ChannelId → ℕ → List ReaderEntry → List ℕ
announced_from c n [] = []
announced_from c n (Ready d head backlog ∷ es) = announced_from c (if is_same d c then backlog else n) es
announced_from c n (Sent d what head backlog ∷ es) = announced_from c (if is_same d c then backlog else n) es
announced_from c n (Told d ∷ es) = if is_same d c then n ∷ announced_from c n es else announced_from c n es
announced_from c n (Asked d credit ∷ es) = announced_from c n es
announced_from c n (Granted d credit ∷ es) = announced_from c n es
announced_from c n (Resumed d ∷ es) = announced_from c n es

abbrev pub announced_on : ChannelId → List ReaderEntry → List ℕ
announced_on c es = announced_from c 0 es
