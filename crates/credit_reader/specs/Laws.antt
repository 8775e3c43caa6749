-- The laws of readers. Each is proved as a clause of a function of `laws`.
use Rattle.std.specs.Prelude.{◌≡◌, ℕ, ◌+◌, ◌%◌, ◌^◌, ◌≤◌, true, List, [], ◌∷◌, ◌++◌, count_by, sum_by, if◌then◌else◌, Some, map, slice_get}
use Rattle.std.specs.Option.{option_map}
use Rattle.flow_defs.specs.declared.task.ChannelId.{ChannelId}
use Rattle.flow_defs.specs.declared.task.Head.{Head}
use Rattle.flow_defs.specs.declared.task.Head.TheVariants as heads
use Rattle.credit_reader.specs.declared.reader.Reader.{Reader}
use Rattle.credit_reader.specs.declared.reader.SentKind.{SentKind}
use Rattle.credit_reader.specs.Readers.{fresh, can_send, cost, May, Happening, Asked, Granted, Sent, reader_next}
use Rattle.credit_reader.specs.Senders.{Sender, sender_of, is_same, reader_of, is_able, after_at, MayHappen, happened, has_sent}

-- The queue holds exactly the readers that can send, each once.
abbrev pub HoldsEachOnce : Sender → Type 0
HoldsEachOnce s = (c : ChannelId) → count_by (λ d. is_same d c) s.queue ≡ (if is_able c s.readers then 1 else 0)

-- What a reader that is first can do: it can send, so that where data stand first it has credit.
pub record IsFirst (c : ChannelId) (r : Reader) : Type 0 where
  pub channel_is : r.channel ≡ c
  pub can : can_send r ≡ true
  pub data_have_credit : r.head ≡ heads.Buffer → 1 ≤ r.credit

-- The first of the queue is a reader, and it can send.
abbrev pub FirstCanSend : Sender → Type 0
FirstCanSend s = (c : ChannelId) → slice_get s.queue 0 ≡ Some c → (r : Reader) × (reader_of c s.readers ≡ Some r) × IsFirst c r

-- The reader after a list of happenings, one after another.
abbrev pub after_all : Reader → List Happening → Reader
after_all r [] = r
after_all r (h ∷ hs) = after_all (reader_next r h) hs

-- Each of the happenings may come where it comes.
abbrev pub MayAll : Reader → List Happening → Type 0
MayAll r [] = Unit {0}
MayAll r (h ∷ hs) = May r h × MayAll (reader_next r h) hs

-- The credit that a happening grants, the items that it sends, and the data buffers among them.
abbrev pub credit_in : Happening → ℕ
credit_in (Asked n) = n
credit_in (Granted n) = n
credit_in h = 0

abbrev pub items_in : Happening → ℕ
items_in (Sent what head backlog) = 1
items_in h = 0

abbrev pub data_in : Happening → ℕ
data_in (Sent what head backlog) = cost what
data_in h = 0

-- A reader's credit is all credit granted less all data sent, and its next number is the count of items
-- sent, modulo 2^32.
pub record AddsUp (r : Reader) (hs : List Happening) : Type 0 where
  pub credit : r.credit + sum_by data_in hs ≡ sum_by credit_in hs
  pub under_credit : sum_by data_in hs ≤ sum_by credit_in hs
  pub numbers : r.sequence ≡ sum_by items_in hs % 2 ^ 32

-- So it is after all happenings that may come.
abbrev pub AllAddUp : Type 0
AllAddUp = (c : ChannelId) (hs : List Happening) → MayAll (fresh c) hs → AddsUp (after_all (fresh c) hs) hs

-- What happens to one reader changes no other, and keeps the channels.
pub record ChangesOne (c : ChannelId) (h : Happening) (readers : List Reader) : Type 0 where
  pub each : (d : ChannelId) → reader_of d (after_at c h readers) ≡ option_map (λ r. if is_same d c then reader_next r h else r) (reader_of d readers)
  pub channels : map (λ r. r.channel) (after_at c h readers) ≡ map (λ r. r.channel) readers

abbrev pub AllChangeOne : Type 0
AllChangeOne = (c : ChannelId) (h : Happening) (readers : List Reader) → ChangesOne c h readers

-- A history: what happened to which channel, in order.
abbrev pub History : Type 0
History = List (ChannelId × Happening)

-- The readers after a history.
abbrev pub after_history : List Reader → History → List Reader
after_history readers [] = readers
after_history readers (e ∷ es) = after_history (after_at e.0 e.1 readers) es

-- What a history has for one channel.
abbrev pub of_channel : ChannelId → History → List Happening
of_channel c [] = []
of_channel c (e ∷ es) = if is_same c e.0 then e.1 ∷ of_channel c es else of_channel c es

-- The readers of these channels have come to be as they are by a history, each happening of which could
-- come where it came.
pub record HasHistory (channels : List ChannelId) (history : History) (s : Sender) : Type 0 where
  pub readers_are : s.readers ≡ after_history (map fresh channels) history
  pub may : (c : ChannelId) → MayAll (fresh c) (of_channel c history)

-- New readers have an empty history.
abbrev pub HistoriesBegin : Type 0
HistoriesBegin = (channels : List ChannelId) → HasHistory channels [] (sender_of channels)

-- A history grows by what happens to one of the readers.
abbrev pub HistoriesGrow : Type 0
HistoriesGrow =
    (channels : List ChannelId) (history : History) (s : Sender) (c : ChannelId) (h : Happening) →
    HasHistory channels history s → MayHappen c h s → HasHistory channels (history ++ (c, h) ∷ []) (happened c h s)

-- And by what is sent.
abbrev pub HistoriesGrowBySending : Type 0
HistoriesGrowBySending =
    (channels : List ChannelId) (history : History) (s : Sender) (c : ChannelId) (what : SentKind) (head : Head) (backlog : ℕ) →
    HasHistory channels history s → MayHappen c (Sent what head backlog) s →
    HasHistory channels (history ++ (c, Sent what head backlog) ∷ []) (has_sent c what head backlog s)

-- By any history the credit and the numbers of each channel add up.
abbrev pub HistoriesAddUp : Type 0
HistoriesAddUp =
    (channels : List ChannelId) (history : History) (s : Sender) (c : ChannelId) (r : Reader) →
    HasHistory channels history s → reader_of c s.readers ≡ Some r → AddsUp r (of_channel c history)
