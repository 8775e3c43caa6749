-- One channel of a connection, both its ends. Its parts are those of Flink's network stack: what waits to
-- be sent in the subpartition, what came and waits in the input channel, and the bytes from which records
-- are read.
use Rattle.std.specs.Prelude.{ℕ, ◌+◌, ◌-◌, ◌==◌, Bool, false, List, [], ◌∷◌, length, drop, count_by}
use Rattle.std.specs.List.{list_any}
use Rattle.std.specs.Ordering.{nat_cmp}
use Rattle.std.specs.BTreeSet.{insert_key}
use Rattle.flow_defs.specs.declared.task.ChannelId.{ChannelId}
use Rattle.flow_defs.specs.declared.task.Head.{Head}
use Rattle.flow_defs.specs.declared.task.Head.TheVariants.{Nothing, Buffer, Event}
use Rattle.flow_defs.specs.declared.parcel.Parcel.{Parcel}
use Rattle.flow_defs.specs.declared.parcel.Parcel.TheVariants.{Data, Barrier, End}
use Rattle.flow_defs.specs.Parcels.{is_data}
use Rattle.flow_defs.specs.Records.{all_encoded, spans}
use Rattle.input_channel.specs.States.{ChannelState, opening}
use Rattle.input_channel.specs.Counts.{floating_held}

-- What waits to be sent, in the order in which it travels; the number of the last barrier put, and whether
-- the end was; the receiving end; the bytes that were polled and are of no whole record yet; and the numbers
-- of the barriers for which saves were opened, in rising order.
pub record Lane : Type 0 where
  pub items : List Parcel
  pub barriers : ℕ
  pub finished : Bool
  pub inbox : ChannelState
  pub rest : List ℕ
  pub saves : List ℕ

-- An input channel has room for ten buffers.
abbrev pub BUFFERS_MAX : ℕ
BUFFERS_MAX = 10

-- A subpartition has room for so many items.
abbrev pub ITEMS_MAX : ℕ
ITEMS_MAX = 4096

-- A channel on which nothing was put, with segments of so many bytes.
abbrev pub new_lane : ℕ → Lane
new_lane size = record { items = []; barriers = 0; finished = false; inbox = opening size BUFFERS_MAX; rest = []; saves = [] }

-- Whether a number is among these, and these with one more, in rising order.
abbrev pub has_number : ℕ → List ℕ → Bool
has_number k ns = list_any (λ n. k == n) ns

abbrev pub with_number : ℕ → List ℕ → List ℕ
with_number k ns = insert_key nat_cmp ns k

-- The channel with this number, from 1 on. All are of one edge and lead to one task.
abbrev pub channel_id : ℕ → ChannelId
channel_id c = record { edge = 0; from = c - 1; to = 0 }

-- The data buffers that wait to be sent.
abbrev pub backlog_in : List Parcel → ℕ
backlog_in items = count_by is_data items

-- What stands first.
abbrev pub head_in : List Parcel → Head
head_in [] = Nothing
head_in (Data bytes ∷ items) = Buffer
head_in (Barrier k kind ∷ items) = Event
head_in (End ∷ items) = Event

-- How many bytes of content a frame has for an item. A barrier's number takes eight.
abbrev pub content_len : Parcel → ℕ
content_len (Data bytes) = length bytes
content_len (Barrier k kind) = 8
content_len End = 0

-- The floating buffers that a channel has, free or with data.
abbrev pub floating_here : ChannelState → ℕ
floating_here inbox = inbox.counts.floating + floating_held inbox.counts

-- The records that bytes encode, from the first on, and the bytes behind them.
abbrev pub records_in : List ℕ → List (List ℕ)
records_in bytes = spans bytes

abbrev pub behind_records : List ℕ → List ℕ
behind_records bytes = drop (length (all_encoded (records_in bytes))) bytes
