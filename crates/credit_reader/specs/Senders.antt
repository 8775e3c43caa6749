-- The readers of one connection and the queue of those that can send, as in Flink's network stack: a
-- reader that becomes able to send joins at the back, and one that has sent goes to the back, or leaves.
use Rattle.std.specs.Prelude.{◌≢◌, ℕ, Bool, false, not, ◌&&◌, ◌==◌, List, [], ◌∷◌, ◌++◌, map, filter, find, drop, AllPairs, if◌then◌else◌, Option}
use Rattle.std.specs.Option.{IsSomeAnd, option_map_or}
use Rattle.flow_defs.specs.declared.task.ChannelId.{ChannelId}
use Rattle.flow_defs.specs.declared.task.Head.{Head}
use Rattle.credit_reader.specs.declared.reader.Reader.{Reader}
use Rattle.credit_reader.specs.declared.reader.SentKind.{SentKind}
use Rattle.credit_reader.specs.Readers.{fresh, can_send, Happening, Sent, May, reader_next}

-- The readers, in the order of their channels, and the channels of the queue, the first one first.
pub record Sender : Type 0 where
  pub readers : List Reader
  pub queue : List ChannelId

-- No channel is there twice.
abbrev pub AreDistinct : List ChannelId → Type 0
AreDistinct channels = AllPairs (λ c d. c ≢ d) channels

-- The readers of these channels before any is requested. None can send.
abbrev pub sender_of : List ChannelId → Sender
sender_of channels = record { readers = map fresh channels; queue = [] }

-- Whether two ids are of one channel.
abbrev pub is_same : ChannelId → ChannelId → Bool
is_same c d = c.edge == d.edge && c.from == d.from && c.to == d.to

-- The reader of a channel, where there is one.
abbrev pub reader_of : ChannelId → List Reader → Option Reader
reader_of c readers = find (λ r. is_same r.channel c) readers

-- There is a reader of this channel, and this may happen to it.
abbrev pub MayHappen : ChannelId → Happening → Sender → Type 0
MayHappen c happening s = IsSomeAnd (reader_of c s.readers) (λ r. May r happening)

-- Whether the reader of a channel can send.
abbrev pub is_able : ChannelId → List Reader → Bool
is_able c readers = option_map_or can_send (reader_of c readers) false

-- The readers, after something has happened to that of a channel.
abbrev pub after_at : ChannelId → Happening → List Reader → List Reader
after_at c happening readers = map (λ r. if is_same r.channel c then reader_next r happening else r) readers

-- The queue, where the reader of a channel was able to send or not, and now is or isn't: one that becomes
-- able joins at the back, one that no longer is leaves, and the others keep their order.
abbrev pub queue_after : ChannelId → Bool → Bool → List ChannelId → List ChannelId
queue_after c was now queue =
    if was then (if now then queue else filter (λ d. not (is_same d c)) queue)
    else (if now then queue ++ c ∷ [] else queue)

-- The sender after something has happened to the reader of a channel, other than that it has sent.
abbrev pub happened : ChannelId → Happening → Sender → Sender
happened c happening s =
    let readers = after_at c happening s.readers in
    record { readers = readers; queue = queue_after c (is_able c s.readers) (is_able c readers) s.queue }

-- The sender after the first of the queue, which is this channel's reader, has sent one item: it goes to
-- the back where it can send on, and else leaves.
abbrev pub has_sent : ChannelId → SentKind → Head → ℕ → Sender → Sender
has_sent c what head backlog s =
    let readers = after_at c (Sent what head backlog) s.readers in
    record { readers = readers; queue = drop 1 s.queue ++ (if is_able c readers then c ∷ [] else []) }
