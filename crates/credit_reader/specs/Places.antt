-- How the readers lie in memory: the queue has their places, so that none is looked for when it is its
-- turn. This project's own choice.
use Rattle.std.specs.Prelude.{◌≡◌, ◌≢◌, ℕ, ◌<◌, ◌≤◌, Bool, not, ◌==◌, List, [], ◌∷◌, ◌++◌, length, take, drop, filter, map, count_by, slice_index_or, slice_set, All, AllPairs, if◌then◌else◌, Some}
use Rattle.flow_defs.specs.declared.task.ChannelId.{ChannelId}
use Rattle.credit_reader.specs.declared.reader.Reader.{Reader}
use Rattle.credit_reader.specs.Readers.{fresh, can_send, KeepsRanges}
use Rattle.credit_reader.specs.declared.places.Found.{Found}
use Rattle.credit_reader.specs.Senders.{Sender, reader_of, queue_after}

-- The reader at a place. Past the end it is one that can't send.
abbrev pub reader_at : List Reader → ℕ → Reader
reader_at readers place = slice_index_or readers place (fresh (record { edge = 0; from = 0; to = 0 }))

-- The channel of the reader at a place.
abbrev pub channel_at : List Reader → ℕ → ChannelId
channel_at readers place = (reader_at readers place).channel

-- Readers, and a queue of their places, as callers see them.
abbrev pub seen : List Reader → List ℕ → Sender
seen readers places = record { readers = readers; queue = map (channel_at readers) places }

-- No two readers have one channel.
abbrev pub HaveOwnChannels : List Reader → Type 0
HaveOwnChannels readers = AllPairs (λ a b. a.channel ≢ b.channel) readers

-- The queue has the place of each reader that can send once, and no other, and there is room for all.
pub record IsQueue (readers : List Reader) (places : List ℕ) (capacity : ℕ) : Type 0 where
  pub distinct : HaveOwnChannels readers
  pub ranges : All KeepsRanges readers
  pub once : (place : ℕ) → count_by (λ p. p == place) places ≡ (if can_send (reader_at readers place) then 1 else 0)
  pub number : length places ≡ count_by can_send readers
  pub room : length readers ≤ capacity

-- The readers with another one at a place, and what becomes of the queue.
abbrev pub put_at : ℕ → Reader → Sender → Sender
put_at place new s =
    record { readers = slice_set s.readers place new; queue = queue_after new.channel (can_send (reader_at s.readers place)) (can_send new) s.queue }

-- The readers with another one at the place that was first in the queue.
abbrev pub turned_at : ℕ → Reader → Sender → Sender
turned_at place new s =
    record { readers = slice_set s.readers place new; queue = drop 1 s.queue ++ (if can_send new then new.channel ∷ [] else []) }

-- The places of the queue, where the reader at one was able to send or not, and now is or isn't.
abbrev pub places_after : ℕ → Bool → Bool → List ℕ → List ℕ
places_after place was now places =
    if was then (if now then places else filter (λ p. not (p == place)) places)
    else (if now then places ++ place ∷ [] else places)

-- The places, of which the first has gone to the back, or out where it is this one.
abbrev pub passed : ℕ → List ℕ → List ℕ
passed place places = drop 1 places ++ filter (λ p. not (p == place)) (take 1 places)

-- A reader that stands at its place, is that of a channel, and keeps the ranges.
pub record IsFound (s : Sender) (c : ChannelId) (found : Found) : Type 0 where
  pub distinct : HaveOwnChannels s.readers
  pub within : found.place < length s.readers
  pub stands : reader_at s.readers found.place ≡ found.reader
  pub reader_is : reader_of c s.readers ≡ Some found.reader
  pub channel_is : found.reader.channel ≡ c
  pub ranges : KeepsRanges found.reader

-- A reader that may stand at a place in another's stead.
pub record Fits (s : Sender) (place : ℕ) (new : Reader) : Type 0 where
  pub within : place < length s.readers
  pub channel_is : channel_at s.readers place ≡ new.channel
  pub ranges : KeepsRanges new
