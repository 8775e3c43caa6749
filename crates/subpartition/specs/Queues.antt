-- A subpartition as contracts see it. The items are those of Flink's subpartitions, data buffers with events
-- in line; the backlog is Flink's too. How many items fit is this project's own choice.
use Rattle.std.specs.Prelude.{◌≡◌, ℕ, suc, Bool, true, false, List, [], ◌∷◌, ◌++◌, length, map, take, drop}
use Rattle.flow_defs.specs.declared.task.BarrierKind.TheVariants.{Inline, Front}
use Rattle.flow_defs.specs.declared.task.Head.{Head}
use Rattle.flow_defs.specs.declared.task.Head.TheVariants.{Nothing, Buffer as BufferHead, Event}
use Rattle.flow_defs.specs.declared.parcel.Parcel.{Parcel}
use Rattle.flow_defs.specs.declared.parcel.Parcel.TheVariants.{Data, Barrier, End}
use Rattle.flow_defs.specs.Parcels.{data_of}
use Rattle.flow_defs.specs.Barriers.{is_barrier, up_to_last, behind_last}
use Rattle.subpartition.specs.declared.item.Filled.{Filled}
use Rattle.subpartition.specs.declared.item.Item.{Item}
use Rattle.subpartition.specs.declared.item.Item.TheVariants.{Buffer, Barrier as BarrierItem, End as EndItem}

-- The items from the first to the last, the number of the last barrier put (0 where there was none),
-- whether the end was put, the size of segments, how many items fit, and up to how many bytes a buffer is filled.
pub record Queue : Type 0 where
  pub items : List Item
  pub barriers : ℕ
  pub finished : Bool
  pub size : ℕ
  pub room : ℕ
  pub fill_size : ℕ

-- The data of a buffer.
abbrev pub bytes_of : Filled → List ℕ
bytes_of filled = take filled.len filled.segment

-- What of an item travels.
abbrev pub parcel_of : Item → Parcel
parcel_of (Buffer filled) = Data (bytes_of filled)
parcel_of (BarrierItem k kind) = Barrier k kind
parcel_of EndItem = End

-- Whether an item is a barrier.
abbrev pub is_mark : Item → Bool
is_mark item = is_barrier (parcel_of item)

-- The data of all buffers.
abbrev pub data_in : List Item → List ℕ
data_in items = data_of (map parcel_of items)

-- The segment of a buffer has this length.
abbrev pub HasLength : ℕ → Item → Type 0
HasLength size (Buffer filled) = length filled.segment ≡ size
HasLength size (BarrierItem k kind) = Unit {0}
HasLength size EndItem = Unit {0}

-- The data of the last item; none where it is no buffer. The entry of a put has them, as the buffer that was
-- put is the last item then.
abbrev pub last_bytes : List Item → List ℕ
last_bytes [] = []
last_bytes (Buffer filled ∷ []) = bytes_of filled
last_bytes (BarrierItem k kind ∷ []) = []
last_bytes (EndItem ∷ []) = []
last_bytes (item ∷ next ∷ items) = last_bytes (next ∷ items)

-- The number of data buffers.
abbrev pub backlog_of : List Item → ℕ
backlog_of [] = 0
backlog_of (Buffer filled ∷ items) = suc (backlog_of items)
backlog_of (BarrierItem k kind ∷ items) = backlog_of items
backlog_of (EndItem ∷ items) = backlog_of items

-- What stands first.
abbrev pub head_of : List Item → Head
head_of [] = Nothing
head_of (Buffer filled ∷ items) = BufferHead
head_of (BarrierItem k kind ∷ items) = Event
head_of (EndItem ∷ items) = Event

-- A new queue. Its buffers are filled whole.
abbrev pub empty_queue : ℕ → ℕ → Queue
empty_queue size room = record { items = []; barriers = 0; finished = false; size = size; room = room; fill_size = size }

-- A buffer, an inline barrier or the end comes behind all others.
abbrev pub with_buffer : Queue → Filled → Queue
with_buffer queue filled = record queue { items = queue.items ++ Buffer filled ∷ [] }

abbrev pub with_barrier : Queue → ℕ → Queue
with_barrier queue k = record queue { items = queue.items ++ BarrierItem k Inline ∷ []; barriers = k }

-- A front barrier comes directly behind the last barrier, or first where there is none; what stands behind that, it overtakes.
abbrev pub with_front_barrier : Queue → ℕ → Queue
with_front_barrier queue k = record queue { items = up_to_last is_mark queue.items ++ BarrierItem k Front ∷ behind_last is_mark queue.items; barriers = k }

abbrev pub overtaken_in : Queue → List ℕ
overtaken_in queue = data_in (behind_last is_mark queue.items)

abbrev pub with_end : Queue → Queue
with_end queue = record queue { items = queue.items ++ EndItem ∷ []; finished = true }

-- The first item is gone.
abbrev pub without_first : Queue → Queue
without_first queue = record queue { items = drop 1 queue.items }

-- Buffers are filled up to so many bytes.
abbrev pub filling_to : Queue → ℕ → Queue
filling_to queue n = record queue { fill_size = n }
