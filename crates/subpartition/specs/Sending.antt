-- The sending end of a channel: what a history of entries makes of it. As in Flink's network stack a
-- subpartition is a queue: buffers and events are added behind the others and taken from the front, and
-- an aligned checkpoint barrier travels in line with the data. One of FLIP-76 goes in front of the data,
-- behind the last barrier that stands there.
use Rattle.std.specs.Prelude.{◌≡◌, ℕ, suc, ◌≤◌, ⊤, Bool, true, false, ◌==◌, if◌then◌else◌, List, [], ◌∷◌, ◌++◌, length, map}
use Rattle.flow_defs.specs.declared.task.BarrierKind.{BarrierKind}
use Rattle.flow_defs.specs.declared.task.BarrierKind.TheVariants.{Inline, Front}
use Rattle.flow_defs.specs.declared.parcel.Parcel.{Parcel}
use Rattle.flow_defs.specs.declared.parcel.Parcel.TheVariants.{Data, Barrier, End}
use Rattle.flow_defs.specs.Limits.{segment_min}
use Rattle.flow_defs.specs.Parcels.{data_of, barriers_of, has_end}
use Rattle.subpartition.specs.declared.entry.SendEntry.{SendEntry}
use Rattle.subpartition.specs.declared.entry.SendEntry.TheVariants.{Put, PutInline, PutFront, Finish, Take, Size}
use Rattle.flow_defs.specs.Barriers.{data_before, is_barrier, up_to_last, behind_last}
use Rattle.turn_cell.specs.History.{entries_of}

-- What was taken, in order, and what is left.
pub record Outbox : Type 0 where
  pub taken : List Parcel
  pub items : List Parcel

-- The first of these items goes over to what was taken.
abbrev pub take_first : List Parcel → List Parcel → Outbox
take_first taken [] = record { taken = taken; items = [] }
take_first taken (p ∷ ps) = record { taken = taken ++ p ∷ []; items = ps }

-- A front barrier comes directly behind the last barrier, or first where there is none.
abbrev pub with_front : ℕ → List Parcel → List Parcel
with_front k items = up_to_last is_barrier items ++ Barrier k Front ∷ behind_last is_barrier items

-- What one entry makes of an outbox.
abbrev pub sent_one : Outbox → SendEntry → Outbox
sent_one o (Put bytes) = record { taken = o.taken; items = o.items ++ Data bytes ∷ [] }
sent_one o (PutInline k) = record { taken = o.taken; items = o.items ++ Barrier k Inline ∷ [] }
sent_one o (PutFront k) = record { taken = o.taken; items = with_front k o.items }
sent_one o Finish = record { taken = o.taken; items = o.items ++ End ∷ [] }
sent_one o Take = take_first o.taken o.items
sent_one o (Size n) = o

-- What several entries make of it, one after another.
abbrev pub sent_from : Outbox → List SendEntry → Outbox
sent_from o [] = o
sent_from o (e ∷ es) = sent_from (sent_one o e) es

-- What a history makes of an empty outbox.
abbrev pub outbox : List SendEntry → Outbox
outbox es = sent_from (record { taken = []; items = [] }) es

-- What was taken, in order.
abbrev pub taken : List SendEntry → List Parcel
taken es = (outbox es).taken

-- What was taken, and then what is left: all that was put, in the order in which it travels.
abbrev pub travelled : List SendEntry → List Parcel
travelled es = (outbox es).taken ++ (outbox es).items

-- What was put, in the order in which it was put.
abbrev pub parcels_put : List SendEntry → List Parcel
parcels_put [] = []
parcels_put (Put bytes ∷ es) = Data bytes ∷ parcels_put es
parcels_put (PutInline k ∷ es) = Barrier k Inline ∷ parcels_put es
parcels_put (PutFront k ∷ es) = Barrier k Front ∷ parcels_put es
parcels_put (Finish ∷ es) = End ∷ parcels_put es
parcels_put (Take ∷ es) = parcels_put es
parcels_put (Size n ∷ es) = parcels_put es

-- The bytes that were put, and those put before barrier k, or all where it was not put.
abbrev pub put : List SendEntry → List ℕ
put es = data_of (parcels_put es)

abbrev pub put_before : ℕ → List SendEntry → List ℕ
put_before k es = data_before k (parcels_put es)

-- The barriers that were put.
abbrev pub barriers_put : List SendEntry → List (ℕ × BarrierKind)
barriers_put es = barriers_of (parcels_put es)

-- The data that barrier k overtook: those behind the last barrier that stood there when it was put in front. A barrier in line overtakes none.
abbrev pub overtaken_from : Outbox → ℕ → List SendEntry → List ℕ
overtaken_from o k [] = []
overtaken_from o k (PutInline j ∷ es) = if j == k then [] else overtaken_from (sent_one o (PutInline j)) k es
overtaken_from o k (PutFront j ∷ es) = if j == k then data_of (behind_last is_barrier o.items) else overtaken_from (sent_one o (PutFront j)) k es
overtaken_from o k (Put bytes ∷ es) = overtaken_from (sent_one o (Put bytes)) k es
overtaken_from o k (Finish ∷ es) = overtaken_from (sent_one o Finish) k es
overtaken_from o k (Take ∷ es) = overtaken_from (sent_one o Take) k es
overtaken_from o k (Size n ∷ es) = overtaken_from o k es

abbrev pub overtaken : ℕ → List SendEntry → List ℕ
overtaken k es = overtaken_from (record { taken = []; items = [] }) k es

-- Whether the end was put.
abbrev pub is_finished : List SendEntry → Bool
is_finished es = has_end (parcels_put es)

-- Up to how many bytes buffers are filled: what was told last, and before that the first number.
abbrev pub filled_to : ℕ → List SendEntry → ℕ
filled_to first [] = first
filled_to first (Put bytes ∷ es) = filled_to first es
filled_to first (PutInline k ∷ es) = filled_to first es
filled_to first (PutFront k ∷ es) = filled_to first es
filled_to first (Finish ∷ es) = filled_to first es
filled_to first (Take ∷ es) = filled_to first es
filled_to first (Size n ∷ es) = filled_to n es

-- The next barrier has the next number, and comes before the end.
pub record MayPutBarrier (es : List SendEntry) (k : ℕ) : Type 0 where
  pub unfinished : is_finished es ≡ false
  pub next : k ≡ suc (length (barriers_put es))

-- Which entry may follow these, where segments have this size.
-- What a task may put follows from what it has put before, so it need not look at the queue for this.
abbrev pub MaySend : ℕ → List SendEntry → SendEntry → Type 0
MaySend size es (Put bytes) = is_finished es ≡ false
MaySend size es (PutInline k) = MayPutBarrier es k
MaySend size es (PutFront k) = MayPutBarrier es k
MaySend size es Finish = is_finished es ≡ false
MaySend size es Take = ⊤
MaySend size es (Size n) = (segment_min ≤ n) × (n ≤ size)

-- Which pass makes which entry: pass 0, the task, puts; pass 1, the sender, takes; pass 2 tells sizes.
abbrev pub may_send : ℕ → SendEntry → Bool
may_send number (Put bytes) = number == 0
may_send number (PutInline k) = number == 0
may_send number (PutFront k) = number == 0
may_send number Finish = number == 0
may_send number Take = number == 1
may_send number (Size n) = number == 2

-- Which pair may follow these in a cell.
abbrev pub MaySendAs : ℕ → List (ℕ × SendEntry) → ℕ × SendEntry → Type 0
MaySendAs size history pair = (may_send pair.0 pair.1 ≡ true) × MaySend size (entries_of history) pair.1

-- The numbers of barriers.
abbrev pub numbers_of : List (ℕ × BarrierKind) → List ℕ
numbers_of barriers = map (λ barrier. barrier.0) barriers
