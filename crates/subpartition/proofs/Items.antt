-- Items, as others come behind them.
use Rattle.std.proofs.Common.{◌≡◌, ◌≤◌, ℕ, suc, List, [], ◌∷◌, ◌++◌, length, map, refl, sym, ap, arith}
use Rattle.flow_defs.proofs.ParcelLemmas.{data_of-append}
use Rattle.flow_defs.specs.declared.task.BarrierKind.{BarrierKind}
use Rattle.subpartition.specs.declared.item.Filled.{Filled}
use Rattle.subpartition.specs.declared.item.Item.{Item}
use Rattle.subpartition.specs.declared.item.Item.TheVariants.{Buffer, Barrier, End}
use Rattle.subpartition.specs.Queues.{bytes_of, last_bytes, backlog_of, data_in, parcel_of}

pub backlog_with_buffer : (items : List Item) (filled : Filled) → backlog_of (items ++ Buffer filled ∷ []) ≡ suc (backlog_of items)
backlog_with_buffer [] filled = refl
backlog_with_buffer (Buffer other ∷ items) filled = ap suc (backlog_with_buffer items filled)
backlog_with_buffer (Barrier k kind ∷ items) filled = backlog_with_buffer items filled
backlog_with_buffer (End ∷ items) filled = backlog_with_buffer items filled

pub backlog_with_barrier : (items : List Item) (k : ℕ) (kind : BarrierKind) → backlog_of (items ++ Barrier k kind ∷ []) ≡ backlog_of items
backlog_with_barrier [] k kind = refl
backlog_with_barrier (Buffer other ∷ items) k kind = ap suc (backlog_with_barrier items k kind)
backlog_with_barrier (Barrier j other ∷ items) k kind = backlog_with_barrier items k kind
backlog_with_barrier (End ∷ items) k kind = backlog_with_barrier items k kind

pub backlog_with_end : (items : List Item) → backlog_of (items ++ End ∷ []) ≡ backlog_of items
backlog_with_end [] = refl
backlog_with_end (Buffer other ∷ items) = ap suc (backlog_with_end items)
backlog_with_end (Barrier j other ∷ items) = backlog_with_end items
backlog_with_end (End ∷ items) = backlog_with_end items

-- there are no more buffers than items
pub backlog_within : (items : List Item) → backlog_of items ≤ length items
backlog_within [] = omega arith
backlog_within (Buffer other ∷ items) = omega (arith, backlog_within items)
backlog_within (Barrier j other ∷ items) = omega (arith, backlog_within items)
backlog_within (End ∷ items) = omega (arith, backlog_within items)

pub last_bytes-buffer : (items : List Item) (filled : Filled) → last_bytes (items ++ Buffer filled ∷ []) ≡ bytes_of filled
last_bytes-buffer [] filled = refl
last_bytes-buffer (Buffer other ∷ []) filled = refl
last_bytes-buffer (Barrier k kind ∷ []) filled = refl
last_bytes-buffer (End ∷ []) filled = refl
last_bytes-buffer (item ∷ next ∷ items) filled = last_bytes-buffer (next ∷ items) filled

-- a barrier between others is no buffer
pub backlog_with_barrier_in : (xs ys : List Item) (k : ℕ) (kind : BarrierKind) → backlog_of (xs ++ Barrier k kind ∷ ys) ≡ backlog_of (xs ++ ys)
backlog_with_barrier_in [] ys k kind = refl
backlog_with_barrier_in (Buffer other ∷ xs) ys k kind = ap suc (backlog_with_barrier_in xs ys k kind)
backlog_with_barrier_in (Barrier j other ∷ xs) ys k kind = backlog_with_barrier_in xs ys k kind
backlog_with_barrier_in (End ∷ xs) ys k kind = backlog_with_barrier_in xs ys k kind

pub data_in-next : (item : Item) (items : List Item) → data_in (item ∷ []) ++ data_in items ≡ data_in (item ∷ items)
data_in-next item items = sym (data_of-append (parcel_of item ∷ []) (map parcel_of items))
