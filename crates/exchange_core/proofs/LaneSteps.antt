-- One channel of a connection, once an item was put behind the others or the first one was taken.
use Rattle.std.proofs.Common.{◌≡◌, ℕ, suc, ◌+◌, ◌≤◌, min, cond, Some, true, false, List, [], ◌∷◌, ◌++◌, length, map, take, drop, refl, sym, ap, subst, ◌∙◌, arith, length-append}
use Rattle.std.specs.Prelude.{◌||◌, All, slice_get}
use Rattle.std.specs.List.{AllByRecursion, list_any, refill}
use Rattle.std.proofs.lemmas.List.{map-append, take_at, length-take, length-drop, length-map}
use Rattle.std.proofs.lemmas.List.Elements.{All-push, All-drop, All-from_recursion, recursion_from_All}
use Rattle.std.proofs.lemmas.List.Sums.{sum_by-cons}
use Rattle.flow_defs.specs.declared.task.BarrierKind.{BarrierKind}
use Rattle.flow_defs.specs.declared.task.BarrierKind.TheVariants.{Inline, Front}
use Rattle.flow_defs.specs.declared.parcel.Parcel.{Parcel}
use Rattle.flow_defs.specs.declared.parcel.Parcel.TheVariants as parcels
use Rattle.flow_defs.specs.Parcels.{data_of, is_data}
use Rattle.flow_defs.proofs.Lists.{refilled}
use Rattle.segment_pool.specs.declared.pool.Pool.{Pool}
use Rattle.segment_pool.specs.Pools.{size_of}
use Rattle.subpartition.specs.declared.item.Filled.{Filled}
use Rattle.subpartition.specs.declared.item.Item.{Item}
use Rattle.subpartition.specs.declared.item.Item.TheVariants as items
use Rattle.subpartition.specs.Queues.{Queue, bytes_of, parcel_of, is_mark, data_in, backlog_of, head_of, with_buffer, with_end, without_first, HasLength}
use Rattle.flow_defs.specs.Barriers.{is_barrier, up_to_last, behind_last}
use Rattle.subpartition.proofs.Fronts.{cut_in_two}
use Rattle.subpartition.proofs.Items.{backlog_with_barrier_in}
use Rattle.local_pool.specs.declared.local.LocalPool.{LocalPool}
use Rattle.local_pool.specs.Locals.{IsLocalOf, IsSameLocal, lent_of}
use Rattle.exchange_world.specs.Lanes.{backlog_in, head_in}
use Rattle.exchange_world.specs.Steps.{with_items, barred}
use Rattle.exchange_core.specs.declared.lane.Lane.{Lane}
use Rattle.exchange_core.specs.Exchanges.{world_lane, IsLaneOf}
use Rattle.exchange_core.specs.Lanes.{with_barrier as put_barrier, HasPut}

-- ---- the queue and its parcels

pub backlog-append : (xs ys : List Item) → backlog_of (xs ++ ys) ≡ backlog_of xs + backlog_of ys
backlog-append [] ys = omega arith
backlog-append (items.Buffer filled ∷ xs) ys = omega (arith, backlog-append xs ys)
backlog-append (items.Barrier k kind ∷ xs) ys = backlog-append xs ys
backlog-append (items.End ∷ xs) ys = backlog-append xs ys

pub backlog_is : (xs : List Item) → backlog_in (map parcel_of xs) ≡ backlog_of xs
backlog_is [] = refl
backlog_is (items.Buffer filled ∷ xs) = sum_by-cons (λ (p : Parcel). cond (is_data p) 1 0) (parcels.Data (bytes_of filled)) (map parcel_of xs) ∙ omega (arith, backlog_is xs)
backlog_is (items.Barrier k kind ∷ xs) = sum_by-cons (λ (p : Parcel). cond (is_data p) 1 0) (parcels.Barrier k kind) (map parcel_of xs) ∙ omega (arith, backlog_is xs)
backlog_is (items.End ∷ xs) = sum_by-cons (λ (p : Parcel). cond (is_data p) 1 0) parcels.End (map parcel_of xs) ∙ omega (arith, backlog_is xs)

pub head_is : (xs : List Item) → head_in (map parcel_of xs) ≡ head_of xs
head_is [] = refl
head_is (items.Buffer filled ∷ xs) = refl
head_is (items.Barrier k kind ∷ xs) = refl
head_is (items.End ∷ xs) = refl

-- a barrier stands among parcels where it stands among items
any-parcels : (xs : List Item) → list_any is_barrier (map parcel_of xs) ≡ list_any is_mark xs
any-parcels [] = refl
any-parcels (x ∷ xs) = ap (λ b. is_mark x || b) (any-parcels xs)

up_to_last-parcels : (xs : List Item) → map parcel_of (up_to_last is_mark xs) ≡ up_to_last is_barrier (map parcel_of xs)
up_to_last-parcels [] = refl
up_to_last-parcels (x ∷ xs) =
    elim (list_any is_mark (x ∷ xs)) as (λ b. map parcel_of (cond b (x ∷ up_to_last is_mark xs) []) ≡ cond b (parcel_of x ∷ up_to_last is_barrier (map parcel_of xs)) []) [
      | true ↦ ap (λ z. parcel_of x ∷ z) (up_to_last-parcels xs)
      | false ↦ refl
    ]
    ∙ ap (λ b. cond b (parcel_of x ∷ up_to_last is_barrier (map parcel_of xs)) []) (sym (any-parcels (x ∷ xs)))

behind_last-parcels : (xs : List Item) → map parcel_of (behind_last is_mark xs) ≡ behind_last is_barrier (map parcel_of xs)
behind_last-parcels [] = refl
behind_last-parcels (x ∷ xs) =
    elim (list_any is_mark (x ∷ xs)) as (λ b. map parcel_of (cond b (behind_last is_mark xs) (x ∷ xs)) ≡ cond b (behind_last is_barrier (map parcel_of xs)) (map parcel_of (x ∷ xs))) [
      | true ↦ behind_last-parcels xs
      | false ↦ refl
    ]
    ∙ ap (λ b. cond b (behind_last is_barrier (map parcel_of xs)) (map parcel_of (x ∷ xs))) (sym (any-parcels (x ∷ xs)))

segments_between : (size : ℕ) (xs : List Item) (k : ℕ) → All (HasLength size) xs → All (HasLength size) (up_to_last is_mark xs ++ items.Barrier k Front ∷ behind_last is_mark xs)
segments_between size xs k all =
    let both = subst (λ l. AllByRecursion (HasLength size) l) (sym (cut_in_two is_mark xs)) (recursion_from_All (HasLength size) xs all) in
    All-from_recursion (HasLength size) (up_to_last is_mark xs ++ items.Barrier k Front ∷ behind_last is_mark xs) (with_one (up_to_last is_mark xs) (behind_last is_mark xs) both)
  where
    with_one : (front back : List Item) → AllByRecursion (HasLength size) (front ++ back) → AllByRecursion (HasLength size) (front ++ items.Barrier k Front ∷ back)
    with_one [] back all = (tt, all)
    with_one (x ∷ front) back all = (all.0, with_one front back all.1)

-- ---- a buffer put

abbrev with_queue : Lane → Queue → Lane
with_queue lane queue = record lane { queue = queue }

module _ (pool : Pool) (limit : ℕ) (before : Lane) (partition : LocalPool) (filled : Filled) (here : IsLaneOf pool limit before)
    (size : length filled.segment ≡ size_of pool) (local : IsLocalOf pool partition) (same : IsSameLocal before.partition partition)
    (lent : lent_of partition ≡ lent_of before.partition + 1) where
  put_into : (after : Lane) → after ≡ record before { queue = with_buffer before.queue filled; partition = partition } → HasPut pool limit before after (bytes_of filled)
  put_into after is = subst (λ (lane : Lane). HasPut pool limit before lane (bytes_of filled)) (sym is) record {
    lane = record {
      size = here.size;
      room = here.room;
      barriers = here.barriers;
      finished = here.finished;
      segments = All-push (HasLength (size_of pool)) before.queue.items (items.Buffer filled) here.segments size;
      partition = local;
      need = same.need ∙ here.need;
      limit_is = same.limit ∙ here.limit_is;
      lent = omega (arith, lent, here.lent, backlog-append before.queue.items (items.Buffer filled ∷ []));
      owed = here.owed;
    };
    put = ap (λ ps. record (world_lane before) { items = ps }) (map-append parcel_of before.queue.items (items.Buffer filled ∷ []));
    finished = refl;
    lent = lent;
    more = length-append before.queue.items (items.Buffer filled ∷ []);
  }

  pub put_is : (queue : Queue) (bytes : List ℕ) → queue ≡ with_buffer before.queue filled → bytes_of filled ≡ bytes → HasPut pool limit before (record before { queue = queue; partition = partition }) bytes
  put_is queue bytes is brings = subst (λ bs. HasPut pool limit before (record before { queue = queue; partition = partition }) bs) brings
      (put_into (record before { queue = queue; partition = partition }) (ap (λ q. record before { queue = q; partition = partition }) is))

-- ---- an event put

module _ (pool : Pool) (limit : ℕ) (before : Lane) (here : IsLaneOf pool limit before) where
  pub end_at : (queue : Queue) → queue ≡ with_end before.queue → IsLaneOf pool limit (record before { queue = queue; finished = true })
  end_at queue is = subst (λ (q : Queue). IsLaneOf pool limit (record before { queue = q; finished = true })) (sym is) record {
    size = here.size;
    room = here.room;
    barriers = here.barriers;
    finished = refl;
    segments = All-push (HasLength (size_of pool)) before.queue.items items.End here.segments tt;
    partition = here.partition;
    need = here.need;
    limit_is = here.limit_is;
    lent = omega (arith, here.lent, backlog-append before.queue.items (items.End ∷ []));
    owed = here.owed;
  }

  pub barrier_at : (k : ℕ) (kind : BarrierKind) (after : Lane) → after ≡ put_barrier before k kind → IsLaneOf pool limit after
  barrier_at k Inline after is = subst (λ (l : Lane). IsLaneOf pool limit l) (sym is) record {
    size = here.size;
    room = here.room;
    barriers = refl;
    finished = here.finished;
    segments = All-push (HasLength (size_of pool)) before.queue.items (items.Barrier k Inline) here.segments tt;
    partition = here.partition;
    need = here.need;
    limit_is = here.limit_is;
    lent = omega (arith, here.lent, backlog-append before.queue.items (items.Barrier k Inline ∷ []));
    owed = here.owed;
  }
  barrier_at k Front after is = subst (λ (l : Lane). IsLaneOf pool limit l) (sym is) record {
    size = here.size;
    room = here.room;
    barriers = refl;
    finished = here.finished;
    segments = segments_between (size_of pool) before.queue.items k here.segments;
    partition = here.partition;
    need = here.need;
    limit_is = here.limit_is;
    lent = here.lent ∙ ap backlog_of (sym (cut_in_two is_mark before.queue.items)) ∙ sym (backlog_with_barrier_in (up_to_last is_mark before.queue.items) (behind_last is_mark before.queue.items) k Front);
    owed = here.owed;
  }

-- ---- the first item taken

first_stood : (xs : List Item) (x : Item) → Some x ≡ slice_get xs 0 → xs ≡ x ∷ drop 1 xs
first_stood [] x is = absurd (cc)
first_stood (y ∷ ys) x is = let same : x ≡ y = cc in ap (λ z. z ∷ ys) (sym same)

module _ (pool : Pool) (limit : ℕ) (before : Lane) (here : IsLaneOf pool limit before) where
  left_of : (queue : Queue) (partition : LocalPool) → queue ≡ without_first before.queue → IsLocalOf pool partition → IsSameLocal before.partition partition →
      lent_of partition ≡ backlog_of (drop 1 before.queue.items) → IsLaneOf pool limit (record before { queue = queue; partition = partition })
  left_of queue partition is local same lent = subst (λ (q : Queue). IsLaneOf pool limit (record before { queue = q; partition = partition })) (sym is) record {
    size = here.size;
    room = here.room;
    barriers = here.barriers;
    finished = here.finished;
    segments = All-drop (HasLength (size_of pool)) 1 before.queue.items here.segments;
    partition = local;
    need = same.need ∙ here.need;
    limit_is = same.limit ∙ here.limit_is;
    lent = lent;
    owed = here.owed;
  }

  pub buffer_taken : (queue : Queue) (partition : LocalPool) (filled : Filled) → Some (items.Buffer filled) ≡ slice_get before.queue.items 0 → queue ≡ without_first before.queue →
      IsLocalOf pool partition → IsSameLocal before.partition partition → lent_of before.partition ≡ lent_of partition + 1 → IsLaneOf pool limit (record before { queue = queue; partition = partition })
  buffer_taken queue partition filled first is local same given =
      let stood : backlog_of before.queue.items ≡ suc (backlog_of (drop 1 before.queue.items)) = ap backlog_of (first_stood before.queue.items (items.Buffer filled) first) in
      left_of queue partition is local same (omega (arith, stood, given, here.lent))

  kept : IsSameLocal before.partition before.partition
  kept = record { need = refl; most = refl; limit = refl; number = refl }

  pub barrier_taken : (queue : Queue) (k : ℕ) (kind : BarrierKind) → Some (items.Barrier k kind) ≡ slice_get before.queue.items 0 → queue ≡ without_first before.queue → IsLaneOf pool limit (record before { queue = queue })
  barrier_taken queue k kind first is = left_of queue before.partition is here.partition kept (here.lent ∙ ap backlog_of (first_stood before.queue.items (items.Barrier k kind) first))

  pub end_taken : (queue : Queue) → Some items.End ≡ slice_get before.queue.items 0 → queue ≡ without_first before.queue → IsLaneOf pool limit (record before { queue = queue })
  end_taken queue first is = left_of queue before.partition is here.partition kept (here.lent ∙ ap backlog_of (first_stood before.queue.items items.End first))

pub end_put : (before : Lane) (queue : Queue) → queue ≡ with_end before.queue → world_lane (record before { queue = queue; finished = true }) ≡ record (with_items (world_lane before) (parcels.End ∷ [])) { finished = true }
end_put before queue is =
    ap (λ (q : Queue). world_lane (record before { queue = q; finished = true })) is
    ∙ ap (λ ps. record (world_lane before) { items = ps; finished = true }) (map-append parcel_of before.queue.items (items.End ∷ []))

pub barrier_put : (before : Lane) (k : ℕ) (kind : BarrierKind) → world_lane (put_barrier before k kind) ≡ barred k kind (world_lane before)
barrier_put before k Inline = ap (λ ps. record (world_lane before) { items = ps; barriers = k }) (map-append parcel_of before.queue.items (items.Barrier k Inline ∷ []))
barrier_put before k Front =
    let all = before.queue.items in
    ap (λ ps. record (world_lane before) { items = ps; barriers = k })
    (map-append parcel_of (up_to_last is_mark all) (items.Barrier k Front ∷ behind_last is_mark all)
    ∙ ap (λ ps. ps ++ parcels.Barrier k Front ∷ map parcel_of (behind_last is_mark all)) (up_to_last-parcels all)
    ∙ ap (λ ps. up_to_last is_barrier (map parcel_of all) ++ parcels.Barrier k Front ∷ ps) (behind_last-parcels all))

-- the data that a front barrier overtakes
pub overtaken_is : (all : List Item) → data_in (behind_last is_mark all) ≡ data_of (behind_last is_barrier (map parcel_of all))
overtaken_is all = ap data_of (behind_last-parcels all)

-- ---- a segment written

module _ (segment bytes room : List ℕ) (n : ℕ) (count : n ≡ min (length segment) (length bytes)) (copied : room ≡ take n bytes ++ drop n segment) where
  pub room_long : length room ≡ length segment
  room_long = ap length copied ∙ length-append (take n bytes) (drop n segment) ∙ omega (arith, count, length-take n bytes, length-drop n segment)

  pub front_is : take n (refill (length segment) segment room) ≡ take n bytes
  front_is = ap (take n) (refilled segment room room_long ∙ copied) ∙ take_at (take n bytes) (drop n segment) n (length-take n bytes ∙ omega (arith, count))

-- ---- counts

pub items_count : (lane : Lane) → length (world_lane lane).items ≡ length lane.queue.items
items_count lane = length-map lane.queue.items parcel_of

pub backlog_few : (xs : List Item) → backlog_of xs ≤ length xs
backlog_few [] = omega arith
backlog_few (items.Buffer filled ∷ xs) = omega (arith, backlog_few xs)
backlog_few (items.Barrier k kind ∷ xs) = omega (arith, backlog_few xs)
backlog_few (items.End ∷ xs) = omega (arith, backlog_few xs)
