-- What a queue stands for after each call, and what its calls tell.
use Rattle.std.proofs.Common.{◌≡◌, ℕ, suc, Bool, true, false, cond, ◌||◌, eq-eqb, List, [], ◌∷◌, ◌++◌, length, map, drop, refl, sym, ap, subst, ◌∙◌, append-nil, length-append, arith}
use Rattle.std.specs.Prelude.{slice_get, option_to_list}
use Rattle.std.specs.Prelude.{All}
use Rattle.std.proofs.lemmas.List.{map-append}
use Rattle.std.proofs.lemmas.List.Elements.{All-drop, All-nil, All-push, All-from_recursion, recursion_from_All}
use Rattle.std.specs.List.{AllByRecursion, list_any}
use Rattle.flow_defs.specs.declared.task.BarrierKind.TheVariants.{Inline, Front}
use Rattle.flow_defs.specs.declared.parcel.Parcel.{Parcel}
use Rattle.turn_cell.specs.History.{by}
use Rattle.subpartition.specs.declared.entry.SendEntry.{SendEntry}
use Rattle.subpartition.specs.declared.entry.SendEntry.TheVariants.{Put, PutInline, PutFront, Finish, Take, Size}
use Rattle.subpartition.specs.declared.item.Item.{Item}
use Rattle.subpartition.specs.declared.item.Item.TheVariants.{Buffer, Barrier, End}
use Rattle.turn_cell.specs.History.{IsHistory, entries_of}
use Rattle.turn_cell.proofs.Histories.{history_nil, history_more, entries_of-append}
use Rattle.flow_defs.specs.Parcels.{data_of}
use Rattle.flow_defs.specs.Barriers.{is_barrier, up_to_last, behind_last}
use Rattle.subpartition.specs.Sending.{Outbox, overtaken, with_front, take_first, sent_one, outbox, barriers_put, is_finished, filled_to, MaySend, may_send, MaySendAs}
use Rattle.subpartition.specs.Queues.{Queue, HasLength, bytes_of, parcel_of, is_mark, data_in, overtaken_in, with_buffer, with_barrier, with_front_barrier, with_end, without_first, filling_to}
use Rattle.subpartition.specs.Standing.{QueueStandsFor}
use Rattle.subpartition.specs.Theorems.{NewStandsForNone, PutAdds, PutInlineAdds, PutFrontAdds, FrontOvertakes, FinishAdds, TakeAdds, SizeAdds, LastIsPut, TakeTells, TaskTellsQueue}
use Rattle.subpartition.proofs.Items.{last_bytes-buffer}
use Rattle.subpartition.proofs.Fronts.{cut_in_two}
use Rattle.subpartition.proofs.Travelling.{barriers_put-append, is_finished-append, sent_from-append, front_overtakes_last}
use Rattle.subpartition.proofs.Allowed.{entries_are_history, not_yet}
use Rattle.subpartition.proofs.Telling.{task_tells_puts}

pub new_stands_for_none : NewStandsForNone
new_stands_for_none size room = record {
  legal = history_nil (MaySendAs size);
  items = refl;
  barriers = refl;
  finished = refl;
  fill_size = refl;
  segments = All-nil (HasLength size);
}

-- the outbox after one more entry
outbox-more : (history : List (ℕ × SendEntry)) (n : ℕ) (e : SendEntry) → outbox (entries_of (history ++ (n, e) ∷ [])) ≡ sent_one (outbox (entries_of history)) e
outbox-more history n e = ap outbox (entries_of-append history ((n, e) ∷ [])) ∙ sent_from-append (record { taken = []; items = [] }) (entries_of history) (e ∷ [])

barriers-more : (history : List (ℕ × SendEntry)) (n : ℕ) (e : SendEntry) → barriers_put (entries_of (history ++ (n, e) ∷ [])) ≡ barriers_put (entries_of history) ++ barriers_put (e ∷ [])
barriers-more history n e = ap barriers_put (entries_of-append history ((n, e) ∷ [])) ∙ barriers_put-append (entries_of history) (e ∷ [])

filled_to-append : (first : ℕ) (xs ys : List SendEntry) → filled_to first (xs ++ ys) ≡ filled_to (filled_to first xs) ys
filled_to-append first [] ys = refl
filled_to-append first (Put bytes ∷ xs) ys = filled_to-append first xs ys
filled_to-append first (PutInline k ∷ xs) ys = filled_to-append first xs ys
filled_to-append first (PutFront k ∷ xs) ys = filled_to-append first xs ys
filled_to-append first (Finish ∷ xs) ys = filled_to-append first xs ys
filled_to-append first (Take ∷ xs) ys = filled_to-append first xs ys
filled_to-append first (Size n ∷ xs) ys = filled_to-append n xs ys

or_false : (b : Bool) → cond b true false ≡ b
or_false true = refl
or_false false = refl

or_true : (b : Bool) → cond b true true ≡ true
or_true true = refl
or_true false = refl

-- Of an entry these are to be shown: that it was allowed, what it makes of the items, the barriers and the end, and that the segments keep their size.
stands_more : (old new : Queue) (history : List (ℕ × SendEntry)) (n : ℕ) (e : SendEntry) → QueueStandsFor old history →
    new.size ≡ old.size → may_send n e ≡ true → MaySend old.size (entries_of history) e →
    map parcel_of new.items ≡ (sent_one (outbox (entries_of history)) e).items →
    new.barriers ≡ length (barriers_put (entries_of history) ++ barriers_put (e ∷ [])) →
    new.finished ≡ cond (is_finished (entries_of history)) true (is_finished (e ∷ [])) →
    new.fill_size ≡ filled_to old.fill_size (e ∷ []) →
    All (HasLength new.size) new.items →
    QueueStandsFor new (history ++ (n, e) ∷ [])
stands_more old new history n e stands size by may items barriers finished fill segments = record {
  legal = subst (λ s. IsHistory (MaySendAs s) (history ++ (n, e) ∷ [])) (sym size) (history_more (MaySendAs old.size) history (n, e) stands.legal (by, may));
  items = items ∙ ap (λ (o : Outbox). o.items) (sym (outbox-more history n e));
  barriers = barriers ∙ ap length (sym (barriers-more history n e));
  finished = finished ∙ sym (ap is_finished (entries_of-append history ((n, e) ∷ [])) ∙ is_finished-append (entries_of history) (e ∷ []));
  fill_size =
      fill ∙ ap (λ m. filled_to m (e ∷ [])) (stands.fill_size ∙ ap (λ s. filled_to s (entries_of history)) (sym size))
      ∙ sym (ap (filled_to new.size) (entries_of-append history ((n, e) ∷ [])) ∙ filled_to-append new.size (entries_of history) (e ∷ []));
  segments = segments;
}

items_more : (queue : Queue) (history : List (ℕ × SendEntry)) (item : Item) → QueueStandsFor queue history →
    map parcel_of (queue.items ++ item ∷ []) ≡ (outbox (entries_of history)).items ++ parcel_of item ∷ []
items_more queue history item stands = map-append parcel_of queue.items (item ∷ []) ∙ ap (λ z. z ++ parcel_of item ∷ []) stands.items

same_barriers : (queue : Queue) (history : List (ℕ × SendEntry)) → QueueStandsFor queue history → queue.barriers ≡ length (barriers_put (entries_of history) ++ [])
same_barriers queue history stands = stands.barriers ∙ ap length (sym (append-nil (barriers_put (entries_of history))))

same_finished : (queue : Queue) (history : List (ℕ × SendEntry)) → QueueStandsFor queue history → queue.finished ≡ cond (is_finished (entries_of history)) true false
same_finished queue history stands = stands.finished ∙ sym (or_false (is_finished (entries_of history)))

pub put_adds : PutAdds
put_adds queue history number filled stands task open_end size =
    stands_more queue (with_buffer queue filled) history number (Put (bytes_of filled)) stands refl (eq-eqb number 0 task) (sym stands.finished ∙ open_end)
    (items_more queue history (Buffer filled) stands) (same_barriers queue history stands) (same_finished queue history stands) refl
    (All-push (HasLength queue.size) queue.items (Buffer filled) stands.segments size)

pub put_inline_adds : PutInlineAdds
put_inline_adds queue history number k stands task open_end next =
    let bs = barriers_put (entries_of history) in
    stands_more queue (with_barrier queue k) history number (PutInline k) stands refl (eq-eqb number 0 task)
    (record { unfinished = sym stands.finished ∙ open_end; next = next ∙ ap suc stands.barriers })
    (items_more queue history (Barrier k Inline) stands)
    (next ∙ ap suc stands.barriers ∙ (let one : suc (length bs) ≡ length (bs ++ (k, Inline) ∷ []) = omega (arith, length-append bs ((k, Inline) ∷ [])) in one))
    (same_finished queue history stands) refl (All-push (HasLength queue.size) queue.items (Barrier k Inline) stands.segments tt)

-- A front barrier stands among parcels where it stands among items.
any-parcels : (items : List Item) → list_any is_barrier (map parcel_of items) ≡ list_any is_mark items
any-parcels [] = refl
any-parcels (item ∷ items) = ap (λ b. is_mark item || b) (any-parcels items)

up_to_last-parcels : (items : List Item) → map parcel_of (up_to_last is_mark items) ≡ up_to_last is_barrier (map parcel_of items)
up_to_last-parcels [] = refl
up_to_last-parcels (item ∷ items) =
    elim (list_any is_mark (item ∷ items)) as (λ b. map parcel_of (cond b (item ∷ up_to_last is_mark items) []) ≡ cond b (parcel_of item ∷ up_to_last is_barrier (map parcel_of items)) []) [
      | true ↦ ap (λ z. parcel_of item ∷ z) (up_to_last-parcels items)
      | false ↦ refl
    ]
    ∙ ap (λ b. cond b (parcel_of item ∷ up_to_last is_barrier (map parcel_of items)) []) (sym (any-parcels (item ∷ items)))

behind_last-parcels : (items : List Item) → map parcel_of (behind_last is_mark items) ≡ behind_last is_barrier (map parcel_of items)
behind_last-parcels [] = refl
behind_last-parcels (item ∷ items) =
    elim (list_any is_mark (item ∷ items)) as (λ b. map parcel_of (cond b (behind_last is_mark items) (item ∷ items)) ≡ cond b (behind_last is_barrier (map parcel_of items)) (map parcel_of (item ∷ items))) [
      | true ↦ behind_last-parcels items
      | false ↦ refl
    ]
    ∙ ap (λ b. cond b (behind_last is_barrier (map parcel_of items)) (map parcel_of (item ∷ items))) (sym (any-parcels (item ∷ items)))

segments_between : (size : ℕ) (items : List Item) (k : ℕ) → All (HasLength size) items → All (HasLength size) (up_to_last is_mark items ++ Barrier k Front ∷ behind_last is_mark items)
segments_between size items k all =
    let both = subst (λ l. AllByRecursion (HasLength size) l) (sym (cut_in_two is_mark items)) (recursion_from_All (HasLength size) items all) in
    All-from_recursion (HasLength size) (up_to_last is_mark items ++ Barrier k Front ∷ behind_last is_mark items) (with_one (up_to_last is_mark items) (behind_last is_mark items) both)
  where
    with_one : (front back : List Item) → AllByRecursion (HasLength size) (front ++ back) → AllByRecursion (HasLength size) (front ++ Barrier k Front ∷ back)
    with_one [] back all = (tt, all)
    with_one (item ∷ front) back all = (all.0, with_one front back all.1)

pub put_front_adds : PutFrontAdds
put_front_adds queue history number k stands task open_end next =
    let bs = barriers_put (entries_of history) in
    stands_more queue (with_front_barrier queue k) history number (PutFront k) stands refl (eq-eqb number 0 task)
    (record { unfinished = sym stands.finished ∙ open_end; next = next ∙ ap suc stands.barriers })
    (map-append parcel_of (up_to_last is_mark queue.items) (Barrier k Front ∷ behind_last is_mark queue.items)
    ∙ ap (λ z. z ++ parcel_of (Barrier k Front) ∷ map parcel_of (behind_last is_mark queue.items)) (up_to_last-parcels queue.items)
    ∙ ap (λ z. up_to_last is_barrier (map parcel_of queue.items) ++ parcel_of (Barrier k Front) ∷ z) (behind_last-parcels queue.items)
    ∙ ap (λ ps. with_front k ps) stands.items)
    (next ∙ ap suc stands.barriers ∙ (let one : suc (length bs) ≡ length (bs ++ (k, Front) ∷ []) = omega (arith, length-append bs ((k, Front) ∷ [])) in one))
    (same_finished queue history stands) refl (segments_between queue.size queue.items k stands.segments)

pub front_overtakes : FrontOvertakes
front_overtakes queue history number k stands next =
    let es = entries_of history in
    ap (overtaken k) (entries_of-append history ((number, PutFront k) ∷ []))
    ∙ front_overtakes_last es k (not_yet queue.size es k (entries_are_history queue.size history stands.legal) (next ∙ ap suc stands.barriers))
    ∙ ap (λ ps. data_of (behind_last is_barrier ps)) (sym stands.items) ∙ ap data_of (sym (behind_last-parcels queue.items))

pub finish_adds : FinishAdds
finish_adds queue history number stands task open_end =
    stands_more queue (with_end queue) history number Finish stands refl (eq-eqb number 0 task) (sym stands.finished ∙ open_end)
    (items_more queue history End stands) (same_barriers queue history stands) (sym (or_true (is_finished (entries_of history)))) refl
    (All-push (HasLength queue.size) queue.items End stands.segments tt)

map-drop_one : (items : List Item) (before : List Parcel) (ps : List Parcel) → map parcel_of items ≡ ps → map parcel_of (drop 1 items) ≡ (take_first before ps).items
map-drop_one [] before ps e = subst (λ z. [] ≡ (take_first before z).items) e refl
map-drop_one (item ∷ items) before ps e = subst (λ z. map parcel_of items ≡ (take_first before z).items) e refl

pub take_adds : TakeAdds
take_adds queue history number stands sender =
    let o = outbox (entries_of history) in
    stands_more queue (without_first queue) history number Take stands refl (eq-eqb number 1 sender) tt
    (map-drop_one queue.items o.taken o.items stands.items) (same_barriers queue history stands) (same_finished queue history stands) refl
    (All-drop (HasLength queue.size) 1 queue.items stands.segments)

pub size_adds : SizeAdds
size_adds queue history number n stands teller low high =
    stands_more queue (filling_to queue n) history number (Size n) stands refl (eq-eqb number 2 teller) (low, high)
    stands.items (same_barriers queue history stands) (same_finished queue history stands) refl stands.segments

taken_first : (items : List Item) (before ps : List Parcel) → map parcel_of items ≡ ps → (take_first before ps).taken ≡ before ++ map parcel_of (option_to_list (slice_get items 0))
taken_first [] before ps e = subst (λ z. (take_first before z).taken ≡ before ++ []) e (sym (append-nil before))
taken_first (item ∷ items) before ps e = subst (λ z. (take_first before z).taken ≡ before ++ parcel_of item ∷ []) e refl

pub last_is_put : LastIsPut
last_is_put queue filled = last_bytes-buffer queue.items filled

pub take_tells : TakeTells
take_tells queue history number item stands first =
    let o = outbox (entries_of history) in
    ap (λ (q : Outbox). q.taken) (outbox-more history number Take)
    ∙ taken_first queue.items o.taken o.items stands.items
    ∙ ap (λ i. o.taken ++ map parcel_of (option_to_list i)) (sym first)

pub task_tells_queue : TaskTellsQueue
task_tells_queue queue history stands =
    let told = task_tells_puts queue.size history stands.legal in
    record {
      barriers = stands.barriers ∙ ap length told.barriers;
      finished = stands.finished ∙ told.finished;
    }
