-- What taking data and polling a barrier make of a channel's fields.
use Rattle.std.proofs.Common.{◌≡◌, ℕ, ◌+◌, ◌-◌, ◌≤◌, Bool, true, false, not, cond, List, [], ◌∷◌, ◌++◌, map, length, length-append, drop, Some, refl, sym, ap, subst, ◌∙◌, append-nil, arith, add-zero}
use Rattle.std.proofs.lemmas.List.{map-append}
use Rattle.flow_defs.proofs.ParcelLemmas.{barriers_of-append}
use Rattle.std.specs.Prelude.{◌&&◌, count_by}
use Rattle.flow_defs.specs.declared.task.BarrierKind.{BarrierKind}
use Rattle.flow_defs.specs.declared.parcel.Parcel.{Parcel}
use Rattle.flow_defs.specs.declared.parcel.Parcel.TheVariants.{Data, Barrier, End}
use Rattle.flow_defs.specs.Parcels.{barriers_of}
use Rattle.input_channel.specs.declared.held.HeldBuf.{HeldBuf}
use Rattle.input_channel.specs.declared.parts.Parts.{Parts}
use Rattle.input_channel.specs.declared.entry.Gave.TheVariants.{NoBuffer}
use Rattle.input_channel.specs.declared.entry.ReceiveEntry.TheVariants.{Poll}
use Rattle.input_channel.specs.declared.polled.Polled.TheVariants as answers
use Rattle.input_channel.specs.Contents.{content}
use Rattle.input_channel.specs.Inboxes.{Arrived, WasPolled, Waits, parcel_of, waiting, first_parcel, due, undue, is_barrier, poll_first, poll_due}
use Rattle.input_channel.specs.Legal.{owes}
use Rattle.input_channel.specs.States.{from_waiting, polled_barriers, channel_next}
use Rattle.input_channel.specs.Answers.{gave_of, IsBufferOf}
use Rattle.input_channel.specs.Steps.{with_barrier_in}
use Rattle.input_channel.proofs.KeptLemmas.{all_three}
use Rattle.input_channel.specs.Lines.{Line, parcels, kinds_of}
use Rattle.input_channel.specs.Kept.{queue_of, line_of, counts_of, state_of, AreOfLength, ArePartsKept, TakesData, TakesNothing}
use Rattle.input_channel.proofs.CountLemmas.{count-cons}
use Rattle.input_channel.proofs.InboxLaws.{poll_due-parcels, waiting-append, waiting-poll_due}
use Rattle.input_channel.proofs.LineLaws.{waiting-from_waiting}
use Rattle.input_channel.proofs.LineLemmas.{calm_front}
use Rattle.input_channel.proofs.PollLemmas.{IsDue, goes, waiting_line, passed_is, gains_data, barrier_gains, polled_some, undue-length, counts-poll, buffers-first}

-- ---- counts

less_barriers : (xs : List Arrived) → length (barriers_of (map parcel_of (from_waiting xs))) ≤ length (barriers_of (map parcel_of xs))
less_barriers [] = omega arith
less_barriers (WasPolled (Data bytes) ∷ xs) = less_barriers xs
less_barriers (WasPolled (Barrier k kind) ∷ xs) = let rest = less_barriers xs in omega (arith, rest)
less_barriers (WasPolled End ∷ xs) = less_barriers xs
less_barriers (Waits p ∷ xs) = omega arith

less_kinds : (p : Bool → Bool) (x : Bool) (xs : List Bool) → count_by p xs ≤ count_by p (x ∷ xs)
less_kinds p x xs = let more = count-cons p x xs in omega (arith, more)

-- one more waits
pub record IsMore (n : ℕ) (xs ys : List Arrived) : Type 0 where
  pub all : length (barriers_of (map parcel_of ys)) ≡ length (barriers_of (map parcel_of xs)) + n
  pub waits : length (barriers_of (waiting ys)) ≡ length (barriers_of (waiting xs)) + n

more_of : (p : Parcel) (n : ℕ) (xs : List Arrived) → length (barriers_of (p ∷ [])) ≡ n → IsMore n xs (xs ++ Waits p ∷ [])
more_of p n xs one = record {
  all =
      ap (λ ps. length (barriers_of ps)) (map-append parcel_of xs (Waits p ∷ [])) ∙ ap length (barriers_of-append (map parcel_of xs) (p ∷ []))
      ∙ length-append (barriers_of (map parcel_of xs)) (barriers_of (p ∷ [])) ∙ ap (λ m. length (barriers_of (map parcel_of xs)) + m) one;
  waits =
      ap (λ ps. length (barriers_of ps)) (waiting-append xs (Waits p ∷ [])) ∙ ap length (barriers_of-append (waiting xs) (p ∷ []))
      ∙ length-append (barriers_of (waiting xs)) (barriers_of (p ∷ [])) ∙ ap (λ m. length (barriers_of (waiting xs)) + m) one;
}

pub data_more : (bytes : List ℕ) (xs ys : List Arrived) → ys ≡ xs ++ Waits (Data bytes) ∷ [] → IsMore 0 xs ys
data_more bytes xs ys is = subst (IsMore 0 xs) (sym is) (more_of (Data bytes) 0 xs refl)

pub barrier_more : (k : ℕ) (kind : BarrierKind) (xs ys : List Arrived) → ys ≡ xs ++ Waits (Barrier k kind) ∷ [] → IsMore 1 xs ys
barrier_more k kind xs ys is = subst (IsMore 1 xs) (sym is) (more_of (Barrier k kind) 1 xs refl)

sizes_left : (n : ℕ) (xs ys : List HeldBuf) (b : HeldBuf) → xs ≡ b ∷ ys → AreOfLength n xs → AreOfLength n ys
sizes_left n xs ys b e h = let sizes : AreOfLength n (b ∷ ys) = subst (AreOfLength n) e h in sizes.1

no_barrier_held : (hold : Bool) → (hold && false) ≡ false
no_barrier_held true = refl
no_barrier_held false = refl

-- ---- data

module _ (f new : Parts) (buf : HeldBuf) (t : TakesData f buf new) where
  data_buffers : f.queue.buffers ≡ buf ∷ new.queue.buffers
  data_buffers = t.gives.buffers

  pub data_kept : ArePartsKept f → ArePartsKept new
  data_kept is =
      let kinds : kinds_of f.queue.buffers ≡ buf.exclusive ∷ kinds_of new.queue.buffers = ap kinds_of data_buffers in
      let exs = ap (count_by (λ x. x)) kinds in
      let fls = ap (count_by not) kinds in
      let less_exs = less_kinds (λ x. x) buf.exclusive (kinds_of new.queue.buffers) in
      let less_fls = less_kinds not buf.exclusive (kinds_of new.queue.buffers) in
      let two = is.two in
      let within = is.within in
      let gone = ap (λ xs. length (barriers_of (map parcel_of xs))) t.gives.arrived in
      let was = ap (λ xs. length (barriers_of (map parcel_of xs))) t.gives.first in
      let less = less_barriers t.gives.rest in
      let barriers = is.barriers in
      let left = ap (λ xs. length (barriers_of (waiting xs))) t.gives.arrived ∙ ap (λ ps. length (barriers_of ps)) (waiting-from_waiting t.gives.rest) in
      let before = ap (λ xs. length (barriers_of (waiting xs))) t.gives.first in
      let resumptions = is.resumptions in
      subst ArePartsKept (sym t.same) (record {
        exclusive_places = is.exclusive_places;
        floating_places = is.floating_places;
        queue_places = t.gives.room ∙ is.queue_places;
        room = is.room;
        two = omega (arith, exs, less_exs, two);
        within = omega (arith, fls, less_fls, within);
        credit = is.credit;
        exclusive_sizes = is.exclusive_sizes;
        floating_sizes = is.floating_sizes;
        queue_sizes = sizes_left f.size f.queue.buffers new.queue.buffers buf data_buffers is.queue_sizes;
        barriers = omega (arith, gone, was, less, barriers);
        resumptions = omega (arith, left, before, resumptions);
        announced = is.announced;
        received = is.received;
        last = is.last;
        end = is.end;
      })

  -- they are due, and are polled
  data_due : is_barrier (due (parcels f.queue)) ≡ false → due (parcels f.queue) ≡ Some (Data (content buf))
  data_due calm =
      ap (λ b. cond b (Rattle.input_channel.specs.Inboxes.first_barrier (parcels f.queue)) (first_parcel (parcels f.queue))) (calm_front (parcels f.queue) calm) ∙ ap (λ xs. first_parcel (waiting xs)) t.gives.first

  data_left : is_barrier (due (parcels f.queue)) ≡ false → new.queue.arrived ≡ from_waiting (poll_due f.queue.arrived)
  data_left calm =
      t.gives.arrived
      ∙ sym (ap (λ b. from_waiting (cond b (Rattle.input_channel.specs.Inboxes.poll_barrier f.queue.arrived) (poll_first f.queue.arrived))) (calm_front (parcels f.queue) calm) ∙ ap (λ xs. from_waiting (poll_first xs)) t.gives.first)

  data_goes : is_barrier (due (parcels f.queue)) ≡ false → IsDue f.queue f.end_waits (Data (content buf)) new.queue
  data_goes calm = goes f.queue new.queue f.end_waits (Data (content buf)) (data_due calm) (data_left calm)

  pub data_answer : ArePartsKept f → is_barrier (due (parcels f.queue)) ≡ false → IsBufferOf (state_of f) buf
  data_answer is calm = record {
    due = (data_goes calm).due_is;
    size = buffers-first f.size f.queue.buffers new.queue.buffers buf data_buffers is.queue_sizes;
    rest = kinds_of new.queue.buffers;
    kind = ap kinds_of data_buffers;
  }

  pub data_channel : (hold : Bool) → is_barrier (due (parcels f.queue)) ≡ false → state_of new ≡ channel_next (state_of f) (Poll hold (gave_of (answers.Buffer buf)))
  data_channel hold calm =
      let v = state_of f in
      let on = data_goes calm in
      let p : Parcel = Data (content buf) in
      ap state_of t.same
      ∙ polled_some v hold (gave_of (answers.Buffer buf)) p _ _ _ _ _ _ (waiting_line f.queue f.end_waits) on.due_is (no_barrier_held hold) on.queue on.line (sym (passed_is f)) (t.save ∙ gains_data f (content buf) v.save)
      (ap (λ bs. record v.counts { held = drop 1 bs }) (ap kinds_of (sym data_buffers)) ∙ sym (counts-poll v.counts hold buf.exclusive)) (sym (add-zero f.owed))

-- ---- no memory

module _ (f new : Parts) (t : TakesNothing f new) where
  pub nothing_kept : ArePartsKept f → ArePartsKept new
  nothing_kept is = subst ArePartsKept (sym t.same) (record {
    exclusive_places = is.exclusive_places;
    floating_places = is.floating_places;
    queue_places = is.queue_places;
    room = is.room;
    two = is.two;
    within = is.within;
    credit = is.credit;
    exclusive_sizes = is.exclusive_sizes;
    floating_sizes = is.floating_sizes;
    queue_sizes = is.queue_sizes;
    barriers = is.barriers;
    resumptions = is.resumptions;
    announced = is.announced;
    received = is.received;
    last = is.last;
    end = is.end;
  })

  pub nothing_changes : state_of new ≡ state_of f
  nothing_changes = ap state_of t.same ∙ ap (λ save. record (state_of f) { save = save }) t.save

-- ---- a barrier

module _ (f : Parts) (new : Line) (k : ℕ) (kind : BarrierKind) (is_due : due (parcels f.queue) ≡ Some (Barrier k kind))
    (pops : new ≡ record { arrived = from_waiting (poll_due f.queue.arrived); buffers = f.queue.buffers; room = f.queue.room }) where
  pub barrier_goes : IsDue f.queue f.end_waits (Barrier k kind) new
  barrier_goes = goes f.queue new f.end_waits (Barrier k kind) is_due (ap (λ (l : Line). l.arrived) pops)

  pub barrier_kept : (n : ℕ) → n ≤ 1 → ArePartsKept f → ArePartsKept (record f { queue = new; owed = f.owed + n })
  barrier_kept n low is =
      let held : new.buffers ≡ f.queue.buffers = ap (λ (l : Line). l.buffers) pops in
      let one = undue-length (parcels f.queue) (ap is_barrier is_due) in
      let left : length (barriers_of (parcels new)) ≡ length (barriers_of (undue (parcels f.queue))) =
      ap (λ (l : Line). length (barriers_of (parcels l))) pops ∙ ap (λ ps. length (barriers_of ps)) (waiting-from_waiting (poll_due f.queue.arrived) ∙ waiting-poll_due f.queue.arrived) in
      let gone = ap (λ (l : Line). length (barriers_of (map parcel_of l.arrived))) pops in
      let less = less_barriers (poll_due f.queue.arrived) in
      let same = ap (λ ps. length (barriers_of ps)) (poll_due-parcels f.queue.arrived) in
      let barriers = is.barriers in
      let resumptions = is.resumptions in
      record {
        exclusive_places = is.exclusive_places;
        floating_places = is.floating_places;
        queue_places = ap (λ (l : Line). l.room) pops ∙ is.queue_places;
        room = is.room;
        two = subst (λ (bs : List HeldBuf). length f.exclusive.items + count_by (λ x. x) (kinds_of bs) ≤ 2) (sym held) is.two;
        within = subst (λ (bs : List HeldBuf). 2 + (length f.floating.items + count_by not (kinds_of bs)) ≤ f.room) (sym held) is.within;
        credit = is.credit;
        exclusive_sizes = is.exclusive_sizes;
        floating_sizes = is.floating_sizes;
        queue_sizes = subst (AreOfLength f.size) (sym held) is.queue_sizes;
        barriers = omega (arith, gone, less, same, barriers);
        resumptions = omega (arith, one, left, low, resumptions);
        announced = is.announced;
        received = is.received;
        last = is.last;
        end = is.end;
      }

  pub barrier_channel : (hold : Bool) (n : ℕ) → hold ≡ false → n ≡ owes kind → state_of (record f { queue = new; owed = f.owed + n }) ≡ channel_next (state_of f) (Poll hold NoBuffer)
  barrier_channel hold n free owes_is =
      let v = state_of f in
      let on = barrier_goes in
      polled_some v hold NoBuffer (Barrier k kind) _ _ _ _ _ _ (waiting_line f.queue f.end_waits) on.due_is (ap (λ h. h && true) free) on.queue on.line refl (barrier_gains v k kind v.save)
      (ap (λ (l : Line). counts_of f.exclusive.items f.floating.items l f.pending f.required f.is_shut) pops)
      (ap (λ m. f.owed + m) (owes_is ∙ sym (add-zero (owes kind))))

-- ---- how many barriers were polled

queue-barriers : (line : Line) (waits : Bool) → length (barriers_of (queue_of line waits)) ≡ length (barriers_of (parcels line))
queue-barriers line true = ap length (barriers_of-append (parcels line) (End ∷ []) ∙ append-nil (barriers_of (parcels line)))
queue-barriers line false = refl

pub polled_is : (f : Parts) → polled_barriers (state_of f) ≡ f.last - length (barriers_of (parcels f.queue))
polled_is f = ap (λ n. f.last - n) (queue-barriers f.queue f.end_waits)

-- ---- a barrier comes

pub barrier_comes : (f : Parts) (new : Line) (k : ℕ) (kind : BarrierKind) → f.end_waits ≡ false → new ≡ record { arrived = f.queue.arrived ++ Waits (Barrier k kind) ∷ []; buffers = f.queue.buffers; room = f.queue.room } →
    state_of (record f { queue = new; last = k }) ≡ with_barrier_in (state_of f) k kind
barrier_comes f new k kind none is =
    let v = state_of f in
    let arrived : new.arrived ≡ f.queue.arrived ++ Waits (Barrier k kind) ∷ [] = ap (λ (l : Line). l.arrived) is in
    let waits : parcels new ≡ parcels f.queue ++ Barrier k kind ∷ [] = ap waiting arrived ∙ waiting-append f.queue.arrived (Waits (Barrier k kind) ∷ []) in
    all_three (λ q l c. record v { queue = q; line = l; counts = c; last = k }) _ _ _ _ _ _
    (ap (queue_of new) none ∙ waits ∙ ap (λ b. queue_of f.queue b ++ Barrier k kind ∷ []) (sym none))
    (ap (line_of new) none ∙ arrived ∙ ap (λ b. line_of f.queue b ++ Waits (Barrier k kind) ∷ []) (sym none))
    (ap (λ (l : Line). counts_of f.exclusive.items f.floating.items l f.pending f.required f.is_shut) is)
