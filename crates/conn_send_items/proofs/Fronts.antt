-- What stands first on a channel, from one turn of its sender to the next.
use Rattle.std.proofs.Common.{◌≡◌, ◌≢◌, inl, inr, ℕ, zero, suc, ◌+◌, ◌≤◌, true, false, eqb, true≢false, List, [], ◌∷◌, ◌++◌, map, refl, sym, ap, subst, ◌∙◌, arith, eqb-true, eq-eqb, append_assoc, append-nil}
use Rattle.std.specs.Prelude.{slice_get, Option, Some, None, All}
use Rattle.std.specs.List.{range_with_len}
use Rattle.std.proofs.lemmas.List.Elements.{All-get_or}
use Rattle.std.proofs.lemmas.Option.{same_Some}
use Rattle.flow_defs.specs.declared.task.BarrierKind.{BarrierKind}
use Rattle.flow_defs.specs.declared.task.BarrierKind.TheVariants.{Inline, Front}
use Rattle.flow_defs.specs.declared.task.Head.{Head}
use Rattle.flow_defs.specs.declared.task.Head.TheVariants.{Nothing, Buffer, Event}
use Rattle.flow_defs.specs.declared.parcel.Parcel.{Parcel}
use Rattle.flow_defs.specs.declared.parcel.Parcel.TheVariants.{Data, Barrier, End}
use Rattle.flow_defs.specs.Parcels.{barriers_of}
use Rattle.flow_defs.proofs.Lists.{cancel_nil, head_same, tail_same, no_cons}
use Rattle.turn_cell.specs.History.{by, StartsWith, IsHistory, entries_of}
use Rattle.credit_reader.specs.Readers.{cost}
use Rattle.subpartition.specs.declared.entry.SendEntry.{SendEntry}
use Rattle.subpartition.specs.declared.entry.SendEntry.TheVariants.{Put, PutInline, PutFront, Finish, Take, Size}
use Rattle.subpartition.specs.declared.item.Item.{Item}
use Rattle.subpartition.specs.declared.item.Item.TheVariants as item
use Rattle.subpartition.specs.Sending.{Outbox, take_first, sent_one, sent_from, outbox, may_send, MaySendAs, numbers_of}
use Rattle.subpartition.specs.Queues.{Queue, HasLength, parcel_of, head_of}
use Rattle.subpartition.specs.Standing.{QueueStandsFor}
use Rattle.subpartition.specs.Theorems.{EntriesAreHistory, BarriersAreNumbered, BarriersTravelInOrder, FirstStays}
use Rattle.subpartition.proofs.Travelling.{sent_from-append}
use Rattle.turn_cell.specs.Passes.{IsTurnOf, IsSamePass, seen}
use Rattle.turn_cell.proofs.Histories.{entries_of-append}
use Rattle.turn_cell.proofs.Lists.{by-append, first_apart}
use Rattle.subpartition.specs.Queues as queues
use Rattle.conn_send_items.specs.Fronts.{SendCell, SendPass, IsSender, head_with, first_after, front_after, StandsAs, backlog_of, backlog_after, behind_first, behind_one, behind_from, behind_taken, behind_in, taken_in, NoneTaken, OneTaken}
use Rattle.conn_send_items.specs.Items.{IsNumbered}
use Rattle.conn_send_items.specs.Sending.{sent_kind}

-- ---- what stands first

-- What stands as it was told still does.
pub still_stands : (head : Head) (p q : Option Parcel) → StandsAs head p → FirstStays p q → StandsAs head q
still_stands Nothing p q stood stays = tt
still_stands Buffer None q stood stays = elim stood [
  | inl is ↦ absurd (cc)
  | inr is ↦ absurd (cc)
]
still_stands Event None q stood stays = absurd (cc)
still_stands Buffer (Some (Data bytes)) q stood stays = elim stays [
  | inl is ↦ inl (ap head_with is)
  | inr is ↦ inr is
]
still_stands Event (Some (Data bytes)) q stood stays = absurd (cc)
still_stands head (Some (Barrier k kind)) q stood stays = subst (StandsAs head) (sym stays) stood
still_stands head (Some End) q stood stays = subst (StandsAs head) (sym stays) stood

-- What is told as it stands stands as it was told.
pub told_stands : (head : Head) (p : Option Parcel) → head_with p ≡ head → StandsAs head p
told_stands Nothing p is = tt
told_stands Buffer p is = inl is
told_stands Event p is = is

-- Where something was told, something stands.
pub stands_some : (head : Head) (p : Option Parcel) → head ≢ Nothing → StandsAs head p → head_with p ≢ Nothing
stands_some Nothing p some stood = absurd (some refl)
stands_some Buffer p some stood = λ none. elim stood [
  | inl is ↦ absurd (cc)
  | inr is ↦ absurd (cc)
]
stands_some Event p some stood = λ none. absurd (cc)

-- Where something stood first, something does.
pub still_some : (p q : Option Parcel) → FirstStays p q → head_with p ≢ Nothing → head_with q ≢ Nothing
still_some p q stays some = stands_some (head_with p) q some (still_stands (head_with p) p q (told_stands (head_with p) p refl) stays)

-- What costs credit stands only where data were told.
pub costs_told : (head : Head) (p : Parcel) → head ≢ Nothing → StandsAs head (Some p) → cost (sent_kind p) ≡ 1 → head ≡ Buffer
costs_told Nothing p some stood costs = absurd (some refl)
costs_told Buffer p some stood costs = refl
costs_told Event (Data bytes) some stood costs = absurd (cc)
costs_told Event (Barrier k Inline) some stood costs = absurd (cc)
costs_told Event (Barrier k Front) some stood costs = absurd (cc)
costs_told Event End some stood costs = absurd (cc)

-- ---- a queue and its history

first_head : (items : List Item) → head_with (slice_get (map parcel_of items) 0) ≡ head_of items
first_head [] = refl
first_head (item.Buffer filled ∷ items) = refl
first_head (item.Barrier k kind ∷ items) = refl
first_head (item.End ∷ items) = refl

-- The head of the queue is that of what is left.
pub front_is : (queue : Queue) (history : List (ℕ × SendEntry)) → QueueStandsFor queue history → front_after history ≡ head_of queue.items
front_is queue history stands = ap (λ ps. head_with (slice_get ps 0)) (sym stands.items) ∙ first_head queue.items

some_not_none : {A : Type 0} (x : A) → Some x ≡ None → ⊥
some_not_none x e = cc

-- Where something stands first there is an item.
pub no_first : (items : List Item) → head_of items ≢ Nothing → slice_get items 0 ≡ None → ⊥
no_first [] some none = some refl
no_first (x ∷ items) some none = some_not_none x none

first_parcel : (items : List Item) (x : Item) → slice_get items 0 ≡ Some x → slice_get (map parcel_of items) 0 ≡ Some (parcel_of x)
first_parcel [] x is = absurd (some_not_none x (sym is))
first_parcel (y ∷ items) x is = ap (λ i. Some (parcel_of i)) (same_Some y x is)

-- The first item of the queue is the first of what is left.
pub first_is : (queue : Queue) (history : List (ℕ × SendEntry)) (x : Item) → QueueStandsFor queue history → slice_get queue.items 0 ≡ Some x → first_after history ≡ Some (parcel_of x)
first_is queue history x stands is = ap (λ ps. slice_get ps 0) (sym stands.items) ∙ first_parcel queue.items x is

-- ---- numbers of barriers

first_number : (k m n : ℕ) (rest : List ℕ) → k ∷ rest ≡ range_with_len m n → (k ≡ m) × ((o : ℕ) × (rest ≡ range_with_len (m + 1) o))
first_number k m zero rest e = absurd (no_cons k rest e)
first_number k m (suc n) rest e = (head_same k m rest (range_with_len (m + 1) n) e, (n, tail_same k m rest (range_with_len (m + 1) n) e))

above : (front : List Parcel) (k : ℕ) (kind : BarrierKind) (rest : List Parcel) (m n : ℕ) → numbers_of (barriers_of (front ++ Barrier k kind ∷ rest)) ≡ range_with_len m n → m ≤ k
above [] k kind rest m n e = let f = first_number k m n (numbers_of (barriers_of rest)) e in omega (arith, f.0)
above (Data bytes ∷ front) k kind rest m n e = above front k kind rest m n e
above (Barrier j other ∷ front) k kind rest m n e =
    let f = first_number j m n (numbers_of (barriers_of (front ++ Barrier k kind ∷ rest))) e in
    let more = above front k kind rest (m + 1) f.1.0 f.1.1 in omega arith
above (End ∷ front) k kind rest m n e = above front k kind rest m n e

-- The first item, where it is a barrier, has a number from 1 on.
pub numbered : EntriesAreHistory → BarriersAreNumbered → BarriersTravelInOrder →
    (queue : Queue) (history : List (ℕ × SendEntry)) (x : Item) → QueueStandsFor queue history → slice_get queue.items 0 ≡ Some x → IsNumbered x
numbered entries numbers travel queue history (item.Buffer filled) stands is = tt
numbered entries numbers travel queue history item.End stands is = tt
numbered entries numbers travel queue history (item.Barrier k kind) stands is =
    let es = entries_of history in
    let left = stands_first queue.items is in
    let there : (outbox es).items ≡ Barrier k kind ∷ left.0 = sym stands.items ∙ left.1 in
    above (outbox es).taken k kind left.0 1 _
    (ap (λ l. numbers_of (barriers_of ((outbox es).taken ++ l))) (sym there) ∙ ap numbers_of (travel es) ∙ numbers queue.size es (entries queue.size history stands.legal))
  where
    stands_first : (items : List Item) → slice_get items 0 ≡ Some (item.Barrier k kind) → (rest : List Parcel) × (map parcel_of items ≡ Barrier k kind ∷ rest)
    stands_first [] is = absurd (some_not_none (item.Barrier k kind) (sym is))
    stands_first (y ∷ items) is = (map parcel_of items, ap (λ i. parcel_of i ∷ map parcel_of items) (same_Some y (item.Barrier k kind) is))

-- ---- a turn of the sender

-- Where its turn begins, the sender's own entries are those that it had seen.
pub own_same : (cell at_cell : SendCell) (before at : SendPass) → IsSender cell before → IsTurnOf at_cell at → IsSamePass before at → by 1 (seen at) ≡ by 1 (seen before)
own_same cell at_cell before at is turn same =
    ap (λ n. by n (seen at)) (sym (same.0 ∙ is.1)) ∙ turn.0.5 ∙ same.1 ∙ sym is.0.0.5 ∙ ap (λ n. by n (seen before)) is.1

-- ---- backlogs

backlog_same : (items : List Item) → backlog_of (map parcel_of items) ≡ queues.backlog_of items
backlog_same [] = refl
backlog_same (item.Buffer filled ∷ items) = ap suc (backlog_same items)
backlog_same (item.Barrier k kind ∷ items) = backlog_same items
backlog_same (item.End ∷ items) = backlog_same items

-- The backlog of the queue is that of what is left.
pub backlog_is : (queue : Queue) (history : List (ℕ × SendEntry)) → QueueStandsFor queue history → backlog_after history ≡ queues.backlog_of queue.items
backlog_is queue history stands = ap backlog_of (sym stands.items) ∙ backlog_same queue.items

behind-append : (o : Outbox) (xs ys : List SendEntry) → behind_from o (xs ++ ys) ≡ behind_from o xs ++ behind_from (sent_from o xs) ys
behind-append o [] ys = refl
behind-append o (x ∷ xs) ys = ap (λ l. behind_one o x ++ l) (behind-append (sent_one o x) xs ys) ∙ sym (append_assoc (behind_one o x) (behind_from (sent_one o x) xs) (behind_from (sent_from (sent_one o x) xs) ys))

-- One that is not the sender's takes nothing.
takes_none : (n : ℕ) (o : Outbox) (e : SendEntry) → may_send n e ≡ true → eqb 1 n ≡ false → behind_one o e ≡ []
takes_none n o (Put bytes) may apart = refl
takes_none n o (PutInline k) may apart = refl
takes_none n o (PutFront k) may apart = refl
takes_none n o Finish may apart = refl
takes_none n o Take may apart = absurd (true≢false (sym (eq-eqb 1 n (sym (eqb-true n 1 may))) ∙ apart))
takes_none n o (Size size) may apart = refl

none_behind : (size : ℕ) (front : List (ℕ × SendEntry)) (o : Outbox) (rest : List (ℕ × SendEntry)) → IsHistory (MaySendAs size) (front ++ rest) → by 1 rest ≡ [] → behind_from o (entries_of rest) ≡ []
none_behind size front o [] legal none = refl
none_behind size front o (pair ∷ rest) legal none =
    let apart = first_apart 1 pair rest none in
    ap (λ l. l ++ behind_from (sent_one o pair.1) (entries_of rest)) (takes_none pair.0 o pair.1 (legal front rest pair refl).0 apart.0)
    ∙ none_behind size (front ++ pair ∷ []) (sent_one o pair.1) rest (subst (IsHistory (MaySendAs size)) (sym (append_assoc front (pair ∷ []) rest)) legal) apart.1

-- Between two turns of the sender nothing is taken.
behind_stays : (size : ℕ) (before now : List (ℕ × SendEntry)) → IsHistory (MaySendAs size) now → StartsWith now before → by 1 now ≡ by 1 before → behind_in now ≡ behind_in before
behind_stays size before now legal starts same =
    let none : by 1 starts.0 ≡ [] = cancel_nil (by 1 before) (by 1 starts.0) (sym (by-append 1 before starts.0) ∙ ap (by 1) (sym starts.1) ∙ same) in
    ap behind_in starts.1 ∙ ap behind_taken (entries_of-append before starts.0) ∙ behind-append (record { taken = []; items = [] }) (entries_of before) (entries_of starts.0)
    ∙ ap (λ l. behind_in before ++ l) (none_behind size before (outbox (entries_of before)) starts.0 (subst (IsHistory (MaySendAs size)) starts.1 legal) none)
    ∙ append-nil (behind_in before)

pub none_taken : (size : ℕ) (before now after : List (ℕ × SendEntry)) → IsHistory (MaySendAs size) now → StartsWith now before → by 1 now ≡ by 1 before → after ≡ now → taken_in now ≡ taken_in before → NoneTaken before after
none_taken size before now after legal starts same is taken = subst (NoneTaken before) (sym is) (record { grows = starts; taken = taken; behind = behind_stays size before now legal starts same })

-- What is left behind the first item that is taken.
left_behind : (taken ps : List Parcel) → head_with (slice_get ps 0) ≢ Nothing → behind_first ps ≡ backlog_of (take_first taken ps).items ∷ []
left_behind taken [] some = absurd (some refl)
left_behind taken (p ∷ ps) some = refl

behind_take : (history : List (ℕ × SendEntry)) (n : ℕ) → front_after history ≢ Nothing → behind_in (history ++ (n, Take) ∷ []) ≡ behind_in history ++ backlog_after (history ++ (n, Take) ∷ []) ∷ []
behind_take history n some =
    let o = outbox (entries_of history) in
    let left : backlog_after (history ++ (n, Take) ∷ []) ≡ backlog_of (sent_one o Take).items =
    ap (λ es. backlog_of (outbox es).items) (entries_of-append history ((n, Take) ∷ []))
    ∙ ap (λ (p : Outbox). backlog_of p.items) (sent_from-append (record { taken = []; items = [] }) (entries_of history) (Take ∷ [])) in
    ap behind_taken (entries_of-append history ((n, Take) ∷ [])) ∙ behind-append (record { taken = []; items = [] }) (entries_of history) (Take ∷ [])
    ∙ ap (λ l. behind_in history ++ l) (append-nil (behind_first o.items) ∙ left_behind o.taken o.items some ∙ ap (λ k. k ∷ []) (sym left))

pub one_taken : (size : ℕ) (before now after : List (ℕ × SendEntry)) (n : ℕ) (item : Parcel) (backlog : ℕ) → IsHistory (MaySendAs size) now → StartsWith now before → by 1 now ≡ by 1 before →
    front_after now ≢ Nothing → after ≡ now ++ (n, Take) ∷ [] → taken_in after ≡ taken_in before ++ item ∷ [] → backlog_after after ≡ backlog → OneTaken before after item backlog
one_taken size before now after n item backlog legal starts same some is taken left = record {
  grows = (starts.0 ++ (n, Take) ∷ [], is ∙ ap (λ l. l ++ (n, Take) ∷ []) starts.1 ∙ append_assoc before starts.0 ((n, Take) ∷ []));
  taken = taken;
  behind = ap behind_in is ∙ behind_take now n some ∙ ap (λ l. l ++ backlog_after (now ++ (n, Take) ∷ []) ∷ []) (behind_stays size before now legal starts same)
      ∙ ap (λ k. behind_in before ++ k ∷ []) (ap backlog_after (sym is) ∙ left);
}

-- Where all segments have a length, that of the first item does.
pub first_long : (size : ℕ) (items : List Item) (item : Item) → All (HasLength size) items → slice_get items 0 ≡ Some item → HasLength size item
first_long size [] item all first = absurd (cc)
first_long size (x ∷ items) item all first = let same : x ≡ item = cc in subst (HasLength size) same (All-get_or (HasLength size) (x ∷ items) 0 x (omega arith) all)
