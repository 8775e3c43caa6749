-- After each entry the queue has every reader that can send once, and no other.
use Rattle.std.proofs.Common.{◌≡◌, ℕ, ◌+◌, ◌-◌, ◌≤◌, Bool, true, false, not, cond, eqb, List, [], ◌∷◌, ◌++◌, drop, map, Option, Some, None, refl, sym, ap, subst, ◌∙◌, arith, append-nil}
use Rattle.std.specs.Prelude.{slice_get, filter, count_by}
use Rattle.std.specs.Option.{option_map, option_map_or}
use Rattle.std.proofs.lemmas.Bool.{false≢true}
use Rattle.std.proofs.lemmas.List.Sums.{sum_by-cons, sum_by_push}
use Rattle.std.proofs.lemmas.Option.{none-some, same_Some}
use Rattle.flow_defs.specs.declared.task.ChannelId.{ChannelId}
use Rattle.credit_reader.specs.declared.reader.Reader.{Reader}
use Rattle.credit_reader.specs.Readers.{fresh, Happening, Asked, Granted, Resumed, Ready, Sent, Announced, reader_next, can_send}
use Rattle.credit_reader.specs.Senders.{Sender, is_same, is_able, reader_of, after_at, happened, has_sent, queue_after}
use Rattle.credit_reader.proofs.Channels.{is_same_self, is_same_of, same_channel, is_other, reader_after}
use Rattle.reader_state.specs.declared.entry.ReaderEntry.{ReaderEntry}
use Rattle.reader_state.specs.declared.entry.ReaderEntry.TheVariants as entry
use Rattle.reader_state.specs.Ledgers as ledgers
use Rattle.reader_state.specs.Ledgers.{Ledger, MayEnter, with_early, with_reader, fitting, credit_given, may_resume, resumption_given, settled}

abbrev pub one_if : Bool → ℕ
one_if b = cond b 1 0

-- how often a channel stands in a queue
abbrev pub times : ChannelId → List ChannelId → ℕ
times c queue = count_by (λ d. is_same d c) queue

abbrev pub Queued : Sender → Type 0
Queued s = (c : ChannelId) → times c s.queue ≡ one_if (is_able c s.readers)

times_cons : (c d : ChannelId) (queue : List ChannelId) → times c (d ∷ queue) ≡ one_if (is_same d c) + times c queue
times_cons c d queue = sum_by-cons (λ x. one_if (is_same x c)) d queue

times_push : (c d : ChannelId) (queue : List ChannelId) → times c (queue ++ d ∷ []) ≡ times c queue + one_if (is_same d c)
times_push c d queue = sum_by_push (λ x. one_if (is_same x c)) queue d

abbrev without : ChannelId → List ChannelId → List ChannelId
without d queue = filter (λ x. not (is_same x d)) queue

without_own : (d : ChannelId) (queue : List ChannelId) → times d (without d queue) ≡ 0
without_own d [] = refl
without_own d (x ∷ queue) =
    elim (is_same x d) as (λ b. is_same x d ≡ b → times d (cond (not b) (x ∷ without d queue) (without d queue)) ≡ 0) [
      | true ↦ λ is. without_own d queue
      | false ↦ λ is. let none : one_if (is_same x d) ≡ 0 = ap one_if is in omega (arith, times_cons d x (without d queue), without_own d queue, none)
    ] refl

without_other : (c d : ChannelId) → is_same d c ≡ false → (queue : List ChannelId) → times c (without d queue) ≡ times c queue
without_other c d other [] = refl
without_other c d other (x ∷ queue) =
    elim (is_same x d) as (λ b. is_same x d ≡ b → times c (cond (not b) (x ∷ without d queue) (without d queue)) ≡ times c (x ∷ queue)) [
      | true ↦ λ is.
          let apart : one_if (is_same x c) ≡ 0 = ap one_if (ap (λ e. is_same e c) (same_channel x d is) ∙ other) in
          omega (arith, times_cons c x queue, without_other c d other queue, apart)
      | false ↦ λ is. omega (arith, times_cons c x (without d queue), times_cons c x queue, without_other c d other queue)
    ] refl

own_after : (d : ChannelId) (was now : Bool) (queue : List ChannelId) → times d queue ≡ one_if was → times d (queue_after d was now queue) ≡ one_if now
own_after d true true queue is = is
own_after d true false queue is = without_own d queue
own_after d false true queue is = let own : one_if (is_same d d) ≡ 1 = ap one_if (is_same_self d) in omega (arith, times_push d d queue, is, own)
own_after d false false queue is = is

other_after : (c d : ChannelId) (was now : Bool) (queue : List ChannelId) → is_same d c ≡ false → times c (queue_after d was now queue) ≡ times c queue
other_after c d true true queue other = refl
other_after c d true false queue other = without_other c d other queue
other_after c d false true queue other = let none : one_if (is_same d c) ≡ 0 = ap one_if other in omega (arith, times_push c d queue, none)
other_after c d false false queue other = refl

-- another reader can send or not as before
able_other : (c d : ChannelId) (h : Happening) (rs : List Reader) → is_same c d ≡ false → is_able c (after_at d h rs) ≡ is_able c rs
able_other c d h rs other = ap (λ o. option_map_or can_send o false) (reader_after d h c rs ∙ ap (λ b. option_map (λ r. cond b (reader_next r h) r) (reader_of c rs)) other ∙ same (reader_of c rs))
  where
    same : (o : Option Reader) → option_map (λ (r : Reader). r) o ≡ o
    same None = refl
    same (Some r) = refl

pub turned_other : (c d : ChannelId) → is_same c d ≡ false → is_same d c ≡ false
turned_other c d other = is_other d c (λ same. false≢true (sym other ∙ is_same_of c d (sym same)))

happened_queued : (d : ChannelId) (h : Happening) (s : Sender) → Queued s → Queued (happened d h s)
happened_queued d h s queued c =
    elim (is_same c d) as (λ b. is_same c d ≡ b → times c (happened d h s).queue ≡ one_if (is_able c (after_at d h s.readers))) [
      | true ↦ λ is. subst (λ x. times x (happened d h s).queue ≡ one_if (is_able x (after_at d h s.readers))) (sym (same_channel c d is)) (own_after d _ _ s.queue (queued d))
      | false ↦ λ is. other_after c d _ _ s.queue (turned_other c d is) ∙ queued c ∙ ap one_if (sym (able_other c d h s.readers is))
    ] refl

-- the first of the queue can send
pub first_able : (c : ChannelId) (s : Sender) → Queued s → slice_get s.queue 0 ≡ Some c → is_able c s.readers ≡ true
first_able c s queued first = able_of (is_able c s.readers) s.queue first (queued c)
  where
    able_of : (b : Bool) (queue : List ChannelId) → slice_get queue 0 ≡ Some c → times c queue ≡ one_if b → b ≡ true
    able_of true queue first is = refl
    able_of false [] first is = absurd (none-some _ first)
    able_of false (x ∷ queue) first is = let own : one_if (is_same x c) ≡ 1 = ap one_if (is_same_of x c (same_Some _ _ first)) in absurd (omega (arith, times_cons c x queue, is, own))

sent_queue : (c d : ChannelId) (now able : Bool) (queue : List ChannelId) → slice_get queue 0 ≡ Some d → times c queue ≡ one_if able → times c (drop 1 queue ++ cond now (d ∷ []) []) + one_if (is_same d c) ≡ one_if able + cond now (one_if (is_same d c)) 0
sent_queue c d now able [] first is = absurd (none-some _ first)
sent_queue c d true able (x ∷ queue) first is =
    let here : one_if (is_same x c) ≡ one_if (is_same d c) = ap (λ y. one_if (is_same y c)) (same_Some _ _ first) in omega (arith, times_push c d queue, times_cons c x queue, is, here)
sent_queue c d false able (x ∷ queue) first is =
    let here : one_if (is_same x c) ≡ one_if (is_same d c) = ap (λ y. one_if (is_same y c)) (same_Some _ _ first) in
    let cut : times c (queue ++ []) ≡ times c queue = ap (times c) (append-nil queue) in omega (arith, cut, times_cons c x queue, is, here)

sent_queued : (d : ChannelId) (h : Happening) (s : Sender) → slice_get s.queue 0 ≡ Some d → Queued s → Queued (record { readers = after_at d h s.readers; queue = drop 1 s.queue ++ cond (is_able d (after_at d h s.readers)) (d ∷ []) [] })
sent_queued d h s first queued c =
    let now = is_able d (after_at d h s.readers) in
    let sum = sent_queue c d now (is_able c s.readers) s.queue first (queued c) in
    elim (is_same c d) as (λ b. is_same c d ≡ b → times c (drop 1 s.queue ++ cond now (d ∷ []) []) ≡ one_if (is_able c (after_at d h s.readers))) [
      | true ↦ λ is.
          let own : one_if (is_same d c) ≡ 1 = ap one_if (is_same_of d c (sym (same_channel c d is))) in
          let could : one_if (is_able c s.readers) ≡ 1 = ap one_if (ap (λ x. is_able x s.readers) (same_channel c d is) ∙ first_able d s queued first) in
          let stays : cond now (one_if (is_same d c)) 0 ≡ one_if now = ap (λ n. cond now n 0) own in
          let last : times c (drop 1 s.queue ++ cond now (d ∷ []) []) ≡ one_if now = omega (arith, sum, own, could, stays) in
          last ∙ ap (λ x. one_if (is_able x (after_at d h s.readers))) (sym (same_channel c d is))
      | false ↦ λ is.
          let none : one_if (is_same d c) ≡ 0 = ap one_if (turned_other c d is) in
          let nothing : cond now (one_if (is_same d c)) 0 ≡ 0 = zero_either now (one_if (is_same d c)) none in
          let last : times c (drop 1 s.queue ++ cond now (d ∷ []) []) ≡ one_if (is_able c s.readers) = omega (arith, sum, none, nothing) in
          last ∙ ap one_if (sym (able_other c d h s.readers is))
    ] refl
  where
    zero_either : (b : Bool) (n : ℕ) → n ≡ 0 → cond b n 0 ≡ 0
    zero_either true n is = is
    zero_either false n is = refl

settled_queued : (c : ChannelId) (l : Ledger) → Queued l.sender → Queued (settled c l).sender
settled_queued c l queued = resumption_queued (credit_given c (fitting c l) l) (credit_queued (fitting c l) l queued)
  where
    credit_queued : (n : ℕ) (k : Ledger) → Queued k.sender → Queued (credit_given c n k).sender
    credit_queued n k queued = elim (eqb n 0) as (λ b. Queued (cond b k (with_early c (λ e. record e { credit = e.credit - n }) (with_reader c (Granted n) k))).sender) [ true ↦ queued | false ↦ happened_queued c (Granted n) k.sender queued ]

    resumption_queued : (k : Ledger) → Queued k.sender → Queued (resumption_given c k).sender
    resumption_queued k queued =
        elim (may_resume c k) as (λ b. Queued (cond b (with_early c (λ e. record e { resumptions = e.resumptions - 1 }) (with_reader c Resumed k)) k).sender) [ true ↦ happened_queued c Resumed k.sender queued | false ↦ queued ]

pub entry_queued : (l : Ledger) (e : ReaderEntry) → MayEnter l e → Queued l.sender → Queued (ledgers.ledger_next l e).sender
entry_queued l (entry.Ready c head backlog) may queued = happened_queued c (Ready head backlog) l.sender queued
entry_queued l (entry.Sent c what head backlog) may queued = settled_queued c _ (sent_queued c (Sent what head backlog) l.sender may.0 queued)
entry_queued l (entry.Told c) may queued = happened_queued c Announced l.sender queued
entry_queued l (entry.Asked c n) may queued = happened_queued c (Asked n) l.sender queued
entry_queued l (entry.Granted c n) may queued = settled_queued c _ queued
entry_queued l (entry.Resumed c) may queued = settled_queued c _ queued

pub opened_queued : (channels : List ChannelId) → Queued (ledgers.opened channels).sender
opened_queued channels c = ap one_if (sym (none_able channels))
  where
    none_able : (channels : List ChannelId) → is_able c (map fresh channels) ≡ false
    none_able [] = refl
    none_able (d ∷ channels) = elim (is_same d c) as (λ b. option_map_or can_send (cond b (Some (fresh d)) (reader_of c (map fresh channels))) false ≡ false) [ true ↦ refl | false ↦ none_able channels ]
