-- Between two turns of the pass that sends, the other pass's entries take nothing back: what was told stays, and the channel that is
-- first in the queue can still send.
use Rattle.std.proofs.Common.{◌≡◌, ℕ, ◌+◌, ◌-◌, ◌<◌, Bool, true, false, not, cond, eqb, ltb, List, [], ◌∷◌, ◌++◌, map, Option, Some, None, refl, sym, ap, subst, ◌∙◌, arith, append_assoc, append-nil}
use Rattle.std.specs.Prelude.{slice_get, filter, ◌&&◌}
use Rattle.std.specs.Option.{option_map, option_map_or, IsSomeAnd}
use Rattle.std.proofs.lemmas.Bool.{false≢true, and_parts, and_from, cond-true, eqb-true}
use Rattle.std.proofs.lemmas.Bool.Decides.{nat_tests}
use Rattle.std.proofs.lemmas.Option.{none-some}
use Rattle.flow_defs.specs.declared.task.ChannelId.{ChannelId}
use Rattle.flow_defs.specs.declared.task.Head.{Head}
use Rattle.flow_defs.specs.declared.task.Head.TheVariants as heads
use Rattle.flow_defs.proofs.NumberLemmas.{eqb_comm}
use Rattle.flow_defs.proofs.Lists.{cancel_nil}
use Rattle.turn_cell.specs.History.{by, entries_of, IsHistory, StartsWith}
use Rattle.turn_cell.proofs.Histories.{entries_of-append}
use Rattle.turn_cell.proofs.Lists.{by-append, first_apart}
use Rattle.credit_reader.specs.declared.reader.Reader.{Reader}
use Rattle.credit_reader.specs.Readers.{Happening, Asked, Granted, Resumed, reader_next, can_send, may_go}
use Rattle.credit_reader.specs.Senders.{Sender, is_same, is_able, reader_of, after_at, happened, queue_after}
use Rattle.credit_reader.proofs.Channels.{same_channel, reader_after}
use Rattle.reader_state.specs.declared.entry.ReaderEntry.{ReaderEntry}
use Rattle.reader_state.specs.declared.entry.ReaderEntry.TheVariants as entry
use Rattle.reader_state.specs.Ledgers as ledgers
use Rattle.reader_state.specs.Ledgers.{Ledger, MayEnter, opened, after_all, replayed, with_early, with_reader, fitting, credit_given, may_resume, resumption_given, settled}
use Rattle.reader_state.specs.Standing.{may_make, MayEnterAs}
use Rattle.reader_state.specs.Turning.{ledger_after, head_told, CanSend, HeadsStay}
use Rattle.reader_state.proofs.Ledgers.{told, told_stays}

-- ---- senders that take nothing back

record Stays (old new : Sender) : Type 0 where
  heads : (c : ChannelId) → told (λ r. r.head) c new.readers ≡ told (λ r. r.head) c old.readers
  first : (c : ChannelId) → slice_get old.queue 0 ≡ Some c → slice_get new.queue 0 ≡ Some c
  able : (c : ChannelId) → is_able c old.readers ≡ true → is_able c new.readers ≡ true

stays_same : (s : Sender) → Stays s s
stays_same s = record { heads = λ c. refl; first = λ c h. h; able = λ c h. h }

stays_then : (s t u : Sender) → Stays s t → Stays t u → Stays s u
stays_then s t u a b = record {
  heads = λ c. b.heads c ∙ a.heads c;
  first = λ c h. b.first c (a.first c h);
  able = λ c h. b.able c (a.able c h);
}

-- one that can send can still send after it
abbrev KeepsAble : Happening → Option Reader → Type 0
KeepsAble h o = (r : Reader) → o ≡ Some r → can_send r ≡ true → can_send (reader_next r h) ≡ true

able_kept : (h : Happening) (b : Bool) (o : Option Reader) → ((r : Reader) → b ≡ true → o ≡ Some r → can_send r ≡ true → can_send (reader_next r h) ≡ true)
    → option_map_or can_send o false ≡ true → option_map_or can_send (option_map (λ r. cond b (reader_next r h) r) o) false ≡ true
able_kept h b None keeps can = absurd (false≢true can)
able_kept h true (Some r) keeps can = keeps r refl refl can
able_kept h false (Some r) keeps can = can

front_kept : (c d : ChannelId) (was now : Bool) (queue : List ChannelId) → (was ≡ true → now ≡ true) → slice_get queue 0 ≡ Some c → slice_get (queue_after d was now queue) 0 ≡ Some c
front_kept c d true true queue keeps first = first
front_kept c d true false queue keeps first = absurd (false≢true (keeps refl))
front_kept c d false true [] keeps first = absurd (none-some _ first)
front_kept c d false true (x ∷ xs) keeps first = first
front_kept c d false false queue keeps first = first

happened_stays : (d : ChannelId) (h : Happening) (s : Sender) → ((r : Reader) → (reader_next r h).head ≡ r.head) → KeepsAble h (reader_of d s.readers) → Stays s (happened d h s)
happened_stays d h s same keeps =
    let able : (c : ChannelId) → is_able c s.readers ≡ true → is_able c (after_at d h s.readers) ≡ true = λ c can.
    ap (λ o. option_map_or can_send o false) (reader_after d h c s.readers)
    ∙ able_kept h (is_same c d) (reader_of c s.readers) (λ r is here. keeps r (ap (λ e. reader_of e s.readers) (sym (same_channel c d is)) ∙ here)) can in
    record {
      heads = λ c. told_stays (λ r. r.head) h same c d s.readers;
      first = λ c first. front_kept c d _ _ s.queue (able d) first;
      able = able;
    }

-- ---- what pass 1 does

more_may_go : (head : Head) (credit n : ℕ) → may_go head credit ≡ true → may_go head (credit + n) ≡ true
more_may_go heads.Nothing credit n may = may
more_may_go heads.Buffer credit n may = grind (arith, nat_tests)
more_may_go heads.Event credit n may = may

granted_able : (r : Reader) (n : ℕ) → can_send r ≡ true → can_send (reader_next r (Granted n)) ≡ true
granted_able r n can = let parts = and_parts (r.requested && not r.blocked) (may_go r.head r.credit) can in and_from _ _ parts.0 (more_may_go r.head r.credit n parts.1)

resumed_able : (r : Reader) → can_send r ≡ true → can_send (reader_next r Resumed) ≡ true
resumed_able r can =
    let parts = and_parts (r.requested && not r.blocked) (may_go r.head r.credit) can in
    let asked = and_parts r.requested (not r.blocked) parts.0 in
    and_from _ _ (and_from r.requested true asked.0 refl) parts.1

credit_stays : (c : ChannelId) (n : ℕ) (l : Ledger) → Stays l.sender (credit_given c n l).sender
credit_stays c n l =
    elim (eqb n 0) as (λ b. Stays l.sender (cond b l (with_early c (λ e. record e { credit = e.credit - n }) (with_reader c (Granted n) l))).sender) [
      | true ↦ stays_same l.sender
      | false ↦ happened_stays c (Granted n) l.sender (λ r. refl) (λ r is can. granted_able r n can)
    ]

resumption_stays : (c : ChannelId) (l : Ledger) → Stays l.sender (resumption_given c l).sender
resumption_stays c l =
    elim (may_resume c l) as (λ b. Stays l.sender (cond b (with_early c (λ e. record e { resumptions = e.resumptions - 1 }) (with_reader c Resumed l)) l).sender) [
      | true ↦ happened_stays c Resumed l.sender (λ r. refl) (λ r is can. resumed_able r can)
      | false ↦ stays_same l.sender
    ]

settled_stays : (c : ChannelId) (l : Ledger) → Stays l.sender (settled c l).sender
settled_stays c l = stays_then _ _ _ (credit_stays c (fitting c l) l) (resumption_stays c (credit_given c (fitting c l) l))

not_asked : (o : Option Reader) (r : Reader) → IsSomeAnd o (λ r. r.requested ≡ false) → o ≡ Some r → r.requested ≡ false
not_asked None r may is = absurd may
not_asked (Some s) r may is = let same : s ≡ r = cc in ap (λ (t : Reader). t.requested) (sym same) ∙ may

-- an entry that pass 0 doesn't make
entry_stays : (n : ℕ) (l : Ledger) (e : ReaderEntry) → may_make n e ≡ true → eqb 0 n ≡ false → MayEnter l e → Stays l.sender (ledgers.ledger_next l e).sender
entry_stays n l (entry.Ready c head backlog) makes other may = absurd (false≢true (sym other ∙ eqb_comm 0 n ∙ makes))
entry_stays n l (entry.Sent c what head backlog) makes other may = absurd (false≢true (sym other ∙ eqb_comm 0 n ∙ makes))
entry_stays n l (entry.Told c) makes other may = absurd (false≢true (sym other ∙ eqb_comm 0 n ∙ makes))
entry_stays n l (entry.Asked c credit) makes other may =
    happened_stays c (Asked credit) l.sender (λ r. refl) (λ r is can.
    absurd (false≢true (sym (not_asked _ r may.0 is) ∙ (and_parts r.requested (not r.blocked) (and_parts (r.requested && not r.blocked) (may_go r.head r.credit) can).0).0)))
entry_stays n l (entry.Granted c credit) makes other may = settled_stays c _
entry_stays n l (entry.Resumed c) makes other may = settled_stays c _

-- ---- histories

pub after_all-append : (l : Ledger) (xs ys : List ReaderEntry) → after_all l (xs ++ ys) ≡ after_all (after_all l xs) ys
after_all-append l [] ys = refl
after_all-append l (x ∷ xs) ys = after_all-append (ledgers.ledger_next l x) xs ys

pub ledger_more : (channels : List ChannelId) (history : List (ℕ × ReaderEntry)) (n : ℕ) (e : ReaderEntry) → ledger_after channels (history ++ (n, e) ∷ []) ≡ ledgers.ledger_next (ledger_after channels history) e
ledger_more channels history n e = ap (replayed channels) (entries_of-append history ((n, e) ∷ [])) ∙ after_all-append (opened channels) (entries_of history) (e ∷ [])

pub head_of_told : (o : Option Reader) → option_map_or (λ r. r.head) o heads.Nothing ≡ option_map_or (λ h. h) (option_map (λ (r : Reader). r.head) o) heads.Nothing
head_of_told None = refl
head_of_told (Some r) = refl

module _ (channels : List ChannelId) where
  history_stays : (done rest : List (ℕ × ReaderEntry)) → IsHistory (MayEnterAs channels) (done ++ rest) → by 0 rest ≡ [] → Stays (ledger_after channels done).sender (ledger_after channels (done ++ rest)).sender
  history_stays done [] legal none = subst (λ h. Stays (ledger_after channels done).sender (ledger_after channels h).sender) (sym (append-nil done)) (stays_same _)
  history_stays done (x ∷ rest) legal none =
      let same : (done ++ x ∷ []) ++ rest ≡ done ++ x ∷ rest = append_assoc done (x ∷ []) rest in
      let may = legal done rest x refl in
      let first : (eqb 0 x.0 ≡ false) × (by 0 rest ≡ []) = first_apart 0 x rest none in
      stays_then _ _ _ (subst (λ (l : Ledger). Stays (ledger_after channels done).sender l.sender) (sym (ledger_more channels done x.0 x.1)) (entry_stays x.0 (ledger_after channels done) x.1 may.0 first.0 may.1))
      (subst (λ h. Stays (ledger_after channels (done ++ x ∷ [])).sender (ledger_after channels h).sender) same
      (history_stays (done ++ x ∷ []) rest (subst (IsHistory (MayEnterAs channels)) (sym same) legal) first.1))

  -- what pass 0 knew before its turn it knows in its turn
  pub record Waited (before now : List (ℕ × ReaderEntry)) : Type 0 where
    pub heads : HeadsStay channels before now
    pub can : (c : ChannelId) → CanSend channels c before → CanSend channels c now

  waited_in : (before rest : List (ℕ × ReaderEntry)) → Stays (ledger_after channels before).sender (ledger_after channels (before ++ rest)).sender → Waited before (before ++ rest)
  waited_in before rest stays =
      let same : HeadsStay channels before (before ++ rest) = λ c.
      head_of_told (reader_of c (ledger_after channels (before ++ rest)).sender.readers) ∙ ap (λ o. option_map_or (λ h. h) o heads.Nothing) (stays.heads c) ∙ sym (head_of_told (reader_of c (ledger_after channels before).sender.readers)) in
      record {
        heads = same;
        can = λ c can. record { first = stays.first c can.first; able = stays.able c can.able; standing = λ none. can.standing (sym (same c) ∙ none) };
      }

  pub waited : (before now : List (ℕ × ReaderEntry)) → IsHistory (MayEnterAs channels) now → StartsWith now before → by 0 now ≡ by 0 before → Waited before now
  waited before now legal starts own =
      let is : before ++ starts.0 ≡ now = sym starts.1 in
      let none : by 0 starts.0 ≡ [] = cancel_nil (by 0 before) (by 0 starts.0) (sym (by-append 0 before starts.0) ∙ ap (by 0) is ∙ own) in
      subst (Waited before) is (waited_in before starts.0 (history_stays before starts.0 (subst (IsHistory (MayEnterAs channels)) starts.1 legal) none))
