-- What covers what was sent on a channel, over every legal history.
use Rattle.std.proofs.Common.{◌≡◌, ℕ, ◌+◌, ◌-◌, ◌≤◌, Bool, true, false, not, cond, zero, suc, List, [], ◌∷◌, ◌++◌, map, Option, Some, None, refl, sym, ap, subst, ◌∙◌, arith, ◌&&◌}
use Rattle.std.specs.Prelude.{count_by, find, min, slice_get, ◌||◌}
use Rattle.std.specs.List.{list_any}
use Rattle.std.specs.Option.{option_map_or, IsSomeAnd}
use Rattle.std.proofs.lemmas.Bool.{and_parts, false≢true, cond-true}
use Rattle.std.proofs.lemmas.List.Sums.{sum_by-cons}
use Rattle.std.proofs.lemmas.Option.{none-some, same_Some}
use Rattle.turn_cell.specs.History.{entries_of}
use Rattle.turn_cell.proofs.Histories.{history_keeps, entries_of-append}
use Rattle.flow_defs.specs.declared.task.ChannelId.{ChannelId}
use Rattle.flow_defs.specs.declared.task.Head.{Head}
use Rattle.credit_reader.specs.declared.reader.Reader.{Reader}
use Rattle.credit_reader.specs.declared.reader.SentKind.{SentKind}
use Rattle.credit_reader.specs.declared.reader.SentKind.TheVariants as kinds
use Rattle.credit_reader.specs.Readers.{fresh, Happening, Asked, Granted, Resumed, Ready, Sent, Announced, reader_next, can_send, may_go, cost, blocks}
use Rattle.credit_reader.specs.Senders.{Sender, is_same, is_able, has_sent, reader_of}
use Rattle.credit_reader.proofs.Channels.{is_same_self, is_same_of, same_channel}
use Rattle.reader_state.specs.declared.state.Early.{Early}
use Rattle.reader_state.specs.declared.entry.ReaderEntry.{ReaderEntry}
use Rattle.reader_state.specs.declared.entry.ReaderEntry.TheVariants as entry
use Rattle.reader_state.specs.Ledgers as ledgers
use Rattle.reader_state.specs.Ledgers.{Ledger, KEPT_MAX, MayEnter, early_of, none_early, opened, after_all, channels_of, with_reader, ended_by, is_end, is_requested, with_early, settled}
use Rattle.reader_state.specs.Standing.{MayEnterAs, sent_on, credit_on, resumptions_on}
use Rattle.reader_state.specs.Theorems.{IsLegal, HasParts, is_data}
use Rattle.reader_state.specs.Turning.{IsOneOf, ledger_after}
use Rattle.reader_state.proofs.Ledgers.{channels_stay}
use Rattle.reader_state.proofs.Waiting.{ledger_more}
use Rattle.reader_state.proofs.Numbering.{fresh_there}
use Rattle.reader_state.proofs.Opening.{fresh_names}
use Rattle.reader_state.proofs.Channels.{key_of_found}
use Rattle.reader_state.proofs.Telling.{sent_on-append, credit_on-append, resumptions_on-append}
use Rattle.reader_state.proofs.Queueing.{Queued, one_if, first_able, turned_other, entry_queued, opened_queued}
use Rattle.reader_state.proofs.Parts.{reader_own, reader_other, early_own, early_other, settled_own, settled_other}

-- ---- what is counted

abbrev data_on : ChannelId → List ReaderEntry → ℕ
data_on c es = count_by is_data (sent_on c es)

abbrev barriers_on : ChannelId → List ReaderEntry → ℕ
barriers_on c es = count_by blocks (sent_on c es)

abbrev has_end : ChannelId → List ReaderEntry → Bool
has_end c es = list_any is_end (sent_on c es)

count-append : (p : SentKind → Bool) (xs ys : List SentKind) → count_by p (xs ++ ys) ≡ count_by p xs + count_by p ys
count-append p [] ys = omega arith
count-append p (x ∷ xs) ys = omega (arith, sum_by-cons (λ k. one_if (p k)) x (xs ++ ys), sum_by-cons (λ k. one_if (p k)) x xs, count-append p xs ys)

or_assoc : (a b d : Bool) → a || (b || d) ≡ (a || b) || d
or_assoc true b d = refl
or_assoc false b d = refl

any-append : (p : SentKind → Bool) (xs ys : List SentKind) → list_any p (xs ++ ys) ≡ list_any p xs || list_any p ys
any-append p [] ys = refl
any-append p (x ∷ xs) ys = ap (λ b. p x || b) (any-append p xs ys) ∙ or_assoc (p x) (list_any p xs) (list_any p ys)

-- ---- the invariant

pub record Covers (c : ChannelId) (es : List ReaderEntry) (l : Ledger) : Type 0 where
  pub reader : Reader
  pub early : Early
  pub reader_is : reader_of c l.sender.readers ≡ Some reader
  pub early_is : early_of c l ≡ Some early
  pub bare : reader.requested ≡ false → reader.credit ≡ 0
  pub covered : data_on c es + reader.credit + early.credit ≤ credit_on c es
  pub exact : credit_on c es ≤ KEPT_MAX → data_on c es + reader.credit + early.credit ≡ credit_on c es
  pub barriers : barriers_on c es + early.resumptions ≤ resumptions_on c es + one_if reader.blocked
  pub ended : early.ended ≡ has_end c es

module _ (c : ChannelId) (es : List ReaderEntry) (l : Ledger) (old : Covers c es l) where
  -- the parts after an entry, as they have to be to those before it
  record Goes (x : ReaderEntry) (new : Ledger) : Type 0 where
    reader : Reader
    early : Early
    reader_is : reader_of c new.sender.readers ≡ Some reader
    early_is : early_of c new ≡ Some early
    bare : reader.requested ≡ false → reader.credit ≡ 0
    credit : data_on c (x ∷ []) + reader.credit + early.credit ≤ old.reader.credit + old.early.credit + credit_on c (x ∷ [])
    exact : old.reader.credit + old.early.credit + credit_on c (x ∷ []) ≤ KEPT_MAX → data_on c (x ∷ []) + reader.credit + early.credit ≡ old.reader.credit + old.early.credit + credit_on c (x ∷ [])
    resumptions : barriers_on c (x ∷ []) + early.resumptions + one_if old.reader.blocked ≤ old.early.resumptions + resumptions_on c (x ∷ []) + one_if reader.blocked
    ended : early.ended ≡ old.early.ended || has_end c (x ∷ [])

  covers_more : (x : ReaderEntry) (new : Ledger) → Goes x new → Covers c (es ++ x ∷ []) new
  covers_more x new g =
      let sum : data_on c (es ++ x ∷ []) ≡ data_on c es + data_on c (x ∷ []) = ap (count_by is_data) (sent_on-append c es (x ∷ [])) ∙ count-append is_data (sent_on c es) (sent_on c (x ∷ [])) in
      let inline : barriers_on c (es ++ x ∷ []) ≡ barriers_on c es + barriers_on c (x ∷ []) = ap (count_by blocks) (sent_on-append c es (x ∷ [])) ∙ count-append blocks (sent_on c es) (sent_on c (x ∷ [])) in
      let came = credit_on-append c es (x ∷ []) in
      let resumed = resumptions_on-append c es (x ∷ []) in
      record {
        reader = g.reader;
        early = g.early;
        reader_is = g.reader_is;
        early_is = g.early_is;
        bare = g.bare;
        covered = omega (arith, sum, came, old.covered, g.credit);
        exact = λ fits.
            let before = old.exact (omega (arith, came, fits)) in
            let here = g.exact (omega (arith, came, fits, before)) in
            omega (arith, sum, came, before, here);
        barriers = omega (arith, inline, resumed, old.barriers, g.resumptions);
        ended = g.ended ∙ ap (λ b. b || has_end c (x ∷ [])) old.ended ∙ sym (ap (list_any is_end) (sent_on-append c es (x ∷ [])) ∙ any-append is_end (sent_on c es) (sent_on c (x ∷ [])));
      }

  or_none : (b : Bool) → b ≡ b || false
  or_none true = refl
  or_none false = refl

  -- an entry that tells nothing of the channel, and leaves credit and the block of its reader
  quiet : (x : ReaderEntry) (new : Ledger) (r : Reader) → reader_of c new.sender.readers ≡ Some r → early_of c new ≡ Some old.early → r.requested ≡ old.reader.requested → r.credit ≡ old.reader.credit → r.blocked ≡ old.reader.blocked
      → sent_on c (x ∷ []) ≡ [] → credit_on c (x ∷ []) ≡ 0 → resumptions_on c (x ∷ []) ≡ 0 → Goes x new
  quiet x new r reader_is early_is requested credit blocked sent came resumed =
      let sum : data_on c (x ∷ []) ≡ 0 = ap (count_by is_data) sent in
      let inline : barriers_on c (x ∷ []) ≡ 0 = ap (count_by blocks) sent in
      let block : one_if r.blocked ≡ one_if old.reader.blocked = ap one_if blocked in
      record {
        reader = r;
        early = old.early;
        reader_is = reader_is;
        early_is = early_is;
        bare = λ none. credit ∙ old.bare (sym requested ∙ none);
        credit = omega (arith, sum, credit, came);
        exact = λ fits. omega (arith, sum, credit, came);
        resumptions = omega (arith, inline, resumed, block);
        ended = or_none old.early.ended ∙ ap (λ ks. old.early.ended || list_any is_end ks) (sym sent);
      }

  -- ---- each entry

  other_sent : (d : ChannelId) (what : SentKind) (head : Head) (backlog : ℕ) → is_same c d ≡ false → sent_on c (entry.Sent d what head backlog ∷ []) ≡ []
  other_sent d what head backlog other = ap (λ b. cond b (what ∷ []) []) (turned_other c d other)

  none_of : (n : ℕ) (d : ChannelId) → is_same c d ≡ false → cond (is_same d c) (n + 0) 0 ≡ 0
  none_of n d other = let is : cond (is_same d c) (n + 0) 0 ≡ cond false (n + 0) 0 = ap (λ b. cond b (n + 0) 0) (turned_other c d other) in is

  all_of : (n : ℕ) → cond (is_same c c) (n + 0) 0 ≡ n
  all_of n = let is : cond (is_same c c) (n + 0) 0 ≡ n + 0 = cond-true _ _ _ (is_same_self c) in omega (arith, is)

  own_sent : (what : SentKind) (head : Head) (backlog : ℕ) → sent_on c (entry.Sent c what head backlog ∷ []) ≡ what ∷ []
  own_sent what head backlog = cond-true _ _ _ (is_same_self c)

  -- an entry of another channel
  apart : (x : ReaderEntry) (new : Ledger) → reader_of c new.sender.readers ≡ reader_of c l.sender.readers → early_of c new ≡ early_of c l → sent_on c (x ∷ []) ≡ [] → credit_on c (x ∷ []) ≡ 0 → resumptions_on c (x ∷ []) ≡ 0 → Goes x new
  apart x new reader_same early_same = quiet x new old.reader (reader_same ∙ old.reader_is) (early_same ∙ old.early_is) refl refl refl

  -- what a reader that can send is
  sends : is_able c l.sender.readers ≡ true → (old.reader.requested ≡ true) × (one_if old.reader.blocked ≡ 0)
  sends able =
      let can : can_send old.reader ≡ true = ap (λ o. option_map_or can_send o false) (sym old.reader_is) ∙ able in
      let parts = and_parts old.reader.requested (not old.reader.blocked) (and_parts (old.reader.requested && not old.reader.blocked) (may_go old.reader.head old.reader.credit) can).0 in
      (parts.0, unblocked old.reader.blocked parts.1)
    where
      unblocked : (b : Bool) → not b ≡ true → one_if b ≡ 0
      unblocked true is = absurd (false≢true is)
      unblocked false is = refl

  cost_is : (what : SentKind) → count_by is_data (what ∷ []) ≡ cost what
  cost_is kinds.Buffer = refl
  cost_is kinds.Inline = refl
  cost_is kinds.Front = refl
  cost_is kinds.End = refl

  or_last : (b : Bool) → b ≡ b || false
  or_last true = refl
  or_last false = refl

  goes_sent : (what : SentKind) (head : Head) (backlog : ℕ) → MayEnter l (entry.Sent c what head backlog) → is_able c l.sender.readers ≡ true → Goes (entry.Sent c what head backlog) (ledgers.ledger_next l (entry.Sent c what head backlog))
  goes_sent what head backlog may able =
      let h = Sent what head backlog in
      let k : Ledger = record l { sender = has_sent c what head backlog l.sender } in
      let m = settled_own c (with_early c (ended_by what) k) (reader_next old.reader h) (ended_by what old.early) (reader_own c h l.sender.readers old.reader old.reader_is) (early_own (ended_by what) (λ e. refl) c k old.early old.early_is) in
      let can = sends able in let asked = can.0 in let unblocked = can.1 in
      let fits : cost what ≤ old.reader.credit = subst (λ o. IsSomeAnd o (λ r. cost what ≤ r.credit)) old.reader_is may.1 in
      let sum : data_on c (entry.Sent c what head backlog ∷ []) ≡ cost what = ap (count_by is_data) (own_sent what head backlog) ∙ cost_is what in
      let inline : barriers_on c (entry.Sent c what head backlog ∷ []) ≡ one_if (blocks what) = ap (count_by blocks) (own_sent what head backlog) ∙ sum_by-cons (λ q. one_if (blocks q)) what [] ∙ (let z : one_if (blocks what) + 0 ≡ one_if (blocks what) = omega arith in z) in
      let moved : m.reader.credit + m.early.credit ≡ (old.reader.credit - cost what) + old.early.credit = m.credit in
      let given : m.early.resumptions + one_if (blocks what) ≡ old.early.resumptions + one_if m.reader.blocked = m.resumptions in
      record {
        reader = m.reader;
        early = m.early;
        reader_is = m.reader_is;
        early_is = m.early_is;
        bare = λ none. absurd (false≢true (sym none ∙ m.requested ∙ asked));
        credit = omega (arith, sum, moved, fits);
        exact = λ little. omega (arith, sum, moved, fits);
        resumptions = omega (arith, inline, given, unblocked);
        ended = m.ended ∙ ap (λ b. old.early.ended || b) (or_last (is_end what)) ∙ ap (λ ks. old.early.ended || list_any is_end ks) (sym (own_sent what head backlog));
      }

  goes_asked : (n : ℕ) → MayEnter l (entry.Asked c n) → Goes (entry.Asked c n) (ledgers.ledger_next l (entry.Asked c n))
  goes_asked n may =
      let asked : old.reader.requested ≡ false = subst (λ o. IsSomeAnd o (λ r. r.requested ≡ false)) old.reader_is may.0 in
      let none = old.bare asked in let came = all_of n in
      record {
        reader = reader_next old.reader (Asked n);
        early = old.early;
        reader_is = reader_own c (Asked n) l.sender.readers old.reader old.reader_is;
        early_is = old.early_is;
        bare = λ no. absurd (false≢true (sym no));
        credit = omega (arith, none, came);
        exact = λ little. omega (arith, none, came);
        resumptions = omega arith;
        ended = or_last old.early.ended;
      }

  asked_now : is_requested c l ≡ true → old.reader.requested ≡ true
  asked_now is = ap (λ o. option_map_or (λ (r : Reader). r.requested) o false) (sym old.reader_is) ∙ is

  goes_granted : (n : ℕ) → MayEnter l (entry.Granted c n) → Goes (entry.Granted c n) (ledgers.ledger_next l (entry.Granted c n))
  goes_granted n may =
      let f : Early → Early = λ e. record e { credit = min (e.credit + n) KEPT_MAX } in
      let m = settled_own c (with_early c f l) old.reader (f old.early) old.reader_is (early_own f (λ e. refl) c l old.early old.early_is) in
      let asked = asked_now may.0 in let came = all_of n in
      let moved : m.reader.credit + m.early.credit ≡ old.reader.credit + min (old.early.credit + n) 18446744073709551615 = m.credit in
      let given : m.early.resumptions + one_if old.reader.blocked ≡ old.early.resumptions + one_if m.reader.blocked = m.resumptions in
      record {
        reader = m.reader;
        early = m.early;
        reader_is = m.reader_is;
        early_is = m.early_is;
        bare = λ none. absurd (false≢true (sym none ∙ m.requested ∙ asked));
        credit = omega (arith, moved, came);
        exact = λ little. omega (arith, moved, came, little);
        resumptions = omega (arith, given);
        ended = m.ended ∙ or_last old.early.ended;
      }

  goes_resumed : MayEnter l (entry.Resumed c) → Goes (entry.Resumed c) (ledgers.ledger_next l (entry.Resumed c))
  goes_resumed may =
      let f : Early → Early = λ e. record e { resumptions = min (e.resumptions + 1) KEPT_MAX } in
      let m = settled_own c (with_early c f l) old.reader (f old.early) old.reader_is (early_own f (λ e. refl) c l old.early old.early_is) in
      let asked = asked_now may in let came = all_of 1 in
      let moved : m.reader.credit + m.early.credit ≡ old.reader.credit + old.early.credit = m.credit in
      let given : m.early.resumptions + one_if old.reader.blocked ≡ min (old.early.resumptions + 1) 18446744073709551615 + one_if m.reader.blocked = m.resumptions in
      record {
        reader = m.reader;
        early = m.early;
        reader_is = m.reader_is;
        early_is = m.early_is;
        bare = λ none. absurd (false≢true (sym none ∙ m.requested ∙ asked));
        credit = omega (arith, moved);
        exact = λ little. omega (arith, moved);
        resumptions = omega (arith, given, came);
        ended = m.ended ∙ or_last old.early.ended;
      }

  -- what an entry of this channel comes to, and so that of any
  by_channel : (d : ChannelId) (X : ChannelId → ReaderEntry) → (MayEnter l (X c) → Goes (X c) (ledgers.ledger_next l (X c))) → (is_same c d ≡ false → Goes (X d) (ledgers.ledger_next l (X d))) → MayEnter l (X d) → Goes (X d) (ledgers.ledger_next l (X d))
  by_channel d X own other may =
      elim (is_same c d) as (λ b. is_same c d ≡ b → Goes (X d) (ledgers.ledger_next l (X d))) [
        | true ↦ λ same. subst (λ z. MayEnter l (X z) → Goes (X z) (ledgers.ledger_next l (X z))) (same_channel c d same) own may
        | false ↦ other
      ] refl

  goes_quiet : (h : Happening) (x : ReaderEntry) → (reader_next old.reader h).requested ≡ old.reader.requested → (reader_next old.reader h).credit ≡ old.reader.credit → (reader_next old.reader h).blocked ≡ old.reader.blocked →
      sent_on c (x ∷ []) ≡ [] → credit_on c (x ∷ []) ≡ 0 → resumptions_on c (x ∷ []) ≡ 0 → Goes x (with_reader c h l)
  goes_quiet h x requested credit blocked = quiet x (with_reader c h l) (reader_next old.reader h) (reader_own c h l.sender.readers old.reader old.reader_is) old.early_is requested credit blocked

  goes : (x : ReaderEntry) → MayEnter l x → Queued l.sender → Goes x (ledgers.ledger_next l x)
  goes (entry.Ready d head backlog) may queued = by_channel d (λ z. entry.Ready z head backlog)
      (λ own. goes_quiet (Ready head backlog) (entry.Ready c head backlog) refl refl refl refl refl refl)
      (λ other. apart (entry.Ready d head backlog) _ (reader_other c d (Ready head backlog) l.sender.readers other) refl refl refl refl) may
  goes (entry.Sent d what head backlog) may queued = by_channel d (λ z. entry.Sent z what head backlog)
      (λ own. goes_sent what head backlog own (first_able c l.sender queued own.0))
      (λ other.
      let k : Ledger = record l { sender = has_sent d what head backlog l.sender } in
      let settles = settled_other c d (with_early d (ended_by what) k) other in
      apart (entry.Sent d what head backlog) _ (settles.0 ∙ reader_other c d (Sent what head backlog) l.sender.readers other) (settles.1 ∙ early_other (ended_by what) (λ e. refl) c d k other) (other_sent d what head backlog other) refl refl) may
  goes (entry.Told d) may queued = by_channel d (λ z. entry.Told z)
      (λ own. goes_quiet Announced (entry.Told c) refl refl refl refl refl refl)
      (λ other. apart (entry.Told d) _ (reader_other c d Announced l.sender.readers other) refl refl refl refl) may
  goes (entry.Asked d n) may queued = by_channel d (λ z. entry.Asked z n) (goes_asked n)
      (λ other. apart (entry.Asked d n) _ (reader_other c d (Asked n) l.sender.readers other) refl refl (none_of n d other) refl) may
  goes (entry.Granted d n) may queued = by_channel d (λ z. entry.Granted z n) (goes_granted n)
      (λ other.
      let settles = settled_other c d (with_early d (λ e. record e { credit = min (e.credit + n) KEPT_MAX }) l) other in
      apart (entry.Granted d n) _ settles.0 (settles.1 ∙ early_other (λ e. record e { credit = min (e.credit + n) KEPT_MAX }) (λ e. refl) c d l other) refl (none_of n d other) refl) may
  goes (entry.Resumed d) may queued = by_channel d (λ z. entry.Resumed z) goes_resumed
      (λ other.
      let settles = settled_other c d (with_early d (λ e. record e { resumptions = min (e.resumptions + 1) KEPT_MAX }) l) other in
      apart (entry.Resumed d) _ settles.0 (settles.1 ∙ early_other (λ e. record e { resumptions = min (e.resumptions + 1) KEPT_MAX }) (λ e. refl) c d l other) refl refl (none_of 1 d other)) may

  pub entry_covers : (x : ReaderEntry) → MayEnter l x → Queued l.sender → Covers c (es ++ x ∷ []) (ledgers.ledger_next l x)
  entry_covers x may queued = covers_more x (ledgers.ledger_next l x) (goes x may queued)

-- ---- every legal history

early_there : (c : ChannelId) (channels : List ChannelId) (k : ℕ) → slice_get channels k ≡ Some c → find (λ (e : Early). is_same e.channel c) (map none_early channels) ≡ Some (none_early c)
early_there c [] k is = absurd (none-some _ is)
early_there c (d ∷ channels) zero is = let same : d ≡ c = same_Some _ _ is in cond-true _ _ _ (is_same_of d c same) ∙ ap (λ e. Some (none_early e)) same
early_there c (d ∷ channels) (suc k) is =
    elim (is_same d c) as (λ b. is_same d c ≡ b → cond b (Some (none_early d)) (find (λ (e : Early). is_same e.channel c) (map none_early channels)) ≡ Some (none_early c)) [
      | true ↦ λ same. ap (λ e. Some (none_early e)) (same_channel d c same)
      | false ↦ λ other. early_there c channels k is
    ] refl

opened_covers : (c : ChannelId) (channels : List ChannelId) → IsOneOf c channels → Covers c [] (opened channels)
opened_covers c channels one = record {
  reader = fresh c;
  early = none_early c;
  reader_is = fresh_there c channels one.0 one.1;
  early_is = early_there c channels one.0 one.1;
  bare = λ no. refl;
  covered = omega arith;
  exact = λ fits. refl;
  barriers = omega arith;
  ended = refl;
}

module _ (channels : List ChannelId) (history : List (ℕ × ReaderEntry)) (c : ChannelId) (legal : IsLegal channels history) where
  pub covers : IsOneOf c channels → Covers c (entries_of history) (ledger_after channels history)
  covers one = (history_keeps (MayEnterAs channels) (λ h. Queued (ledger_after channels h).sender × Covers c (entries_of h) (ledger_after channels h)) (opened_queued channels, opened_covers c channels one)
      (λ h x both may.
      let l = ledger_after channels h in
      let grown : ledger_after channels (h ++ x ∷ []) ≡ ledgers.ledger_next l x.1 = ledger_more channels h x.0 x.1 in (
        subst (λ (k : Ledger). Queued k.sender) (sym grown) (entry_queued l x.1 may.1 both.0),
        subst (λ k. Covers c (entries_of (h ++ x ∷ [])) k) (sym grown) (subst (λ xs. Covers c xs (ledgers.ledger_next l x.1)) (sym (entries_of-append h (x ∷ []))) (entry_covers c (entries_of h) l both.1 x.1 may.1 both.0)),
      )) history legal).1

  names_after : (l : Ledger) (es : List ReaderEntry) → channels_of (after_all l es) ≡ channels_of l
  names_after l [] = refl
  names_after l (x ∷ es) = names_after (ledgers.ledger_next l x) es ∙ channels_stay l x

  pub one_of_parts : (r : Reader) → reader_of c (ledger_after channels history).sender.readers ≡ Some r → IsOneOf c channels
  one_of_parts r is = subst (IsOneOf c) (names_after (opened channels) (entries_of history) ∙ fresh_names channels) (key_of_found (λ (r : Reader). r.channel) c (ledger_after channels history).sender.readers r is)

  -- a law of the parts that cover
  pub of_parts : (P : ChannelId → List ReaderEntry → Reader → Early → Type 0) → ((v : Covers c (entries_of history) (ledger_after channels history)) → P c (entries_of history) v.reader v.early) → (r : Reader) (e : Early) → HasParts channels history c r e
      → P c (entries_of history) r e
  of_parts P law r e parts =
      let v = covers (one_of_parts r parts.reader_is) in
      let reader_same : v.reader ≡ r = same_Some _ _ (sym v.reader_is ∙ parts.reader_is) in
      let early_same : v.early ≡ e = same_Some _ _ (sym v.early_is ∙ parts.early_is) in
      subst (λ x. P c (entries_of history) x e) reader_same (subst (P c (entries_of history) v.reader) early_same (law v))
