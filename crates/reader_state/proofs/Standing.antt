-- What the readers stand for after one more entry, and what a pass then knows of what stands first.
use Rattle.std.proofs.Common.{◌≡◌, ℕ, ◌≤◌, Bool, true, false, cond, eqb, eq-eqb, List, [], ◌∷◌, ◌++◌, Option, Some, None, refl, sym, ap, subst, ◌∙◌, arith}
use Rattle.std.specs.Prelude.{slice_get, IsSome, IfSome, not, ◌&&◌}
use Rattle.std.specs.Option.{option_map, option_map_or, IsSomeAnd}
use Rattle.std.proofs.lemmas.Bool.{cond-true, false≢true, and_parts, ltb-true}
use Rattle.std.proofs.lemmas.Option.{none-some, same_Some, slice_get-map}
use Rattle.flow_defs.specs.declared.task.ChannelId.{ChannelId}
use Rattle.flow_defs.specs.declared.task.Head.{Head}
use Rattle.flow_defs.specs.declared.task.Head.TheVariants.{Nothing, Buffer}
use Rattle.turn_cell.specs.History.{by, entries_of, IsHistory, StartsWith}
use Rattle.turn_cell.specs.Passes.{IsTurnOf, IsSamePass, HasEntered, HasRested, number, seen, mine}
use Rattle.turn_cell.proofs.Histories.{history_more}
use Rattle.credit_reader.specs.declared.reader.Reader.{Reader}
use Rattle.credit_reader.specs.declared.reader.SentKind.{SentKind}
use Rattle.credit_reader.specs.declared.reader.SentKind.TheVariants as kinds
use Rattle.credit_reader.specs.declared.reader.TheConstants.{CREDIT_MAX}
use Rattle.credit_reader.specs.Readers.{Happening, Granted, Resumed, Ready, Sent, Announced, reader_next, can_send, may_go, cost, is_due}
use Rattle.credit_reader.specs.declared.reader.Told.{Told}
use Rattle.credit_reader.specs.Answers.{due_first, told_of}
use Rattle.credit_reader.specs.Senders.{Sender, is_same, is_able, reader_of, after_at}
use Rattle.credit_reader.proofs.Channels.{is_same_self, reader_after}
use Rattle.reader_state.specs.declared.entry.ReaderEntry.{ReaderEntry}
use Rattle.reader_state.specs.declared.entry.ReaderEntry.TheVariants as entry
use Rattle.reader_state.specs.Ledgers as ledgers
use Rattle.reader_state.specs.Ledgers.{Ledger, MayEnter, channels_of, replayed}
use Rattle.reader_state.specs.Standing.{LedgerStandsFor, may_make, MayEnterAs}
use Rattle.reader_state.specs.Turning.{ReaderCell, ReaderPass, channels_in, IsOneOf, IsReaderPass, StandsIn, ledger_after, head_told, CanSend, HeadsStay, HeadsChange}
use Rattle.reader_state.proofs.Channels.{find_there, found_of_key, key_of_found}
use Rattle.reader_state.proofs.Ledgers.{channels_stay, told, told_stays, told_other, settled_keeps}
use Rattle.reader_state.proofs.Waiting.{Waited, waited, ledger_more, head_of_told}

-- ---- one more entry

module _ (l : Ledger) (channels : List ChannelId) (history : List (ℕ × ReaderEntry)) (stands : LedgerStandsFor l history) (fixed : channels_of l ≡ channels) where
  pub ledger_is : l ≡ ledger_after channels history
  ledger_is = stands.replayed ∙ ap (λ cs. ledger_after cs history) fixed

  pub legal_is : IsHistory (MayEnterAs channels) history
  legal_is = subst (λ cs. IsHistory (MayEnterAs cs) history) fixed stands.legal

  pub stands_on : (new : Ledger) (n : ℕ) (e : ReaderEntry) → may_make n e ≡ true → MayEnter l e → new ≡ ledgers.ledger_next l e → LedgerStandsFor new (history ++ (n, e) ∷ []) × (channels_of new ≡ channels)
  stands_on new n e makes may is =
      let names : channels_of new ≡ channels = ap channels_of is ∙ channels_stay l e ∙ fixed in
      let legal : IsHistory (MayEnterAs channels) (history ++ (n, e) ∷ []) = history_more (MayEnterAs channels) history (n, e) legal_is (makes, subst (λ k. MayEnter k e) ledger_is may) in (
        record {
          legal = subst (λ cs. IsHistory (MayEnterAs cs) (history ++ (n, e) ∷ [])) (sym names) legal;
          replayed = is ∙ ap (λ k. ledgers.ledger_next k e) ledger_is ∙ sym (ledger_more channels history n e) ∙ ap (λ cs. ledger_after cs (history ++ (n, e) ∷ [])) (sym names);
        },
        names,
      )

  -- a channel has a reader where it is one of the channels
  pub reader_there : (c : ChannelId) → IsOneOf c channels → (r : Reader) × (reader_of c l.sender.readers ≡ Some r)
  reader_there c one = found_of_key (λ (r : Reader). r.channel) c l.sender.readers one.0 (subst (λ cs. slice_get cs one.0 ≡ Some c) (sym fixed) one.1)

  pub is_one_of : (c : ChannelId) (r : Reader) → reader_of c l.sender.readers ≡ Some r → IsOneOf c channels
  is_one_of c r there = subst (IsOneOf c) fixed (key_of_found (λ (r : Reader). r.channel) c l.sender.readers r there)

-- ---- what was told

pub stay_then : (channels : List ChannelId) (a b d : List (ℕ × ReaderEntry)) → HeadsStay channels a b → HeadsStay channels b d → HeadsStay channels a d
stay_then channels a b d first second c = second c ∙ first c

pub change_then : (channels : List ChannelId) (c : ChannelId) (head : Head) (a b d : List (ℕ × ReaderEntry)) → HeadsStay channels a b → HeadsChange channels c head b d → HeadsChange channels c head a d
change_then channels c head a b d first second = record { told = second.told; others = λ e other. second.others e other ∙ first e }

module _ (channels : List ChannelId) (history : List (ℕ × ReaderEntry)) (n : ℕ) where
  head_by_told : (c : ChannelId) (h : List (ℕ × ReaderEntry)) → head_told channels c h ≡ option_map_or (λ h. h) (told (λ r. r.head) c (ledger_after channels h).sender.readers) Nothing
  head_by_told c h = head_of_told (reader_of c (ledger_after channels h).sender.readers)

  head_after : (c : ChannelId) (e : ReaderEntry) (o : Option Head) → told (λ r. r.head) c (ledgers.ledger_next (ledger_after channels history) e).sender.readers ≡ o → head_told channels c (history ++ (n, e) ∷ []) ≡ option_map_or (λ h. h) o Nothing
  head_after c e o is = head_by_told c (history ++ (n, e) ∷ []) ∙ ap (λ (l : Ledger). option_map_or (λ h. h) (told (λ r. r.head) c l.sender.readers) Nothing) (ledger_more channels history n e) ∙ ap (λ o. option_map_or (λ h. h) o Nothing) is

  head_new : (c : ChannelId) (h : Happening) (rs : List Reader) (r : Reader) → reader_of c rs ≡ Some r → told (λ r. r.head) c (after_at c h rs) ≡ Some (reader_next r h).head
  head_new c h rs r there =
      ap (option_map (λ (r : Reader). r.head)) (reader_after c h c rs ∙ ap (option_map (λ r. cond (is_same c c) (reader_next r h) r)) there)
      ∙ ap (λ b. Some (cond b (reader_next r h) r).head) (is_same_self c)

  pub ready_heads : (c : ChannelId) (head : Head) (backlog : ℕ) (r : Reader) → reader_of c (ledger_after channels history).sender.readers ≡ Some r → HeadsChange channels c head history (history ++ (n, entry.Ready c head backlog) ∷ [])
  ready_heads c head backlog r there =
      let rs = (ledger_after channels history).sender.readers in
      record {
        told = head_after c (entry.Ready c head backlog) (Some head) (head_new c (Ready head backlog) rs r there);
        others = λ d other. head_after d (entry.Ready c head backlog) _ (told_other (λ r. r.head) (Ready head backlog) d c rs other) ∙ sym (head_by_told d history);
      }

  pub sent_heads : (c : ChannelId) (what : SentKind) (head : Head) (backlog : ℕ) (r : Reader) → reader_of c (ledger_after channels history).sender.readers ≡ Some r →
      HeadsChange channels c head history (history ++ (n, entry.Sent c what head backlog) ∷ [])
  sent_heads c what head backlog r there =
      let rs = (ledger_after channels history).sender.readers in
      let keeps : (d : ChannelId) → told (λ r. r.head) d (ledgers.ledger_next (ledger_after channels history) (entry.Sent c what head backlog)).sender.readers ≡ told (λ r. r.head) d (after_at c (Sent what head backlog) rs) = λ d.
      settled_keeps (told (λ r. r.head) d) (λ a m qs. told_stays (λ r. r.head) (Granted m) (λ r. refl) d a qs) (λ a qs. told_stays (λ r. r.head) Resumed (λ r. refl) d a qs) c _ in
      record {
        told = head_after c (entry.Sent c what head backlog) (Some head) (keeps c ∙ head_new c (Sent what head backlog) rs r there);
        others = λ d other. head_after d (entry.Sent c what head backlog) _ (keeps d ∙ told_other (λ r. r.head) (Sent what head backlog) d c rs other) ∙ sym (head_by_told d history);
      }

  pub told_heads : (c : ChannelId) → HeadsStay channels history (history ++ (n, entry.Told c) ∷ [])
  told_heads c d = head_after d (entry.Told c) _ (told_stays (λ r. r.head) Announced (λ r. refl) d c (ledger_after channels history).sender.readers) ∙ sym (head_by_told d history)

-- ---- a turn of the pass that sends

-- what `enter` tells of it
pub record Entered (cell : ReaderCell) (before now : ReaderPass) (l : Ledger) : Type 0 where
  pub was : IsReaderPass cell 0 before
  pub turn : IsTurnOf cell now
  pub same : IsSamePass before now
  pub begins : StartsWith (seen now) (seen before)
  pub stands : LedgerStandsFor l (seen now)
  pub fixed : channels_of l ≡ channels_in cell

pub entered : (cell there : ReaderCell) (before now : ReaderPass) (l state : Ledger) → IsReaderPass cell 0 before → IsTurnOf there now → there ≡ cell → IsSamePass before now → StartsWith (seen now) (seen before)
    → LedgerStandsFor state (seen now) → channels_of state ≡ channels_in there → l ≡ state → Entered cell before now l
entered cell there before now l state was turn is same begins stands fixed of = record {
  was = was;
  turn = subst (λ k. IsTurnOf k now) is turn;
  same = same;
  begins = begins;
  stands = subst (λ k. LedgerStandsFor k (seen now)) (sym of) stands;
  fixed = ap channels_of of ∙ fixed ∙ ap channels_in is;
}

module _ (cell : ReaderCell) (before now : ReaderPass) (l : Ledger) (e : Entered cell before now l) where
  pub own_is : by 0 (seen now) ≡ mine before
  own_is = ap (λ n. by n (seen now)) (sym (e.same.0 ∙ e.was.1)) ∙ e.turn.0.5 ∙ e.same.1

  pub is_sender : eqb (number now) 0 ≡ true
  is_sender = eq-eqb (number now) 0 (e.same.0 ∙ e.was.1)

  pub entered_waited : Waited (channels_in cell) (seen before) (seen now)
  entered_waited =
      let own_before : by 0 (seen before) ≡ mine before = ap (λ n. by n (seen before)) (sym e.was.1) ∙ e.was.0.0.5 in
      waited (channels_in cell) (seen before) (seen now) (legal_is l (channels_in cell) (seen now) e.stands e.fixed) e.begins (own_is ∙ sym own_before)

  pub entered_ledger : l ≡ ledger_after (channels_in cell) (seen now)
  entered_ledger = ledger_is l (channels_in cell) (seen now) e.stands e.fixed

  entered_reader : (c : ChannelId) (r : Reader) → reader_of c l.sender.readers ≡ Some r → reader_of c (ledger_after (channels_in cell) (seen now)).sender.readers ≡ Some r
  entered_reader c r there = subst (λ (k : Ledger). reader_of c k.sender.readers ≡ Some r) entered_ledger there

  pub ready_told : (c : ChannelId) (head : Head) (backlog : ℕ) (after : ReaderPass) (r : Reader) → reader_of c l.sender.readers ≡ Some r → HasEntered (entry.Ready c head backlog) now after → HeadsChange (channels_in cell) c head (seen before) (seen after)
  ready_told c head backlog after r there has =
      subst (HeadsChange (channels_in cell) c head (seen before)) (sym has.1)
      (change_then (channels_in cell) c head (seen before) (seen now) _ entered_waited.heads (ready_heads (channels_in cell) (seen now) (number now) c head backlog r (entered_reader c r there)))

  pub sent_told : (c : ChannelId) (what : SentKind) (head : Head) (backlog : ℕ) (after : ReaderPass) (r : Reader) → reader_of c l.sender.readers ≡ Some r → HasEntered (entry.Sent c what head backlog) now after
      → HeadsChange (channels_in cell) c head (seen before) (seen after)
  sent_told c what head backlog after r there has =
      subst (HeadsChange (channels_in cell) c head (seen before)) (sym has.1)
      (change_then (channels_in cell) c head (seen before) (seen now) _ entered_waited.heads (sent_heads (channels_in cell) (seen now) (number now) c what head backlog r (entered_reader c r there)))

  pub backlog_told : (c : ChannelId) (after : ReaderPass) → HasEntered (entry.Told c) now after → HeadsStay (channels_in cell) (seen before) (seen after)
  backlog_told c after has =
      subst (HeadsStay (channels_in cell) (seen before)) (sym has.1) (stay_then (channels_in cell) (seen before) (seen now) (seen now ++ (number now, entry.Told c) ∷ []) entered_waited.heads (told_heads (channels_in cell) (seen now) (number now) c))

  pub rested_told : (after : ReaderPass) → HasRested now after → HeadsStay (channels_in cell) (seen before) (seen after)
  rested_told after has = subst (HeadsStay (channels_in cell) (seen before)) (sym has.1) entered_waited.heads

  pub stands_then : (there : ReaderCell) (new : Ledger) (x : ReaderEntry) → there ≡ cell → may_make (number now) x ≡ true → MayEnter l x → new ≡ ledgers.ledger_next l x → StandsIn there (seen now ++ (number now, x) ∷ []) new
  stands_then there new x is makes may becomes =
      subst (λ k. StandsIn k (seen now ++ (number now, x) ∷ []) new) (sym is) (stands_on l (channels_in cell) (seen now) e.stands e.fixed new (number now) x makes may becomes)

  -- who is first in the queue and able can send
  pub first_can : (c : ChannelId) → slice_get l.sender.queue 0 ≡ Some c → is_able c l.sender.readers ≡ true → CanSend (channels_in cell) c (seen now)
  first_can c first able = subst (λ (k : Ledger). (slice_get k.sender.queue 0 ≡ Some c) → (is_able c k.sender.readers ≡ true) → CanSend (channels_in cell) c (seen now)) (sym entered_ledger)
      (λ first able. record { first = first; able = able; standing = λ none. stands_first (reader_of c (ledger_after (channels_in cell) (seen now)).sender.readers) able none }) first able
    where
      stands_first : (o : Option Reader) → option_map_or can_send o false ≡ true → option_map_or (λ r. r.head) o Nothing ≡ Nothing → ⊥
      stands_first None able none = false≢true able
      stands_first (Some r) able none =
          let parts = and_parts (r.requested && not r.blocked) (may_go r.head r.credit) able in
          false≢true (sym (ap (λ h. may_go h r.credit) none) ∙ parts.1)

  -- and is one of the channels
  pub able_is_one : (c : ChannelId) → is_able c l.sender.readers ≡ true → IsOneOf c (channels_in cell)
  able_is_one c able =
      elim (reader_of c l.sender.readers) as (λ o. reader_of c l.sender.readers ≡ o → option_map_or can_send o false ≡ true → IsOneOf c (channels_in cell)) [
        | None ↦ λ is can. absurd (false≢true can)
        | Some r ↦ λ is can. is_one_of l (channels_in cell) (seen now) e.stands e.fixed c r is
      ] refl able

  -- what may be sent: what was told to stand first before the turn stands there still, and what costs credit has it
  pub may_send : (c : ChannelId) (what : SentKind) (head : Head) (backlog : ℕ) → CanSend (channels_in cell) c (seen before) → (cost what ≡ 1 → head_told (channels_in cell) c (seen before) ≡ Buffer) → backlog ≤ CREDIT_MAX →
      MayEnter l (entry.Sent c what head backlog)
  may_send c what head backlog can kind fits =
      let still = entered_waited.can c can in
      let stood : cost what ≡ 1 → head_told (channels_in cell) c (seen now) ≡ Buffer = λ is. entered_waited.heads c ∙ kind is in
      subst (λ k. MayEnter k (entry.Sent c what head backlog)) (sym entered_ledger) (still.first, has_credit (reader_of c (ledger_after (channels_in cell) (seen now)).sender.readers) what still.able stood, fits)
    where
      may_cost : (what : SentKind) (r : Reader) → can_send r ≡ true → (cost what ≡ 1 → r.head ≡ Buffer) → cost what ≤ r.credit
      may_cost kinds.Buffer r can stood =
          let parts = and_parts (r.requested && not r.blocked) (may_go r.head r.credit) can in
          let some = ltb-true 0 r.credit (sym (ap (λ h. may_go h r.credit) (stood refl)) ∙ parts.1) in omega (arith, some)
      may_cost kinds.Inline r can stood = omega arith
      may_cost kinds.Front r can stood = omega arith
      may_cost kinds.End r can stood = omega arith

      has_credit : (o : Option Reader) (what : SentKind) → option_map_or can_send o false ≡ true → (cost what ≡ 1 → option_map_or (λ r. r.head) o Nothing ≡ Buffer) → IsSomeAnd o (λ r. cost what ≤ r.credit)
      has_credit None what can stood = absurd (false≢true can)
      has_credit (Some r) what can stood = may_cost what r can stood

  pub able_there : (c : ChannelId) → CanSend (channels_in cell) c (seen before) → (r : Reader) × (reader_of c l.sender.readers ≡ Some r)
  able_there c can =
      let able : is_able c l.sender.readers ≡ true = subst (λ (k : Ledger). is_able c k.sender.readers ≡ true) (sym entered_ledger) (entered_waited.can c can).able in
      reader_there l (channels_in cell) (seen now) e.stands e.fixed c (able_is_one c able)

  -- an announcement that is due is of one of the channels
  pub due_is_one : (told : Told) → Some told ≡ option_map told_of (due_first l.sender) → IsOneOf told.channel (channels_in cell)
  due_is_one told is = elim (due_first l.sender) as (λ o. due_first l.sender ≡ o → Some told ≡ option_map told_of o → IsOneOf told.channel (channels_in cell)) [
    | None ↦ λ due is. absurd (none-some _ (sym is))
    | Some r ↦ λ due is.
        let there = find_there is_due l.sender.readers r due in
        let here : r.channel ≡ told.channel = ap (λ (t : Told). t.channel) (sym (same_Some _ _ is)) in
        let at : slice_get (channels_of l) there.0 ≡ Some told.channel = slice_get-map (λ (r : Reader). r.channel) l.sender.readers there.0 ∙ ap (option_map (λ (r : Reader). r.channel)) there.1 ∙ ap Some here in
        subst (IsOneOf told.channel) e.fixed (there.0, at)
  ] refl is

-- an announcement that is due may be made
pub due_may : (o : Option Reader) (told : Told) → Some told ≡ option_map told_of o → IsSomeAnd o (λ r. r.channel ≡ told.channel)
due_may None told is = absurd (none-some _ (sym is))
due_may (Some r) told is = ap (λ (t : Told). t.channel) (sym (same_Some _ _ is))

-- what holds of the first of a queue, of an answer that is it
pub of_first : (P : ChannelId → Type 0) (rs : List Reader) (queue : List ChannelId) (answer : Option ChannelId) → answer ≡ slice_get queue 0 → IfSome answer (λ c. is_able c rs ≡ true)
    → ((c : ChannelId) → slice_get queue 0 ≡ Some c → is_able c rs ≡ true → P c) → IfSome answer P
of_first P rs queue None is able then = tt
of_first P rs queue (Some c) is able then = then c (sym is) able

-- ---- a turn with a message

pub stands_message : (there : ReaderCell) (state l new : Ledger) (history : List (ℕ × ReaderEntry)) (n : ℕ) (x : ReaderEntry) → StandsIn there history state → l ≡ state → may_make n x ≡ true → MayEnter l x → new ≡ ledgers.ledger_next l x →
    StandsIn there (history ++ (n, x) ∷ []) new
stands_message there state l new history n x stands is makes may becomes =
    let now = subst (λ k. StandsIn there history k) (sym is) stands in
    stands_on l (channels_in there) history now.0 now.1 new n x makes may becomes

-- the ledger after the turn's history
pub ledger_of : (cell there : ReaderCell) (l : Ledger) (history : List (ℕ × ReaderEntry)) → StandsIn there history l → there ≡ cell → l ≡ ledger_after (channels_in cell) history
ledger_of cell there l history stands is = ledger_is l (channels_in cell) history stands.0 (stands.1 ∙ ap channels_in is)
