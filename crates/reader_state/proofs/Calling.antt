-- What the calls of the readers come to.
use Rattle.std.proofs.Common.{◌≡◌, ℕ, ◌+◌, ◌-◌, ◌<◌, ◌≤◌, ◌⊎◌, Bool, true, false, cond, eqb, List, [], ◌∷◌, map, get_or, set, Option, Some, None, refl, sym, ap, subst, ◌∙◌, arith, inl, inr}
use Rattle.std.specs.Prelude.{Result, Ok, Err, OnOk, OnErr, IfErr, IfNone, min}
use Rattle.std.specs.Option.{option_map, option_map_or}
use Rattle.std.proofs.lemmas.Bool.{cases_lt, cond-true, false≢true, and_parts}
use Rattle.flow_defs.specs.declared.task.ChannelId.{ChannelId}
use Rattle.flow_defs.specs.declared.cause.PeerFault.{PeerFault}
use Rattle.flow_defs.specs.declared.cause.PeerFault.TheVariants as peer
use Rattle.credit_reader.specs.declared.reader.Reader.{Reader}
use Rattle.credit_reader.specs.Readers.{Granted}
use Rattle.credit_reader.specs.Senders.{Sender, is_same, reader_of}
use Rattle.credit_reader.proofs.Channels.{is_same_self}
use Rattle.reader_state.specs.declared.state.Early.{Early}
use Rattle.reader_state.specs.declared.state.Kept.{Kept}
use Rattle.reader_state.specs.declared.entry.ReaderEntry.{ReaderEntry}
use Rattle.reader_state.specs.Ledgers.{Ledger, early_of, with_early, with_reader, fitting, credit_given, is_requested, settled, ledger_next, MayEnter}
use Rattle.reader_state.specs.Settling.{alone, put_at, IsEarlyKept, Took}
use Rattle.reader_state.specs.Turning.{IsRefused}
use Rattle.reader_state.proofs.Ledgers.{asked_credit}
use Rattle.reader_state.proofs.Placing.{channel_of, no_early, only_at, touched_place}

-- ---- credit, then a resumption

pub none_fits : (s : Sender) (e : Early) → e.credit ≡ 0 → fitting e.channel (alone s e) ≡ 0
none_fits s e none =
    let most = 2147483647 - option_map_or (λ r. r.credit) (reader_of e.channel s.readers) 2147483647 in
    let here : early_of e.channel (alone s e) ≡ Some e = cond-true _ _ _ (is_same_self e.channel) in
    let little : min e.credit most ≡ 0 = omega (arith, none) in
    ap (λ o. min (option_map_or (λ x. x.credit) o 0) most) here ∙ little

channel_kept : (c : ChannelId) (n : ℕ) (s : Sender) (e left : Early) (new : Sender) → alone new left ≡ credit_given c n (alone s e) → left.channel ≡ e.channel
channel_kept c n s e left new gave = ap first_channel gave ∙ first_kept
  where
    first_channel : Ledger → ChannelId
    first_channel l = channel_of (get_or l.early 0 no_early)

    first_kept : first_channel (credit_given c n (alone s e)) ≡ e.channel
    first_kept =
        elim (eqb n 0) as (λ b. channel_of (get_or (cond b (alone s e) (with_early c (λ x. record x { credit = x.credit - n }) (with_reader c (Granted n) (alone s e)))).early 0 no_early) ≡ e.channel) [
          | true ↦ refl
          | false ↦ elim (is_same e.channel c) as (λ b. channel_of (cond b (record e { credit = e.credit - n }) e) ≡ e.channel) [ true ↦ refl | false ↦ refl ]
        ]

-- a resumption is refused where the credit before it was none
pub refused_too : (old new last : Sender) (e left : Early) → alone new left ≡ credit_given e.channel (fitting e.channel (alone old e)) (alone old e) → (1 ≤ e.credit → is_requested e.channel (alone old e) ≡ true)
    → (last ≡ new) × (is_requested left.channel (alone new left) ≡ false) → (last ≡ old) × (is_requested e.channel (alone old e) ≡ false)
refused_too old new last e left gave asked refused =
    let here = channel_kept e.channel (fitting e.channel (alone old e)) old e left new gave in
    let not_now : is_requested e.channel (alone old e) ≡ false =
    sym (asked_credit e.channel (fitting e.channel (alone old e)) (alone old e)) ∙ ap (λ (l : Ledger). is_requested e.channel l) (sym gave) ∙ ap (λ d. is_requested d (alone new left)) (sym here) ∙ refused.1 in
    elim (cases_lt 0 e.credit) [
      | inl some ↦ absurd (false≢true (sym not_now ∙ asked (omega (arith, some))))
      | inr none ↦
          let nothing : fitting e.channel (alone old e) ≡ 0 = none_fits old e (omega (arith, none)) in
          (refused.0 ∙ ap (λ (l : Ledger). l.sender) (gave ∙ ap (λ n. credit_given e.channel n (alone old e)) nothing), not_now)
    ]

pub none_then : (o : Option Early) (P Q : Type 0) → (P → Q) → IfNone o P → IfNone o Q
none_then None P Q then p = then p
none_then (Some e) P Q then p = tt

-- ---- messages

-- another early part at its place
pub put_is : (c : ChannelId) (kept : Kept) (f : Early → Early) (l : Ledger) → IsEarlyKept l.early c kept → put_at kept.place (f kept.early) l ≡ with_early c f l
put_is c kept f l is =
    let only = only_at l.early c kept is in
    ap (λ es. record { sender = l.sender; early = es }) (ap (λ e. set l.early kept.place (f e)) (sym only.1) ∙ sym (touched_place l.early kept.place c only.0 f))

-- what fits of it is given
pub goes_on : (c : ChannelId) (kept : Kept) (f : Early → Early) → ((e : Early) → (f e).channel ≡ e.channel) → (l : Ledger) → IsEarlyKept l.early c kept → (e : Early) → e ≡ f kept.early → settled e.channel (put_at kept.place e l) ≡ settled c (with_early c f l)
goes_on c kept f keeps l is e e_is =
    ap (λ (x : Early). settled x.channel (put_at kept.place x l)) e_is
    ∙ ap (λ d. settled d (put_at kept.place (f kept.early) l)) (keeps kept.early ∙ is.channel_is)
    ∙ ap (settled c) (put_is c kept f l is)

pub on_ok : (result : Result (Unit {0}) PeerFault) (P Q : Type 0) → (P → Q) → OnOk result P → OnOk result Q
on_ok (Ok done) P Q then p = then p
on_ok (Err fault) P Q then p = tt

pub took : (entry : ReaderEntry) (old new goes : Ledger) (result : Result (Unit {0}) PeerFault) (Not : Type 0) → OnOk result (new ≡ goes) → goes ≡ ledger_next old entry → OnOk result (MayEnter old entry)
    → OnErr result ((new ≡ old) × Not) → (Not → IsRefused old entry) → IfErr result (λ fault. fault ≡ peer.Channel) → Took entry old new result
took entry old new goes (Ok done) Not ok is may err refuse fault = (may, ok ∙ is)
took entry old new goes (Err f) Not ok is may err refuse fault = (fault, refuse err.1, err.0)
