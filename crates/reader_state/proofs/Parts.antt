-- The reader and the early part of one channel, as something is done to that of another channel or of this one.
use Rattle.std.proofs.Common.{◌≡◌, ℕ, ◌+◌, ◌-◌, ◌≤◌, Bool, true, false, cond, eqb, ltb, List, [], ◌∷◌, map, Option, Some, None, refl, sym, ap, ◌∙◌, arith, ◌&&◌}
use Rattle.std.specs.Prelude.{find, min}
use Rattle.std.specs.Option.{option_map, option_map_or}
use Rattle.std.proofs.lemmas.Bool.{and_parts, ltb-true}
use Rattle.flow_defs.specs.declared.task.ChannelId.{ChannelId}
use Rattle.credit_reader.specs.declared.reader.Reader.{Reader}
use Rattle.credit_reader.specs.Readers.{Happening, Granted, Resumed, reader_next}
use Rattle.credit_reader.specs.Senders.{Sender, is_same, reader_of, after_at}
use Rattle.credit_reader.proofs.Channels.{is_same_self, reader_after}
use Rattle.reader_state.specs.declared.state.Early.{Early}
use Rattle.reader_state.specs.Ledgers.{Ledger, early_of, with_early, with_reader, fitting, credit_given, may_resume, resumption_given, settled}
use Rattle.reader_state.proofs.Channels.{found_after}
use Rattle.reader_state.proofs.Placing.{channel_of}
use Rattle.reader_state.proofs.Queueing.{one_if}

same_map : {X : Type 0} (o : Option X) → option_map (λ x. x) o ≡ o
same_map None = refl
same_map (Some x) = refl

-- ---- one step

pub reader_own : (c : ChannelId) (h : Happening) (rs : List Reader) (r : Reader) → reader_of c rs ≡ Some r → reader_of c (after_at c h rs) ≡ Some (reader_next r h)
reader_own c h rs r is = reader_after c h c rs ∙ ap (option_map (λ r. cond (is_same c c) (reader_next r h) r)) is ∙ ap (λ b. Some (cond b (reader_next r h) r)) (is_same_self c)

pub reader_other : (c d : ChannelId) (h : Happening) (rs : List Reader) → is_same c d ≡ false → reader_of c (after_at d h rs) ≡ reader_of c rs
reader_other c d h rs other = reader_after d h c rs ∙ ap (λ b. option_map (λ r. cond b (reader_next r h) r) (reader_of c rs)) other ∙ same_map (reader_of c rs)

module _ (f : Early → Early) (keeps : (e : Early) → (f e).channel ≡ e.channel) where
  early_after : (c d : ChannelId) (l : Ledger) → early_of c (with_early d f l) ≡ option_map (λ e. cond (is_same c d) (f e) e) (early_of c l)
  early_after c d l = found_after channel_of d f keeps c l.early

  pub early_own : (c : ChannelId) (l : Ledger) (e : Early) → early_of c l ≡ Some e → early_of c (with_early c f l) ≡ Some (f e)
  early_own c l e is = early_after c c l ∙ ap (option_map (λ e. cond (is_same c c) (f e) e)) is ∙ ap (λ b. Some (cond b (f e) e)) (is_same_self c)

  pub early_other : (c d : ChannelId) (l : Ledger) → is_same c d ≡ false → early_of c (with_early d f l) ≡ early_of c l
  early_other c d l other = early_after c d l ∙ ap (λ b. option_map (λ e. cond b (f e) e) (early_of c l)) other ∙ same_map (early_of c l)

-- ---- what is given on another channel

abbrev Unmoved : ChannelId → Ledger → Ledger → Type 0
Unmoved c old new = (reader_of c new.sender.readers ≡ reader_of c old.sender.readers) × (early_of c new ≡ early_of c old)

pub settled_other : (c d : ChannelId) (l : Ledger) → is_same c d ≡ false → Unmoved c l (settled d l)
settled_other c d l other =
    let first = credit_other (fitting d l) l in
    let second = resumption_other (credit_given d (fitting d l) l) in
    (second.0 ∙ first.0, second.1 ∙ first.1)
  where
    credit_other : (n : ℕ) (k : Ledger) → Unmoved c k (credit_given d n k)
    credit_other n k =
        elim (eqb n 0) as (λ b. Unmoved c k (cond b k (with_early d (λ e. record e { credit = e.credit - n }) (with_reader d (Granted n) k)))) [
          | true ↦ (refl, refl)
          | false ↦ (reader_other c d (Granted n) k.sender.readers other, early_other (λ e. record e { credit = e.credit - n }) (λ e. refl) c d (with_reader d (Granted n) k) other)
        ]

    resumption_other : (k : Ledger) → Unmoved c k (resumption_given d k)
    resumption_other k =
        elim (may_resume d k) as (λ b. Unmoved c k (cond b (with_early d (λ e. record e { resumptions = e.resumptions - 1 }) (with_reader d Resumed k)) k)) [
          | true ↦ (reader_other c d Resumed k.sender.readers other, early_other (λ e. record e { resumptions = e.resumptions - 1 }) (λ e. refl) c d (with_reader d Resumed k) other)
          | false ↦ (refl, refl)
        ]

-- ---- what is given on this channel moves from the early part to the reader

pub record Moved (c : ChannelId) (l : Ledger) (r : Reader) (e : Early) : Type 0 where
  pub reader : Reader
  pub early : Early
  pub reader_is : reader_of c l.sender.readers ≡ Some reader
  pub early_is : early_of c l ≡ Some early
  pub credit : reader.credit + early.credit ≡ r.credit + e.credit
  pub resumptions : early.resumptions + one_if r.blocked ≡ e.resumptions + one_if reader.blocked
  pub requested : reader.requested ≡ r.requested
  pub ended : early.ended ≡ e.ended

credit_own : (c : ChannelId) (n : ℕ) (l : Ledger) (r : Reader) (e : Early) → reader_of c l.sender.readers ≡ Some r → early_of c l ≡ Some e → n ≤ e.credit → Moved c (credit_given c n l) r e
credit_own c n l r e reader_is early_is fits =
    elim (eqb n 0) as (λ b. Moved c (cond b l (with_early c (λ e. record e { credit = e.credit - n }) (with_reader c (Granted n) l))) r e) [
      | true ↦ record { reader = r; early = e; reader_is = reader_is; early_is = early_is; credit = refl; resumptions = refl; requested = refl; ended = refl }
      | false ↦ record {
        reader = reader_next r (Granted n);
        early = record e { credit = e.credit - n };
        reader_is = reader_own c (Granted n) l.sender.readers r reader_is;
        early_is = early_own (λ e. record e { credit = e.credit - n }) (λ e. refl) c (with_reader c (Granted n) l) e early_is;
        credit = omega (arith, fits);
        resumptions = refl;
        requested = refl;
        ended = refl;
      }
    ]

resumption_own : (c : ChannelId) (l : Ledger) (r : Reader) (e : Early) → reader_of c l.sender.readers ≡ Some r → early_of c l ≡ Some e → Moved c (resumption_given c l) r e
resumption_own c l r e reader_is early_is =
    elim (may_resume c l) as (λ b. may_resume c l ≡ b → Moved c (cond b (with_early c (λ e. record e { resumptions = e.resumptions - 1 }) (with_reader c Resumed l)) l) r e) [
      | true ↦ λ may.
          let tests : ltb 0 e.resumptions && r.blocked ≡ true =
          ap (λ o. ltb 0 e.resumptions && option_map_or (λ (r : Reader). r.blocked) o false) (sym reader_is)
          ∙ ap (λ o. option_map_or (λ (e : Early). ltb 0 e.resumptions) o false && option_map_or (λ (r : Reader). r.blocked) (reader_of c l.sender.readers) false) (sym early_is) ∙ may in
          let parts = and_parts (ltb 0 e.resumptions) r.blocked tests in
          let some = ltb-true 0 e.resumptions parts.0 in
          let was : one_if r.blocked ≡ 1 = ap one_if parts.1 in
          record {
            reader = reader_next r Resumed;
            early = record e { resumptions = e.resumptions - 1 };
            reader_is = reader_own c Resumed l.sender.readers r reader_is;
            early_is = early_own (λ e. record e { resumptions = e.resumptions - 1 }) (λ e. refl) c (with_reader c Resumed l) e early_is;
            credit = refl;
            resumptions = omega (arith, some, was);
            requested = refl;
            ended = refl;
          }
      | false ↦ λ may. record { reader = r; early = e; reader_is = reader_is; early_is = early_is; credit = refl; resumptions = refl; requested = refl; ended = refl }
    ] refl

moved_then : (c : ChannelId) (k l : Ledger) (r : Reader) (e : Early) → (first : Moved c k r e) → Moved c l first.reader first.early → Moved c l r e
moved_then c k l r e first second = record {
  reader = second.reader;
  early = second.early;
  reader_is = second.reader_is;
  early_is = second.early_is;
  credit = second.credit ∙ first.credit;
  resumptions = omega (arith, first.resumptions, second.resumptions);
  requested = second.requested ∙ first.requested;
  ended = second.ended ∙ first.ended;
}

pub settled_own : (c : ChannelId) (l : Ledger) (r : Reader) (e : Early) → reader_of c l.sender.readers ≡ Some r → early_of c l ≡ Some e → Moved c (settled c l) r e
settled_own c l r e reader_is early_is =
    let most = 2147483647 - option_map_or (λ r. r.credit) (reader_of c l.sender.readers) 2147483647 in
    let fits_is : fitting c l ≡ min e.credit most = ap (λ o. min (option_map_or (λ e. e.credit) o 0) most) early_is in
    let fits : fitting c l ≤ e.credit = omega (arith, fits_is) in
    let first = credit_own c (fitting c l) l r e reader_is early_is fits in
    moved_then c (credit_given c (fitting c l) l) (settled c l) r e first (resumption_own c (credit_given c (fitting c l) l) first.reader first.early first.reader_is first.early_is)
