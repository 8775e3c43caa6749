-- When a save may be opened, and the numbers of those that were.
use Rattle.std.proofs.Common.{◌≡◌, ℕ, suc, eqb, Bool, true, false, true≢false, cond, ◌||◌, List, [], ◌∷◌, Option, Some, None, refl, sym, ap, ◌∙◌, inl, inr}
use Rattle.std.specs.Prelude.{nat_lt, nat_le, is_some}
use Rattle.std.specs.Ordering.{match_ordering}
use Rattle.std.specs.declared.cmp.Ordering.TheVariants.{Less, Equal, Greater}
use Rattle.std.proofs.lemmas.Bool.{or_parts, ltb-false, leb-false, eqb-true, eqb-false, eq-eqb, ne_eqb, cases_eq}
use Rattle.input_channel.specs.States.{OpenSave, polled_barriers, AllowsSave}
use Rattle.exchange_world.specs.Lanes.{Lane, has_number, with_number}
use Rattle.exchange_world.specs.Steps.{is_no_save}

none_open : (save : Option OpenSave) → is_some save ≡ false → save ≡ None
none_open None is_not = refl
none_open (Some save) is_not = absurd (true≢false is_not)

-- A save for barrier k may be opened, and none was.
pub record MayOpen (lane : Lane) (k : ℕ) : Type 0 where
  pub allows : AllowsSave lane.inbox k
  pub once : has_number k lane.saves ≡ false

pub may_open : (lane : Lane) (k : ℕ) → is_no_save lane k ≡ false → MayOpen lane k
may_open lane k is_not =
    let inbox = lane.inbox in
    let is_open = is_some inbox.save in
    let was_opened = has_number k lane.saves in
    let early = nat_lt (suc (polled_barriers inbox)) k in
    let in_time = or_parts ((is_open || was_opened) || early) (nat_le k inbox.reached) is_not in
    let in_turn = or_parts (is_open || was_opened) early in_time.0 in
    let free = or_parts is_open was_opened in_turn.0 in
    record {
      allows = record { none_open = none_open inbox.save free.0; next = ltb-false (suc (polled_barriers inbox)) k in_turn.1; in_time = leb-false k inbox.reached in_time.1 };
      once = free.1;
    }

-- ---- one number more

eqb-sym : (a b : ℕ) → eqb a b ≡ eqb b a
eqb-sym a b = elim (cases_eq a b) [
  | inl same ↦ eq-eqb a b same ∙ sym (eq-eqb b a (sym same))
  | inr apart ↦ ne_eqb a b apart ∙ sym (ne_eqb b a (λ same. apart (sym same)))
]

or_comm : (a b : Bool) → (a || b) ≡ (b || a)
or_comm true true = refl
or_comm true false = refl
or_comm false true = refl
or_comm false false = refl

or_assoc : (a b d : Bool) → (a || (b || d)) ≡ ((a || b) || d)
or_assoc true b d = refl
or_assoc false b d = refl

or_within : (a b d : Bool) → (d ≡ true → a ≡ true) → (a || b) ≡ ((a || b) || d)
or_within true b d h = refl
or_within false b true h = absurd (true≢false (sym (h refl)))
or_within false true false h = refl
or_within false false false h = refl

pub has_number-with : (j k : ℕ) (ns : List ℕ) → has_number j (with_number k ns) ≡ (has_number j ns || eqb k j)
has_number-with j k [] = or_comm (eqb j k) false ∙ eqb-sym j k
has_number-with j k (n ∷ ns) =
    elim (nat_lt k n) as (λ b. has_number j (match_ordering (cond b Less (cond (eqb k n) Equal Greater)) (k ∷ n ∷ ns) (n ∷ ns) (n ∷ with_number k ns)) ≡ (has_number j (n ∷ ns) || eqb k j)) [
      | true ↦ ap (λ b. b || has_number j (n ∷ ns)) (eqb-sym j k) ∙ or_comm (eqb k j) (has_number j (n ∷ ns))
      | false ↦ elim (eqb k n) as (λ b. eqb k n ≡ b → has_number j (match_ordering (cond b Equal Greater) (k ∷ n ∷ ns) (n ∷ ns) (n ∷ with_number k ns)) ≡ (has_number j (n ∷ ns) || eqb k j)) [
        | true ↦ λ same. or_within (eqb j n) (has_number j ns) (eqb k j) (λ this. eq-eqb j n (sym (eqb-true k j this) ∙ eqb-true k n same))
        | false ↦ λ other. ap (λ b. eqb j n || b) (has_number-with j k ns) ∙ or_assoc (eqb j n) (has_number j ns) (eqb k j)
      ] refl
    ]
