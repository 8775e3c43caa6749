-- Rows of places, of which some lose passes.
use Rattle.std.proofs.Common.{◌≡◌, ◌≢◌, ℕ, zero, suc, ◌+◌, ◌<◌, ◌≤◌, inl, inr, Option, Some, None, List, [], ◌∷◌, length, get_or, set, refl, sym, ap, subst, ◌∙◌, arith}
use Rattle.std.specs.Prelude.{slice_get}
use Rattle.std.specs.List.{refill}
use Rattle.std.specs.Option.{option_map_or}
use Rattle.std.proofs.lemmas.Bool.{cases_lt}
use Rattle.std.proofs.lemmas.List.{length-set}
use Rattle.std.proofs.lemmas.Option.{same_Some, slice_get_within}
use Rattle.flow_defs.specs.Items.{Items}
use Rattle.flow_defs.proofs.Lists.{refilled_set}
use Rattle.conn_parts.proofs.Lists.{get_is, get_set, get_set_else, set_cases}
use Rattle.job_workers.specs.declared.place.Place.TheVariants.{Vacant}
use Rattle.job_workers.specs.declared.task.TaskLeft.{TaskLeft}
use Rattle.job_workers.specs.Places.{Pairs}
use Rattle.job_ends.specs.Ended.{TaskPlace, left_in, place_at, left_at}
use Rattle.job_ends.specs.Leaving.{WithoutPartition, WithoutGate, LeftGoesOn, RowsGoOn}

-- ---- lists by place

pub one_there : {X : Type 0} (xs : List X) (k : ℕ) (x y : X) → slice_get xs k ≡ Some x → slice_get xs k ≡ Some y → x ≡ y
one_there xs k x y a b = same_Some x y (sym a ∙ b)

pub stands : {X : Type 0} (xs : List X) (k : ℕ) → k < length xs → (x : X) × (slice_get xs k ≡ Some x)
stands [] k low = absurd (omega arith)
stands (x ∷ xs) zero low = (x, refl)
stands (x ∷ xs) (suc k) low = stands xs k (omega arith)

-- ---- a list in which the first so many have changed

pub record UpTo {A : Type 0} (R : A → A → Type 0) (n : ℕ) (old new : List A) : Type 0 where
  pub many : length new ≡ length old
  pub done : (i : ℕ) (x y : A) → i < n → slice_get old i ≡ Some x → slice_get new i ≡ Some y → R x y
  pub rest : (i : ℕ) → n ≤ i → slice_get new i ≡ slice_get old i

pub up_to_none : {A : Type 0} (R : A → A → Type 0) (xs : List A) → UpTo R 0 xs xs
up_to_none R xs = record { many = refl; done = λ i x y low a b. absurd (omega (arith, low)); rest = λ i low. refl }

pub up_to_more : {A : Type 0} (R : A → A → Type 0) (n : ℕ) (old new : List A) (x y : A) → UpTo R n old new → slice_get new n ≡ Some x → R x y → UpTo R (n + 1) old (set new n y)
up_to_more {A} R n old new x y up at changes = record {
  many = length-set new n y ∙ up.many;
  done = λ i p q low a b. elim (cases_lt i n) [
    | inl below ↦ up.done i p q below a (sym (get_set_else new n i y (λ e. omega (arith, e, below))) ∙ b)
    | inr above ↦
        let same : i ≡ n = omega (arith, low, above) in
        let was : x ≡ p = same_Some x p (sym at ∙ up.rest n (omega arith) ∙ ap (slice_get old) (sym same) ∙ a) in
        let is : y ≡ q = same_Some y q (sym (get_set new n y (slice_get_within new n x at)) ∙ ap (slice_get (set new n y)) (sym same) ∙ b) in
        subst (λ (v : A). R p v) is (subst (λ (v : A). R v y) was changes)
  ];
  rest = λ i low. get_set_else new n i y (λ e. omega (arith, e, low)) ∙ up.rest i (omega (arith, low));
}

pub up_to_all : {A : Type 0} (R : A → A → Type 0) (n : ℕ) (old new : List A) → UpTo R n old new → length old ≤ n → Pairs R old new
up_to_all R n old new up all i x y a b = up.done i x y (let low = slice_get_within old i x a in omega (arith, low, all)) a b

-- What was read at a place stands there, also of a list that was lent as it is.
pub read_there : {A : Type 0} (xs : List A) (k : ℕ) (x : A) → k < length xs → x ≡ get_or xs k x → slice_get xs k ≡ Some (get_or xs k x)
read_there xs k x low is = get_is xs k x low is ∙ ap Some is

pub at_lent : {A : Type 0} (now lent : List A) (n : ℕ) (x : A) → lent ≡ now → n < length now → x ≡ get_or lent n x → slice_get now n ≡ Some (get_or lent n x)
at_lent now lent n x same low is = ap (λ l. slice_get l n) (sym same) ∙ read_there lent n x (let l = ap length same in omega (arith, low, l)) is

pub stood : {A : Type 0} (R : A → A → Type 0) (n : ℕ) (old now : List A) (x : A) → UpTo R n old now → slice_get now n ≡ Some x → slice_get old n ≡ Some x
stood R n old now x up at = sym (up.rest n (omega arith)) ∙ at

pub lent_more : {A : Type 0} (R : A → A → Type 0) (n : ℕ) (old now lent : List A) (x y : A) → UpTo R n old now → lent ≡ now → slice_get now n ≡ Some x → R x y → UpTo R (n + 1) old (refill (length now) now (set lent n y))
lent_more R n old now lent x y up same at changes = subst (UpTo R (n + 1) old) (sym (refilled_set now lent n y same)) (up_to_more R n old now x y up at changes)

pub each_more : {A : Type 0} (P : ℕ → A → Type 0) (n : ℕ) (old : List A) (x : A) → slice_get old n ≡ Some x → P n x → ((i : ℕ) (y : A) → i < n → slice_get old i ≡ Some y → P i y) →
    (i : ℕ) (y : A) → i < n + 1 → slice_get old i ≡ Some y → P i y
each_more {A} P n old x at here before i y low is = elim (cases_lt i n) [
  | inl below ↦ before i y below is
  | inr above ↦
      let same : n ≡ i = omega (arith, low, above) in
      let what : x ≡ y = one_there old n x y at (ap (slice_get old) same ∙ is) in
      subst (λ (k : ℕ). P k y) same (subst (P n) what here)
]

-- ---- places of rows

module _ {S : Type 0} where
  row_in : Option (Items (TaskPlace S)) → ℕ → TaskPlace S
  row_in row i = option_map_or (λ (row : Items (TaskPlace S)). option_map_or (λ (place : TaskPlace S). place) (slice_get row.items i) Vacant) row Vacant

  pub place_is : (rows : List (Items (TaskPlace S))) (s i : ℕ) (row : Items (TaskPlace S)) (place : TaskPlace S) →
      slice_get rows s ≡ Some row → slice_get row.items i ≡ Some place → place_at rows s i ≡ place
  place_is rows s i row place at there =
      ap (λ (o : Option (Items (TaskPlace S))). option_map_or (λ (row : Items (TaskPlace S)). option_map_or (λ (place : TaskPlace S). place) (slice_get row.items i) Vacant) o Vacant) at
      ∙ ap (λ (o : Option (TaskPlace S)). option_map_or (λ (place : TaskPlace S). place) o Vacant) there

  -- What a task left stands in a place of a row.
  pub record StandsAt (rows : List (Items (TaskPlace S))) (s i : ℕ) (left : TaskLeft S) : Type 0 where
    pub row : Items (TaskPlace S)
    pub place : TaskPlace S
    pub has_row : slice_get rows s ≡ Some row
    pub has_place : slice_get row.items i ≡ Some place
    pub is_left : left_in place ≡ Some left

  record PlaceOf (o : Option (TaskPlace S)) (left : TaskLeft S) : Type 0 where
    place : TaskPlace S
    has_place : o ≡ Some place
    is_left : left_in place ≡ Some left

  record RowOf (o : Option (Items (TaskPlace S))) (i : ℕ) (left : TaskLeft S) : Type 0 where
    row : Items (TaskPlace S)
    place : TaskPlace S
    has_row : o ≡ Some row
    has_place : slice_get row.items i ≡ Some place
    is_left : left_in place ≡ Some left

  place_of_option : (o : Option (TaskPlace S)) (left : TaskLeft S) → left_in (option_map_or (λ (place : TaskPlace S). place) o Vacant) ≡ Some left → PlaceOf o left
  place_of_option None left e = absurd (cc)
  place_of_option (Some place) left e = record { place = place; has_place = refl; is_left = e }

  row_of_option : (o : Option (Items (TaskPlace S))) (i : ℕ) (left : TaskLeft S) →
      left_in (option_map_or (λ (row : Items (TaskPlace S)). option_map_or (λ (place : TaskPlace S). place) (slice_get row.items i) Vacant) o Vacant) ≡ Some left → RowOf o i left
  row_of_option None i left e = absurd (cc)
  row_of_option (Some row) i left e = let p = place_of_option (slice_get row.items i) left e in
      record { row = row; place = p.place; has_row = refl; has_place = p.has_place; is_left = p.is_left }

  pub stands_at : (rows : List (Items (TaskPlace S))) (s i : ℕ) (left : TaskLeft S) → left_at rows s i ≡ Some left → StandsAt rows s i left
  stands_at rows s i left e = let r = row_of_option (slice_get rows s) i left e in
      record { row = r.row; place = r.place; has_row = r.has_row; has_place = r.has_place; is_left = r.is_left }

  -- ---- rows that go on

  pub rows_nothing : (P G : ℕ → Type 0) (rows : List (Items (TaskPlace S))) → RowsGoOn P G rows rows
  rows_nothing P G rows = record {
    many = refl;
    row_many = λ s. refl;
    each = λ s i left at. (left, at, record { rest = record { input = refl; cause = refl }; partition_stays = λ p. refl; gate_stays = λ g. refl; snapshots_stay = refl });
  }

  goes_again : (P G : Type 0) (a b c : TaskLeft S) → LeftGoesOn P G a b → LeftGoesOn P G b c → LeftGoesOn P G a c
  goes_again P G a b c s t = record {
    rest = record { input = t.rest.input ∙ s.rest.input; cause = t.rest.cause ∙ s.rest.cause };
    partition_stays = λ p. t.partition_stays p ∙ s.partition_stays p;
    gate_stays = λ g. t.gate_stays g ∙ s.gate_stays g;
    snapshots_stay = t.snapshots_stay ∙ s.snapshots_stay;
  }

  pub rows_again : (P G : ℕ → Type 0) (a b c : List (Items (TaskPlace S))) → RowsGoOn P G a b → RowsGoOn P G b c → RowsGoOn P G a c
  rows_again P G a b c s t = record {
    many = t.many ∙ s.many;
    row_many = λ k. t.row_many k ∙ s.row_many k;
    each = λ k i left at. let m = s.each k i left at in let n = t.each k i m.0 m.1 in (n.0, n.1, goes_again (P k) (G k) left m.0 n.0 m.2 n.2);
  }

  pub rows_fewer : (P G P' G' : ℕ → Type 0) (a b : List (Items (TaskPlace S))) → ((s : ℕ) → P' s → P s) → ((s : ℕ) → G' s → G s) → RowsGoOn P G a b → RowsGoOn P' G' a b
  rows_fewer P G P' G' a b p g t = record {
    many = t.many;
    row_many = t.row_many;
    each = λ s i left at. let m = t.each s i left at in (m.0, m.1, record { rest = m.2.rest; partition_stays = λ q. m.2.partition_stays (p s q); gate_stays = λ q. m.2.gate_stays (g s q); snapshots_stay = m.2.snapshots_stay });
  }

  -- A row whose places have changed, each so that what was left there goes on.
  pub row_goes_on : (P G : ℕ → Type 0) (R : TaskPlace S → TaskPlace S → Type 0) (rows : List (Items (TaskPlace S))) (e : ℕ) (row after : Items (TaskPlace S)) →
      ((old new : TaskPlace S) (left : TaskLeft S) → R old new → left_in old ≡ Some left → (now : TaskLeft S) × (left_in new ≡ Some now) × LeftGoesOn (P e) (G e) left now) →
      slice_get rows e ≡ Some row → length after.items ≡ length row.items → Pairs R row.items after.items → RowsGoOn P G rows (set rows e after)
  row_goes_on P G R rows e row after step at many pairs = record {
    many = length-set rows e after;
    row_many = λ s. elim (set_cases rows e s after) [
      | inl here ↦
          ap (λ (o : Option (Items (TaskPlace S))). option_map_or (λ (r : Items (TaskPlace S)). length r.items) o 0) here.2 ∙ many
          ∙ sym (ap (λ (o : Option (Items (TaskPlace S))). option_map_or (λ (r : Items (TaskPlace S)). length r.items) o 0) (ap (slice_get rows) here.0 ∙ at))
      | inr else ↦ ap (λ (o : Option (Items (TaskPlace S))). option_map_or (λ (r : Items (TaskPlace S)). length r.items) o 0) else
    ];
    each = λ s i left is. let st = stands_at rows s i left is in elim (set_cases rows e s after) [
      | inl here ↦
          let same : st.row ≡ row = one_there rows e st.row row (ap (slice_get rows) (sym here.0) ∙ st.has_row) at in
          let old_there : slice_get row.items i ≡ Some st.place = subst (λ (r : Items (TaskPlace S)). slice_get r.items i ≡ Some st.place) same st.has_place in
          let new_there = stands after.items i (let low = slice_get_within row.items i st.place old_there in omega (arith, low, many)) in
          let now = step st.place new_there.0 left (pairs i st.place new_there.0 old_there new_there.1) st.is_left in (
            now.0,
            ap (λ (p : TaskPlace S). left_in p) (place_is (set rows e after) s i after new_there.0 here.2 new_there.1) ∙ now.1,
            subst (λ (k : ℕ). LeftGoesOn (P k) (G k) left now.0) (sym here.0) now.2,
          )
      | inr else ↦ (
        left,
        ap (λ (p : TaskPlace S). left_in p) (place_is (set rows e after) s i st.row st.place (else ∙ st.has_row) st.has_place) ∙ st.is_left,
        record { rest = record { input = refl; cause = refl }; partition_stays = λ p. refl; gate_stays = λ g. refl; snapshots_stay = refl },
      )
    ];
  }

  without_partition : (P G : Type 0) (old new : TaskPlace S) (left : TaskLeft S) → (P → ⊥) → WithoutPartition old new → left_in old ≡ Some left →
      (now : TaskLeft S) × (left_in new ≡ Some now) × LeftGoesOn P G left now
  without_partition P G old new left not w is =
      let same : w.left ≡ left = same_Some w.left left (sym w.was ∙ is) in (
        record w.left { partition = None },
        w.now,
        record {
          rest = record { input = ap (λ (l : TaskLeft S). l.input) same; cause = ap (λ (l : TaskLeft S). l.cause) same };
          partition_stays = λ p. absurd (not p);
          gate_stays = λ g. ap (λ (l : TaskLeft S). l.gate) same;
          snapshots_stay = ap (λ (l : TaskLeft S). l.snapshots) same;
        },
      )

  without_gate : (P G : Type 0) (old new : TaskPlace S) (left : TaskLeft S) → (G → ⊥) → WithoutGate old new → left_in old ≡ Some left →
      (now : TaskLeft S) × (left_in new ≡ Some now) × LeftGoesOn P G left now
  without_gate P G old new left not w is =
      let same : w.left ≡ left = same_Some w.left left (sym w.was ∙ is) in (
        record w.left { gate = None },
        w.now,
        record {
          rest = record { input = ap (λ (l : TaskLeft S). l.input) same; cause = ap (λ (l : TaskLeft S). l.cause) same };
          partition_stays = λ p. ap (λ (l : TaskLeft S). l.partition) same;
          gate_stays = λ g. absurd (not g);
          snapshots_stay = ap (λ (l : TaskLeft S). l.snapshots) same;
        },
      )

  -- Both ends of an edge, one after the other.
  pub edge_goes_on : (e : ℕ) (rows : List (Items (TaskPlace S))) (sent came sent_after came_after : Items (TaskPlace S)) →
      slice_get rows e ≡ Some sent → length sent_after.items ≡ length sent.items → Pairs WithoutPartition sent.items sent_after.items →
      slice_get (set rows e sent_after) (suc e) ≡ Some came → length came_after.items ≡ length came.items → Pairs WithoutGate came.items came_after.items →
      RowsGoOn (λ s. s ≢ e) (λ s. s ≢ suc e) rows (set (set rows e sent_after) (suc e) came_after)
  edge_goes_on e rows sent came sent_after came_after at many pairs next_at next_many next_pairs =
      rows_again (λ s. s ≢ e) (λ s. s ≢ suc e) rows (set rows e sent_after) (set (set rows e sent_after) (suc e) came_after)
      (row_goes_on (λ s. s ≢ e) (λ s. s ≢ suc e) WithoutPartition rows e sent sent_after
      (λ old new left w is. without_partition (e ≢ e) (e ≢ suc e) old new left (λ ne. ne refl) w is) at many pairs)
      (row_goes_on (λ s. s ≢ e) (λ s. s ≢ suc e) WithoutGate (set rows e sent_after) (suc e) came came_after
      (λ old new left w is. without_gate (suc e ≢ e) (suc e ≢ suc e) old new left (λ ne. ne refl) w is) next_at next_many next_pairs)

  pub edge_goes_on_at : (e next : ℕ) → next ≡ suc e → (rows : List (Items (TaskPlace S))) (sent came sent_after came_after : Items (TaskPlace S)) →
      slice_get rows e ≡ Some sent → length sent_after.items ≡ length sent.items → Pairs WithoutPartition sent.items sent_after.items →
      slice_get (set rows e sent_after) next ≡ Some came → length came_after.items ≡ length came.items → Pairs WithoutGate came.items came_after.items →
      RowsGoOn (λ s. s ≢ e) (λ s. s ≢ suc e) rows (set (set rows e sent_after) next came_after)
  edge_goes_on_at e next is rows sent came sent_after came_after at many pairs next_at next_many next_pairs =
      subst (λ (n : ℕ). RowsGoOn (λ s. s ≢ e) (λ s. s ≢ suc e) rows (set (set rows e sent_after) n came_after)) (sym is)
      (edge_goes_on e rows sent came sent_after came_after at many pairs (ap (slice_get (set rows e sent_after)) (sym is) ∙ next_at) next_many next_pairs)

  -- The row behind one that has changed.
  pub next_stood : (e next : ℕ) → next ≡ suc e → (rows : List (Items (TaskPlace S))) (after row : Items (TaskPlace S)) → slice_get (set rows e after) next ≡ Some row → slice_get rows (suc e) ≡ Some row
  next_stood e next is rows after row at = sym (get_set_else rows e (suc e) after (λ same. omega (arith, same))) ∙ ap (slice_get (set rows e after)) (sym is) ∙ at
