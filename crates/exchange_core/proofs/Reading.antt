-- Records that are read one by one are the records of the bytes.
use Rattle.std.proofs.Common.{◌≡◌, ℕ, zero, suc, ◌+◌, ◌*◌, ◌/◌, ◌%◌, ◌^◌, ◌<◌, ◌≤◌, min, true, false, cond, List, [], ◌∷◌, ◌++◌, Option, length, take, drop, Some, None, refl, sym, ap, ◌∙◌, arith, append_assoc, length-append, length-drop, length-take, take-append-drop, inl, inr}
use Rattle.std.specs.Prelude.{◌||◌, nat_lt}
use Rattle.std.specs.Int.{w32, from_be_bytes}
use Rattle.std.specs.Option.{option_map_or}
use Rattle.std.proofs.lemmas.Nat.{from_be_bytes-to_be_bytes_4}
use Rattle.std.proofs.lemmas.Bool.{le-ltb, lt-ltb, or_from, or_left, or_right, cases_lt, cond-true, cond-false}
use Rattle.std.proofs.lemmas.List.{take_at, drop_at, append-nil}
use Rattle.std.proofs.lemmas.Option.{none-some, same_Some}
use Rattle.std.proofs.lemmas.List.Concat.{flat_map-append}
use Rattle.flow_defs.specs.declared.TheConstants.{RECORD_MAX}
use Rattle.flow_defs.specs.Records.{length_bytes, encoded, all_encoded, first_record, spans_within, spans}
use Rattle.record_spans.specs.Spans.{BeginsWith, BeginsTooLong, HasNoRecord}
use Rattle.exchange_core.specs.Lanes.{AreBytes}
use Rattle.exchange_world.specs.Lanes.{records_in, behind_records}

-- ---- the first record

length_four : (n : ℕ) → length (length_bytes n) ≡ 4
unfolding length_bytes
length_four n = refl

length_told : (n : ℕ) → n < 2 ^ 32 → from_be_bytes w32 (length_bytes n) ≡ n
unfolding length_bytes
length_told n fits = from_be_bytes-to_be_bytes_4 n fits

encoded_long : (r more : List ℕ) → length (encoded r ++ more) ≡ 4 + length r + length more
encoded_long r more = omega (arith, length-append (encoded r) more, length-append (length_bytes (length r)) r, length_four (length r))

first_is : (r more : List ℕ) → length r ≤ RECORD_MAX → first_record (encoded r ++ more) ≡ Some (r, more)
unfolding length_bytes
first_is r more short =
    let bytes = encoded r ++ more in
    let n = length r in
    let read : from_be_bytes w32 (take 4 bytes) ≡ n = from_be_bytes-to_be_bytes_4 n (omega (arith, short)) in
    ap (λ (k : ℕ). cond (nat_lt (length bytes) 4 || nat_lt RECORD_MAX k || nat_lt (length (r ++ more)) k) None (Some (take k (r ++ more), drop k (r ++ more)))) read
    ∙ cond-false (nat_lt (length bytes) 4 || nat_lt RECORD_MAX n || nat_lt (length (r ++ more)) n) _ _
    (or_from _ _ (or_from _ _ (le-ltb (length bytes) 4 (omega arith)) (le-ltb RECORD_MAX n short)) (le-ltb (length (r ++ more)) n (omega (arith, length-append r more))))
    ∙ ap (λ xs. Some (xs, drop n (r ++ more))) (take_at r more n refl)
    ∙ ap (λ xs. Some (r, xs)) (drop_at r more n refl)

four : {a b c d e f g h : ℕ} → a ≡ e → b ≡ f → c ≡ g → d ≡ h → a ∷ b ∷ c ∷ d ∷ [] ≡ e ∷ f ∷ g ∷ h ∷ []
four p q r s = cc

four_are : (a b c d : ℕ) → a < 256 → b < 256 → c < 256 → d < 256 → length_bytes (from_be_bytes w32 (a ∷ b ∷ c ∷ d ∷ [])) ≡ a ∷ b ∷ c ∷ d ∷ []
unfolding length_bytes
four_are a b c d a_in b_in c_in d_in =
    let n : ℕ = from_be_bytes w32 (a ∷ b ∷ c ∷ d ∷ []) in
    let n_is : n ≡ a * 16777216 + b * 65536 + c * 256 + d = omega arith in
    let p : n / 16777216 % 256 ≡ a = omega (arith, n_is) in
    let q : n / 65536 % 256 ≡ b = omega (arith, n_is) in
    let r : n / 256 % 256 ≡ c = omega (arith, n_is) in
    let s : n % 256 ≡ d = omega (arith, n_is) in
    four p q r s

length_read : (bytes : List ℕ) → AreBytes bytes → 4 ≤ length bytes → take 4 bytes ≡ length_bytes (from_be_bytes w32 (take 4 bytes))
length_read [] fit some = absurd (omega (arith, some))
length_read (a ∷ []) fit some = absurd (omega (arith, some))
length_read (a ∷ b ∷ []) fit some = absurd (omega (arith, some))
length_read (a ∷ b ∷ c ∷ []) fit some = absurd (omega (arith, some))
length_read (a ∷ b ∷ c ∷ d ∷ more) fit some = sym (four_are a b c d (fit 0 (omega arith)) (fit 1 (omega arith)) (fit 2 (omega arith)) (fit 3 (omega arith)))

first_none : (bytes : List ℕ) → AreBytes bytes → HasNoRecord bytes → first_record bytes ≡ None
first_none bytes fit none =
    let len = from_be_bytes w32 (take 4 bytes) in
    let behind = drop 4 bytes in
    let few = nat_lt (length bytes) 4 in
    let long = nat_lt RECORD_MAX len in
    let missing = nat_lt (length behind) len in
    cond-true (few || long || missing) None (Some (take len behind, drop len behind)) (elim (cases_lt (length bytes) 4) [
      | inl short ↦ or_left (few || long) missing (or_left few long (lt-ltb (length bytes) 4 short))
      | inr enough ↦ elim (cases_lt RECORD_MAX len) [
        | inl above ↦ or_left (few || long) missing (or_right few long (lt-ltb RECORD_MAX len above))
        | inr within ↦ elim (cases_lt (length behind) len) [
          | inl cut ↦ or_right (few || long) missing (lt-ltb (length behind) len cut)
          | inr whole ↦
              let count : length (take len behind) ≡ len = length-take len behind ∙ (let e : min len (length behind) ≡ len = omega (arith, whole) in e) in
              let front : take 4 bytes ≡ length_bytes (length (take len behind)) = length_read bytes fit enough ∙ ap length_bytes (sym count) in
              absurd (none.no_record (take len behind) (drop len behind) (record {
                bytes_are = sym (take-append-drop 4 bytes) ∙ ap (λ xs. xs ++ behind) front ∙ ap (λ xs. length_bytes (length (take len behind)) ++ xs) (sym (take-append-drop len behind)) ∙ sym (append_assoc (length_bytes (length (take len behind))) (take len behind) (drop len behind));
                short = omega (arith, count, within);
              }))
        ]
      ]
    ])

first_long : (bytes : List ℕ) (len : ℕ) → BeginsTooLong bytes len → first_record bytes ≡ None
first_long bytes len begins =
    let told : from_be_bytes w32 (take 4 bytes) ≡ len = ap (from_be_bytes w32) (ap (take 4) begins.bytes_are ∙ take_at (length_bytes len) begins.more 4 (length_four len)) ∙ length_told len begins.in_range in
    let above = begins.above in
    let n = from_be_bytes w32 (take 4 bytes) in
    let few = nat_lt (length bytes) 4 in
    let long = nat_lt RECORD_MAX n in
    let missing = nat_lt (length (drop 4 bytes)) n in
    cond-true (few || long || missing) None (Some (take n (drop 4 bytes), drop n (drop 4 bytes))) (or_left (few || long) missing (or_right few long (lt-ltb RECORD_MAX n (omega (arith, told, above)))))

-- ---- all records

abbrev read_by : ℕ → Option (List ℕ × List ℕ) → List (List ℕ)
read_by most o = option_map_or (λ found. found.0 ∷ spans_within most found.1) o []

-- the bytes behind the first record are fewer
fewer : (bytes : List ℕ) (most : ℕ) → length bytes ≤ suc most → (found : List ℕ × List ℕ) → first_record bytes ≡ Some found → length found.1 ≤ most
fewer bytes most few found is =
    let len = from_be_bytes w32 (take 4 bytes) in
    let behind = drop 4 bytes in
    elim (nat_lt (length bytes) 4 || nat_lt RECORD_MAX len || nat_lt (length behind) len) as (λ b. cond b None (Some (take len behind, drop len behind)) ≡ Some found → length found.1 ≤ most) [
      | true ↦ λ none. absurd (none-some _ none)
      | false ↦ λ some.
          let rest : drop len behind ≡ found.1 = ap (λ (f : List ℕ × List ℕ). f.1) (same_Some _ _ some) in
          let count : length (drop len behind) ≡ length found.1 = ap length rest in
          omega (arith, count, length-drop len behind, length-drop 4 bytes, few)
    ] is

spans_enough : (m n : ℕ) (bytes : List ℕ) → length bytes ≤ m → length bytes ≤ n → spans_within m bytes ≡ spans_within n bytes
spans_enough zero zero bytes one two = refl
spans_enough zero (suc n) [] one two = refl
spans_enough zero (suc n) (b ∷ bytes) one two = absurd (omega (arith, one))
spans_enough (suc m) zero [] one two = refl
spans_enough (suc m) zero (b ∷ bytes) one two = absurd (omega (arith, two))
spans_enough (suc m) (suc n) bytes one two =
    elim (first_record bytes) as (λ o. first_record bytes ≡ o → option_map_or (λ found. found.0 ∷ spans_within m found.1) o [] ≡ option_map_or (λ found. found.0 ∷ spans_within n found.1) o []) [
      | None ↦ λ is. refl
      | Some found ↦ λ is. ap (λ rs. found.0 ∷ rs) (spans_enough m n found.1 (fewer bytes m one found is) (fewer bytes n two found is))
    ] refl

spans_none : (bytes : List ℕ) → first_record bytes ≡ None → spans bytes ≡ []
unfolding spans
spans_none bytes none = within (length bytes)
  where
    within : (most : ℕ) → spans_within most bytes ≡ []
    within zero = refl
    within (suc most) = ap (λ o. option_map_or (λ found. found.0 ∷ spans_within most found.1) o []) none

spans_more : (r more : List ℕ) → length r ≤ RECORD_MAX → spans (encoded r ++ more) ≡ r ∷ spans more
unfolding spans
spans_more r more short =
    let n = length (encoded r ++ more) in
    let long = encoded_long r more in
    let k = length r + length more + 3 in
    spans_enough n (suc k) (encoded r ++ more) (omega arith) (omega (arith, long))
    ∙ ap (read_by k) (first_is r more short)
    ∙ ap (λ rs. r ∷ rs) (spans_enough k (length more) more (omega arith) (omega arith))

-- These records were read of the bytes at first, and these are left.
pub record HasSpans (initial left : List ℕ) (records : List (List ℕ)) : Type 0 where
  pub spans_are : spans initial ≡ records ++ spans left
  pub bytes_are : initial ≡ all_encoded records ++ left

pub reads_more : (initial left r more : List ℕ) (records : List (List ℕ)) → HasSpans initial left records → BeginsWith left r more → HasSpans initial more (records ++ r ∷ [])
reads_more initial left r more records so begins = record {
  spans_are = so.spans_are ∙ ap (λ rs. records ++ rs) (ap spans begins.bytes_are ∙ spans_more r more begins.short) ∙ sym (append_assoc records (r ∷ []) (spans more));
  bytes_are = so.bytes_are ∙ ap (λ l. all_encoded records ++ l) begins.bytes_are ∙ sym (append_assoc (all_encoded records) (encoded r) more)
      ∙ ap (λ l. l ++ more) (sym (flat_map-append encoded records (r ∷ []) ∙ ap (λ l. all_encoded records ++ l) (append-nil (encoded r))));
}

pub shorter : (left r more : List ℕ) → BeginsWith left r more → length more < length left
shorter left r more begins = let l : length left ≡ length (encoded r ++ more) = ap length begins.bytes_are in omega (arith, l, encoded_long r more)

-- where none is left all were read
all_read : (initial left : List ℕ) (records : List (List ℕ)) → HasSpans initial left records → first_record left ≡ None → (records ≡ records_in initial) × (left ≡ behind_records initial)
all_read initial left records so none =
    let all : spans initial ≡ records = so.spans_are ∙ ap (λ rs. records ++ rs) (spans_none left none) ∙ append-nil records in
    (sym all, sym (ap (λ rs. drop (length (all_encoded rs)) initial) all ∙ ap (drop (length (all_encoded records))) so.bytes_are ∙ drop_at (all_encoded records) left (length (all_encoded records)) refl))

pub all_read_none : (initial left : List ℕ) (records : List (List ℕ)) → HasSpans initial left records → AreBytes left → HasNoRecord left → (records ≡ records_in initial) × (left ≡ behind_records initial)
all_read_none initial left records so fit none = all_read initial left records so (first_none left fit none)

pub all_read_long : (initial left : List ℕ) (records : List (List ℕ)) (len : ℕ) → HasSpans initial left records → BeginsTooLong left len → (records ≡ records_in initial) × (left ≡ behind_records initial)
all_read_long initial left records len so begins = all_read initial left records so (first_long left len begins)
