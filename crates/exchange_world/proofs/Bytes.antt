-- The bytes of records: a record's buffers, end to end, are its encoding, and from the front of encodings the
-- first of the records are read.
use Rattle.std.proofs.Common.{◌≡◌, ℕ, zero, suc, ◌+◌, ◌<◌, ◌≤◌, cond, List, [], ◌∷◌, ◌++◌, Option, length, take, drop, map, Some, None, refl, sym, ap, subst, ◌∙◌, arith, append_assoc, length-append, length-drop, take-append-drop, inl, inr}
use Rattle.std.specs.Prelude.{◌||◌, nat_lt}
use Rattle.std.specs.Int.{w32, from_be_bytes}
use Rattle.std.specs.Option.{option_map_or}
use Rattle.std.specs.List.{AllByRecursion}
use Rattle.std.proofs.lemmas.Nat.{from_be_bytes-to_be_bytes_4}
use Rattle.std.proofs.lemmas.Bool.{le-ltb, lt-ltb, or_from, or_left, or_right, cases_lt, cond-true, cond-false}
use Rattle.std.proofs.lemmas.List.{take_at, drop_at, take-append-le, drop-append-le}
use Rattle.std.proofs.lemmas.List.Concat.{flat_map-append}
use Rattle.flow_defs.specs.declared.TheConstants.{RECORD_MAX}
use Rattle.flow_defs.specs.declared.parcel.Parcel.{Parcel}
use Rattle.flow_defs.specs.declared.parcel.Parcel.TheVariants.{Data, Barrier, End}
use Rattle.flow_defs.specs.Parcels.{data_of}
use Rattle.flow_defs.specs.Records.{length_bytes, IsShort, encoded, all_encoded, first_record, spans_within, spans}
use Rattle.flow_defs.proofs.Lists.{no_cons}
use Rattle.exchange_world.specs.Lanes.{records_in, behind_records}
use Rattle.exchange_world.specs.Steps.{pieces_within, pieces}
use Rattle.exchange_world.proofs.PuttingLemmas.{length_bytes-length}

-- ---- laid end to end

pub encoded-append : (xs ys : List (List ℕ)) → all_encoded (xs ++ ys) ≡ all_encoded xs ++ all_encoded ys
encoded-append xs ys = flat_map-append encoded xs ys

pub short-append : (xs ys : List (List ℕ)) → AllByRecursion IsShort xs → AllByRecursion IsShort ys → AllByRecursion IsShort (xs ++ ys)
short-append [] ys here there = there
short-append (x ∷ xs) ys here there = (here.0, short-append xs ys here.1 there)

pub short_later : (xs ys : List (List ℕ)) → AllByRecursion IsShort (xs ++ ys) → AllByRecursion IsShort ys
short_later [] ys short = short
short_later (x ∷ xs) ys short = short_later xs ys short.1

pieces_within_whole : (most size : ℕ) (bytes : List ℕ) → 1 ≤ size → length bytes ≤ most → data_of (map Data (pieces_within most size bytes)) ≡ bytes
pieces_within_whole zero size [] some long = refl
pieces_within_whole zero size (b ∷ bytes) some long = absurd (omega (arith, long))
pieces_within_whole (suc most) size [] some long = refl
pieces_within_whole (suc most) size (b ∷ bytes) some long =
    let left = length-drop size (b ∷ bytes) in
    ap (λ xs. take size (b ∷ bytes) ++ xs) (pieces_within_whole most size (drop size (b ∷ bytes)) some (omega (arith, left, long, some)))
    ∙ take-append-drop size (b ∷ bytes)

pub pieces_whole : (size : ℕ) (bytes : List ℕ) → 1 ≤ size → data_of (map Data (pieces size bytes)) ≡ bytes
pieces_whole size bytes some = pieces_within_whole (length bytes) size bytes some (omega arith)

-- ---- the first record

first_record-encoded : (r more : List ℕ) → length r ≤ RECORD_MAX → first_record (encoded r ++ more) ≡ Some (r, more)
unfolding length_bytes
first_record-encoded r more short =
    let bytes = encoded r ++ more in
    let n = length r in
    let read : from_be_bytes w32 (take 4 bytes) ≡ n = from_be_bytes-to_be_bytes_4 n (omega (arith, short)) in
    ap (λ (k : ℕ). cond (nat_lt (length bytes) 4 || nat_lt RECORD_MAX k || nat_lt (length (r ++ more)) k) None (Some (take k (r ++ more), drop k (r ++ more)))) read
    ∙ cond-false (nat_lt (length bytes) 4 || nat_lt RECORD_MAX n || nat_lt (length (r ++ more)) n) _ _
    (or_from _ _ (or_from _ _ (le-ltb (length bytes) 4 (omega arith)) (le-ltb RECORD_MAX n short)) (le-ltb (length (r ++ more)) n (omega (arith, length-append r more))))
    ∙ ap (λ xs. Some (xs, drop n (r ++ more))) (take_at r more n refl)
    ∙ ap (λ xs. Some (r, xs)) (drop_at r more n refl)

length_read : (n : ℕ) → n ≤ RECORD_MAX → from_be_bytes w32 (length_bytes n) ≡ n
unfolding length_bytes
length_read n short = from_be_bytes-to_be_bytes_4 n (omega (arith, short))

encoded-length : (r : List ℕ) → length (encoded r) ≡ 4 + length r
encoded-length r = omega (arith, length-append (length_bytes (length r)) r, length_bytes-length (length r))

-- bytes that stop before the record's encoding does hold none
none_yet : (bytes others x later : List ℕ) → length x ≤ RECORD_MAX → bytes ++ others ≡ encoded x ++ later → length bytes < length (encoded x) → first_record bytes ≡ None
none_yet bytes others x later short same cut =
    let n = length x in
    let len = from_be_bytes w32 (take 4 bytes) in
    let behind = drop 4 bytes in
    let few = nat_lt (length bytes) 4 in
    let long = nat_lt RECORD_MAX len in
    let missing = nat_lt (length behind) len in
    cond-true (few || long || missing) None (Some (take len behind, drop len behind)) (elim (cases_lt (length bytes) 4) [
      | inl short ↦ or_left (few || long) missing (or_left few long (lt-ltb (length bytes) 4 short))
      | inr enough ↦
          let front : take 4 bytes ≡ length_bytes n = sym (take-append-le 4 bytes others enough) ∙ ap (take 4) (same ∙ append_assoc (length_bytes n) x later) ∙ take_at (length_bytes n) (x ++ later) 4 (length_bytes-length n) in
          let read : len ≡ n = ap (from_be_bytes w32) front ∙ length_read n short in
          let left : length behind < len = omega (arith, length-drop 4 bytes, read, cut, encoded-length x) in
          or_right (few || long) missing (lt-ltb (length behind) len left)
    ])

-- The first of the bytes is this record's encoding, and the others are behind it.
record HasFirst (bytes others x later : List ℕ) : Type 0 where
  rest : List ℕ
  bytes_are : bytes ≡ encoded x ++ rest
  rest_is : rest ++ others ≡ later

has_first : (bytes others x later : List ℕ) → bytes ++ others ≡ encoded x ++ later → length (encoded x) ≤ length bytes → HasFirst bytes others x later
has_first bytes others x later same whole =
    let n = length (encoded x) in
    record {
      rest = drop n bytes;
      bytes_are = sym (take-append-drop n bytes) ∙ ap (λ xs. xs ++ drop n bytes) (sym (take-append-le n bytes others whole) ∙ ap (take n) same ∙ take_at (encoded x) later n refl);
      rest_is = sym (drop-append-le n bytes others whole) ∙ ap (drop n) same ∙ drop_at (encoded x) later n refl;
    }

-- ---- all records of the bytes

-- These records are encoded at the front of the bytes, and are the first of those that the bytes and the
-- others encode.
pub record AreFront (records : List (List ℕ)) (bytes others : List ℕ) (xs : List (List ℕ)) : Type 0 where
  pub behind : List ℕ
  pub later : List (List ℕ)
  pub bytes_are : bytes ≡ all_encoded records ++ behind
  pub records_are : xs ≡ records ++ later
  pub behind_are : behind ++ others ≡ all_encoded later

none_front : (bytes others : List ℕ) (xs : List (List ℕ)) → bytes ++ others ≡ all_encoded xs → AreFront [] bytes others xs
none_front bytes others xs same = record { behind = bytes; later = xs; bytes_are = refl; records_are = refl; behind_are = same }

more_front : (x rest bytes others : List ℕ) (records ys : List (List ℕ)) → bytes ≡ encoded x ++ rest → AreFront records rest others ys → AreFront (x ∷ records) bytes others (x ∷ ys)
more_front x rest bytes others records ys bytes_are front = record {
  behind = front.behind;
  later = front.later;
  bytes_are = bytes_are ∙ ap (λ b. encoded x ++ b) front.bytes_are ∙ sym (append_assoc (encoded x) (all_encoded records) front.behind);
  records_are = ap (λ r. x ∷ r) front.records_are;
  behind_are = front.behind_are;
}

spans_front : (most : ℕ) (bytes others : List ℕ) (xs : List (List ℕ)) → AllByRecursion IsShort xs → bytes ++ others ≡ all_encoded xs → AreFront (spans_within most bytes) bytes others xs
spans_front zero bytes others xs short same = none_front bytes others xs same
spans_front (suc most) [] others [] short same = none_front [] others [] same
spans_front (suc most) (b ∷ bytes) others [] short same = absurd (no_cons b (bytes ++ others) same)
spans_front (suc most) bytes others (x ∷ ys) short same = elim (cases_lt (length bytes) (length (encoded x))) [
  | inl cut ↦ subst (λ rs. AreFront rs bytes others (x ∷ ys)) (sym (ap read_by (none_yet bytes others x (all_encoded ys) short.0 same cut))) (none_front bytes others (x ∷ ys) same)
  | inr whole ↦
      let found = has_first bytes others x (all_encoded ys) same whole in
      subst (λ rs. AreFront rs bytes others (x ∷ ys)) (sym (ap read_by (ap first_record found.bytes_are ∙ first_record-encoded x found.rest short.0)))
      (more_front x found.rest bytes others (spans_within most found.rest) ys found.bytes_are (spans_front most found.rest others ys short.1 found.rest_is))
]
  where
    read_by : Option (List ℕ × List ℕ) → List (List ℕ)
    read_by o = option_map_or (λ found. found.0 ∷ spans_within most found.1) o []

-- The records of the bytes are so, and what is behind them; the bytes are both.
pub record AreRead (bytes others : List ℕ) (xs : List (List ℕ)) : Type 0 where
  pub later : List (List ℕ)
  pub bytes_are : bytes ≡ all_encoded (records_in bytes) ++ behind_records bytes
  pub records_are : xs ≡ records_in bytes ++ later
  pub behind_are : behind_records bytes ++ others ≡ all_encoded later

pub are_read : (bytes others : List ℕ) (xs : List (List ℕ)) → AllByRecursion IsShort xs → bytes ++ others ≡ all_encoded xs → AreRead bytes others xs
unfolding spans
are_read bytes others xs short same =
    let front = spans_front (length bytes) bytes others xs short same in
    let encoding = all_encoded (records_in bytes) in
    let behind : behind_records bytes ≡ front.behind = ap (drop (length encoding)) front.bytes_are ∙ drop_at encoding front.behind (length encoding) refl in
    record { later = front.later; bytes_are = front.bytes_are ∙ ap (λ b. encoding ++ b) (sym behind); records_are = front.records_are; behind_are = ap (λ b. b ++ others) behind ∙ front.behind_are }
