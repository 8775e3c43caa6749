-- The records that an encoding encodes are read from it again.
use Rattle.std.proofs.Common.{◌≡◌, ℕ, zero, suc, ◌≤◌, cond, List, [], ◌∷◌, ◌++◌, length, take, drop, Some, None, refl, sym, ap, ◌∙◌, arith, append_assoc, length-append}
use Rattle.std.proofs.lemmas.List.Concat.{flat_map-append}
use Rattle.std.specs.Prelude.{unwrap_or, ◌||◌, nat_lt}
use Rattle.std.specs.Int.{w32, from_be_bytes}
use Rattle.std.specs.Option.{option_map_or}
use Rattle.std.specs.List.{AllByRecursion}
use Rattle.std.proofs.lemmas.Nat.{from_be_bytes-to_be_bytes_4}
use Rattle.std.proofs.lemmas.Bool.{le-ltb, or_from, cond-false}
use Rattle.std.proofs.lemmas.List.{take_at, drop_at}
use Rattle.flow_defs.specs.declared.TheConstants.{RECORD_MAX}
use Rattle.flow_defs.specs.Records.{length_bytes, IsShort, encoded, all_encoded, IsSpans, first_record, spans_within, spans}
use Rattle.plain_machine.specs.Theorems.{SpansAreRecords, FrontIsRecords, CutBetween}

first_record-encoded : (r more : List ℕ) → length r ≤ RECORD_MAX → first_record (encoded r ++ more) ≡ Some (r, more)
unfolding length_bytes
first_record-encoded r more short =
    let bytes = encoded r ++ more in
    let n = length r in
    let read : from_be_bytes w32 (take 4 bytes) ≡ n = from_be_bytes-to_be_bytes_4 n (omega (arith, short)) in
    ap (λ (k : ℕ). cond (nat_lt (length bytes) 4 || nat_lt RECORD_MAX k || nat_lt (length (r ++ more)) k) None (Some (take k (r ++ more), drop k (r ++ more)))) read
    ∙ cond-false (nat_lt (length bytes) 4 || nat_lt RECORD_MAX n || nat_lt (length (r ++ more)) n) _ _
    (or_from _ _ (or_from _ _ (le-ltb (length bytes) 4 (omega arith)) (le-ltb RECORD_MAX n short)) (le-ltb (length (r ++ more)) n (omega (arith, length-append r more))))
    ∙ ap (λ xs. Some (xs, drop n (r ++ more))) (take_at r more n refl)
    ∙ ap (λ xs. Some (r, xs)) (drop_at r more n refl)

spans_within-encoded : (rs : List (List ℕ)) (most : ℕ) → AllByRecursion IsShort rs → length (all_encoded rs) ≤ most → spans_within most (all_encoded rs) ≡ rs
unfolding length_bytes
spans_within-encoded [] zero short h = refl
spans_within-encoded [] (suc most) short h = refl
spans_within-encoded (r ∷ rs) zero short h = absurd (omega (arith, h))
spans_within-encoded (r ∷ rs) (suc most) short h =
    ap (λ o. option_map_or (λ found. found.0 ∷ spans_within most found.1) o []) (first_record-encoded r (all_encoded rs) short.0)
    ∙ ap (λ xs. r ∷ xs) (spans_within-encoded rs most short.1 (omega (arith, h, length-append (encoded r) (all_encoded rs))))

pub spans-encoded : SpansAreRecords
unfolding spans
spans-encoded rs short = spans_within-encoded rs (length (all_encoded rs)) short (omega arith)

pub spans_of : (bytes : List ℕ) (rs : List (List ℕ)) → IsSpans bytes rs → spans bytes ≡ rs
spans_of bytes rs is = ap spans (sym is.whole) ∙ spans-encoded rs is.short

-- ---- an encoding that begins with another one

pub record Rest (xs ys : List (List ℕ)) (bytes : List ℕ) : Type 0 where
  pub rest : List (List ℕ)
  pub records_are : xs ≡ ys ++ rest
  pub bytes_are : bytes ≡ all_encoded rest
  pub short : AllByRecursion IsShort rest

pub rest_of : (xs ys : List (List ℕ)) (bytes : List ℕ) → AllByRecursion IsShort xs → AllByRecursion IsShort ys → all_encoded xs ≡ all_encoded ys ++ bytes → Rest xs ys bytes
unfolding length_bytes
rest_of xs [] bytes short short' e = record { rest = xs; records_are = refl; bytes_are = sym e; short = short }
rest_of [] (y ∷ ys) bytes short short' e = absurd (omega (arith, ap length e))
rest_of (x ∷ xs) (y ∷ ys) bytes short short' e =
    let both : Some (x, all_encoded xs) ≡ Some (y, all_encoded ys ++ bytes) =
    sym (first_record-encoded x (all_encoded xs) short.0) ∙ ap first_record (e ∙ append_assoc (encoded y) (all_encoded ys) bytes) ∙ first_record-encoded y (all_encoded ys ++ bytes) short'.0 in
    let heads : x ≡ y = ap (λ o. (unwrap_or {T = List ℕ × List ℕ} o (x, [])).0) both in
    let tails : all_encoded xs ≡ all_encoded ys ++ bytes = ap (λ o. (unwrap_or {T = List ℕ × List ℕ} o (x, [])).1) both in
    let later = rest_of xs ys bytes short.1 short'.1 tails in
    record {
      rest = later.rest;
      records_are = ap (λ r. r ∷ xs) heads ∙ ap (λ rs. y ∷ rs) later.records_are;
      bytes_are = later.bytes_are;
      short = later.short;
    }

pub encoded-append : (xs ys : List (List ℕ)) → all_encoded (xs ++ ys) ≡ all_encoded xs ++ all_encoded ys
encoded-append xs ys = flat_map-append encoded xs ys

pub front_is_records : FrontIsRecords
front_is_records rs front bytes short short' e =
    let found = rest_of rs front bytes short short' e in
    (found.rest, found.records_are, record { whole = sym found.bytes_are; short = found.short })

cancelled : (front xs ys : List ℕ) → front ++ xs ≡ front ++ ys → xs ≡ ys
cancelled [] xs ys e = e
cancelled (b ∷ front) xs ys e = cancelled front xs ys cc

pub cut_between : CutBetween
cut_between flight saved later put more_put took more_took e e' =
    cancelled (all_encoded took) (saved ++ all_encoded more_put) (all_encoded more_took ++ later) (
    sym (append_assoc (all_encoded took) saved (all_encoded more_put))
    ∙ ap (λ bytes. bytes ++ all_encoded more_put) (sym e)
    ∙ append_assoc flight (all_encoded put) (all_encoded more_put)
    ∙ ap (λ bytes. flight ++ bytes) (sym (encoded-append put more_put))
    ∙ e'
    ∙ ap (λ bytes. bytes ++ later) (encoded-append took more_took)
    ∙ append_assoc (all_encoded took) (all_encoded more_took) later)
