-- What the bytes of saved pieces encode.
use Rattle.std.proofs.Common.{◌≡◌, ℕ, zero, suc, ◌≤◌, Bool, true, false, cond, IsTrue, ◌↔◌, ◌||◌, List, [], ◌∷◌, length, take, drop, Option, Some, None, refl, sym, ap, ◌∙◌, arith, length-take}
use Rattle.std.specs.Prelude.{nat_lt}
use Rattle.std.specs.Option.{option_map_or}
use Rattle.std.specs.List.{AllByRecursion}
use Rattle.std.specs.Int.{w32, from_be_bytes}
use Rattle.std.proofs.lemmas.Bool.{ltb-false}
use Rattle.flow_defs.specs.declared.TheConstants.{RECORD_MAX}
use Rattle.flow_defs.specs.Records.{all_encoded, IsShort, first_record, spans_within, spans}
use Rattle.plain_machine.specs.Images.{AreSpans}
use Rattle.plain_machine.proofs.SpanLemmas.{spans_of}
use Rattle.job_text.proofs.SpellingLemmas.{same_bytes, bytes_same}
use Rattle.channel_state.specs.ImageFaults.{are_records}

neither : (a b : Bool) → (a || b) ≡ false → (a ≡ false) × (b ≡ false)
neither true b e = absurd cc
neither false b e = (refl, e)

chosen : {A : Type 0} (b : Bool) (x y : A) → cond b None (Some x) ≡ Some y → (b ≡ false) × (x ≡ y)
chosen true x y e = absurd cc
chosen false x y e = (refl, cc)

short_record : (bytes r more : List ℕ) → first_record bytes ≡ Some (r, more) → IsShort r
short_record bytes r more e =
    let len = from_be_bytes w32 (take 4 bytes) in
    let behind = drop 4 bytes in
    let is = chosen (nat_lt (length bytes) 4 || nat_lt RECORD_MAX len || nat_lt (length behind) len) (take len behind, drop len behind) (r, more) e in
    let last = neither (nat_lt (length bytes) 4 || nat_lt RECORD_MAX len) (nat_lt (length behind) len) is.0 in
    let first = neither (nat_lt (length bytes) 4) (nat_lt RECORD_MAX len) last.0 in
    let short : len ≤ RECORD_MAX = ltb-false _ _ first.1 in
    let same = ap (λ (p : List ℕ × List ℕ). length p.0) is.1 in
    omega (arith, same, short, length-take len behind)

first_short : (m : ℕ) (bytes : List ℕ) (o : Option (List ℕ × List ℕ)) → first_record bytes ≡ o → ((more : List ℕ) → AllByRecursion IsShort (spans_within m more)) → AllByRecursion IsShort (option_map_or (λ found. found.0 ∷ spans_within m found.1) o [])
first_short m bytes None is short = tt
first_short m bytes (Some found) is short = (short_record bytes found.0 found.1 is, short found.1)

all_short : (m : ℕ) (bytes : List ℕ) → AllByRecursion IsShort (spans_within m bytes)
all_short zero bytes = tt
all_short (suc m) bytes = first_short m bytes (first_record bytes) refl (λ more. all_short m more)

pub records_known : (bytes : List ℕ) → are_records bytes ≡ true → AreSpans bytes
unfolding spans
records_known bytes is = (spans bytes, record { whole = same_bytes (all_encoded (spans bytes)) bytes is; short = all_short (length bytes) bytes })

pub records_spelled : (bytes : List ℕ) → AreSpans bytes → are_records bytes ≡ true
records_spelled bytes (records, is) = bytes_same (all_encoded (spans bytes)) bytes (ap all_encoded (spans_of bytes records is) ∙ is.whole)

-- a test that says whether records span the bytes says what that of the format does
pub told : (b : Bool) (bytes : List ℕ) → (IsTrue b ↔ AreSpans bytes) → b ≡ are_records bytes
told true bytes is = sym (records_spelled bytes (is.0 refl))
told false bytes is = elim (are_records bytes) as (λ t. are_records bytes ≡ t → false ≡ t) [ true ↦ λ e. is.1 (records_known bytes e) | false ↦ λ e. refl ] refl
