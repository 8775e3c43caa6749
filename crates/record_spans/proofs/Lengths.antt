-- The four bytes of a length.
use Rattle.std.proofs.Common.{◌≡◌, ℕ, ◌<◌, ◌≤◌, ◌^◌, List, ◌++◌, length, take, drop, arith, refl, sym, ◌∙◌, ap, ◌+◌, length-append, append_assoc}
use Rattle.std.specs.Int.{w32, from_be_bytes}
use Rattle.std.proofs.lemmas.Nat.{from_be_bytes-to_be_bytes_4}
use Rattle.std.proofs.lemmas.List.{take_at, drop_at}
use Rattle.flow_defs.specs.declared.TheConstants.{RECORD_MAX}
use Rattle.flow_defs.specs.Records.{length_bytes, encoded}
use Rattle.record_spans.specs.Spans.{HasNoRecord, BeginsWith, BeginsTooLong}

pub length-length_bytes : (n : ℕ) → length (length_bytes n) ≡ 4
unfolding length_bytes
length-length_bytes n = refl

-- a length in range is told by its bytes
pub same_length : (m n : ℕ) → m < 2 ^ 32 → n < 2 ^ 32 → length_bytes m ≡ length_bytes n → m ≡ n
unfolding length_bytes
same_length m n m_fits n_fits same = sym (from_be_bytes-to_be_bytes_4 m m_fits) ∙ ap (from_be_bytes w32) same ∙ from_be_bytes-to_be_bytes_4 n n_fits

-- and by the front of any bytes that begin with them
pub front_length_is : (m n : ℕ) (bytes more : List ℕ) → m < 2 ^ 32 → n < 2 ^ 32 → length_bytes m ≡ take 4 bytes → bytes ≡ length_bytes n ++ more → m ≡ n
front_length_is m n bytes more m_fits n_fits front bytes_are =
    same_length m n m_fits n_fits (front ∙ ap (take 4) bytes_are ∙ take_at (length_bytes n) more 4 (length-length_bytes n))

-- fewer than four bytes begin with no length
pub no_length : (n : ℕ) (bytes more : List ℕ) → length bytes < 4 → bytes ≡ length_bytes n ++ more → ⊥
no_length n bytes more short bytes_are = let l : length bytes ≡ 4 + length more = rw bytes_are (omega (arith, length-append (length_bytes n) more, length-length_bytes n)) in omega arith

-- bytes that begin with no length hold no record
pub none_short : (bytes : List ℕ) → length bytes < 4 → HasNoRecord bytes
none_short bytes short = record {
  no_record = λ first more begins. no_length (length first) bytes (first ++ more) short (begins.bytes_are ∙ append_assoc (length_bytes (length first)) first more);
  no_length = λ len begins. no_length len bytes begins.more short begins.bytes_are;
}

-- bytes that end before the record that their length tells hold none
pub none_cut : (bytes : List ℕ) (len : ℕ) → len ≤ RECORD_MAX → length_bytes len ≡ take 4 bytes → length bytes < 4 + len → HasNoRecord bytes
none_cut bytes len fits front short = record {
  no_record = λ first more begins.
      let same : len ≡ length first = front_length_is len (length first) bytes (first ++ more) (omega arith) (omega (arith, begins.short)) front (begins.bytes_are ∙ append_assoc (length_bytes (length first)) first more) in
      let l : length bytes ≡ 4 + length first + length more = rw begins.bytes_are (omega (arith, length-append (encoded first) more, length-append (length_bytes (length first)) first, length-length_bytes (length first))) in
      omega arith;
  no_length = λ other begins.
      let same : len ≡ other = front_length_is len other bytes begins.more (omega arith) begins.in_range front begins.bytes_are in
      omega (arith, begins.above);
}

-- two encodings at the front of the same bytes are of one record
pub same_record : (r s x y : List ℕ) → length r ≤ RECORD_MAX → length s ≤ RECORD_MAX → encoded r ++ x ≡ encoded s ++ y → (r ≡ s) × (x ≡ y)
same_record r s x y r_short s_short same =
    let front : length_bytes (length r) ++ (r ++ x) ≡ length_bytes (length s) ++ (s ++ y) = sym (append_assoc (length_bytes (length r)) r x) ∙ same ∙ append_assoc (length_bytes (length s)) s y in
    let lengths : length r ≡ length s = front_length_is (length r) (length s) (length_bytes (length r) ++ (r ++ x)) (s ++ y) (omega arith) (omega arith) (sym (take_at (length_bytes (length r)) (r ++ x) 4 (length-length_bytes (length r)))) front in
    let behind : r ++ x ≡ s ++ y = sym (drop_at (length_bytes (length r)) (r ++ x) 4 (length-length_bytes (length r))) ∙ ap (drop 4) front ∙ drop_at (length_bytes (length s)) (s ++ y) 4 (length-length_bytes (length s)) in (
      sym (take_at r x (length r) refl) ∙ ap (take (length r)) behind ∙ take_at s y (length r) (sym lengths),
      sym (drop_at r x (length r) refl) ∙ ap (drop (length r)) behind ∙ drop_at s y (length r) (sym lengths),
    )

-- no bytes begin with a record and with a length that is too long
pub not_both : (bytes r more : List ℕ) (len : ℕ) → BeginsWith bytes r more → BeginsTooLong bytes len → ⊥
not_both bytes r more len begins long =
    let front : bytes ≡ length_bytes (length r) ++ (r ++ more) = begins.bytes_are ∙ append_assoc (length_bytes (length r)) r more in
    let lengths : length r ≡ len = front_length_is (length r) len bytes long.more (omega (arith, begins.short)) long.in_range (sym (ap (take 4) front ∙ take_at (length_bytes (length r)) (r ++ more) 4 (length-length_bytes (length r)))) long.bytes_are in
    omega (arith, begins.short, long.above)

-- nor with two such lengths
pub one_length : (bytes : List ℕ) (m n : ℕ) → BeginsTooLong bytes m → BeginsTooLong bytes n → m ≡ n
one_length bytes m n first second =
    front_length_is m n bytes second.more first.in_range second.in_range (sym (ap (take 4) first.bytes_are ∙ take_at (length_bytes m) first.more 4 (length-length_bytes m))) second.bytes_are
