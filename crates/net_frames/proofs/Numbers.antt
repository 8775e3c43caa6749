-- Numbers in bytes: those that are spelled are read again, and those that are read were spelled.
use Rattle.std.proofs.Common.{◌≡◌, ℕ, ◌+◌, ◌*◌, ◌^◌, ◌<◌, ◌≤◌, List, [], ◌∷◌, ◌++◌, length, get_or, take, drop, inl, inr, arith, refl, sym, ap, ◌∙◌, append_assoc, length-append}
use Rattle.std.specs.Int.{Width, w8, byte_len, from_be_bytes, to_be_bytes}
use Rattle.std.proofs.Math.Nat.{mod-eq_of_lt}
use Rattle.std.proofs.Math.Seq.{take-add}
use Rattle.std.proofs.lemmas.Bool.{cases_lt}
use Rattle.std.proofs.lemmas.List.{take_at, drop_at, drop-drop, drop-append-le, take-append-le, length-drop, length-take, length-take-le, get_or-drop, get_or-take, get_or_past}
use Rattle.std.proofs.lemmas.List.Sums.{sum_by-cons}
use Rattle.std.proofs.lemmas.Nat.{be_bytes_4, be_bytes_8, from_be_bytes-to_be_bytes_4, from_be_bytes-to_be_bytes_8}
use Rattle.net_frames.specs.Frames.{Number, u8, u32, u64, width_of, value_of, numbers_len, spelled, Fit}
use Rattle.net_frames.specs.Faults.{number_at}

abbrev pub IsBytes : List ℕ → Type 0
IsBytes bytes = (i : ℕ) → get_or bytes i 0 < 256

pub IsBytes-drop : (n : ℕ) (bytes : List ℕ) → IsBytes bytes → IsBytes (drop n bytes)
IsBytes-drop n bytes fits i = rw get_or-drop (fits (n + i))

pub IsBytes-take : (n : ℕ) (bytes : List ℕ) → IsBytes bytes → IsBytes (take n bytes)
IsBytes-take n bytes fits i =
    elim (cases_lt i n) [
      | inl lt ↦ rw (get_or-take n bytes i 0 lt) (fits i)
      | inr le ↦ rw (get_or_past (take n bytes) i 0 (omega (arith, length-take n bytes))) (omega arith)
    ]

-- ---- one number

-- what holds of each width that numbers have here
pub record IsWide (w : Width) : Type 0 where
  pub len : (n : ℕ) → length (to_be_bytes w n) ≡ byte_len w
  pub back : (bytes : List ℕ) → length bytes ≡ byte_len w → IsBytes bytes → to_be_bytes w (from_be_bytes w bytes) ≡ bytes
  pub again : (n : ℕ) → n < 2 ^ (8 * byte_len w) → from_be_bytes w (to_be_bytes w n) ≡ n
  pub below : (bytes : List ℕ) → IsBytes bytes → from_be_bytes w bytes < 2 ^ (8 * byte_len w)

one_back : (bytes : List ℕ) → length bytes ≡ 1 → IsBytes bytes → to_be_bytes w8 (from_be_bytes w8 bytes) ≡ bytes
one_back [] one fits = absurd (omega arith)
one_back (b ∷ []) one fits = ap (λ n. n ∷ []) (mod-eq_of_lt (fits 0))
one_back (b ∷ c ∷ rest) one fits = absurd (omega arith)

pub wide : (n : Number) → IsWide (width_of n)
wide (u8 n) = record {
  len = λ n. refl;
  back = one_back;
  again = λ n lt. mod-eq_of_lt lt;
  below = λ bytes fits. fits 0;
}
wide (u32 n) = record {
  len = λ n. refl;
  back = λ bytes len fits. be_bytes_4 bytes _ len fits refl;
  again = λ n lt. from_be_bytes-to_be_bytes_4 n lt;
  below = λ bytes fits. omega (arith, fits 0, fits 1, fits 2, fits 3);
}
wide (u64 n) = record {
  len = λ n. refl;
  back = λ bytes len fits. be_bytes_8 bytes _ len fits refl;
  again = λ n lt. from_be_bytes-to_be_bytes_8 n lt;
  below = λ bytes fits. omega (arith, fits 0, fits 1, fits 2, fits 3, fits 4, fits 5, fits 6, fits 7);
}

abbrev pub bytes_of : Number → List ℕ
bytes_of n = to_be_bytes (width_of n) (value_of n)

-- a number lies at a place, whatever follows
pub number_at-append : (w : Width) (place : ℕ) (bytes more : List ℕ) → place + byte_len w ≤ length bytes → number_at w place (bytes ++ more) ≡ number_at w place bytes
unfolding number_at
number_at-append w place bytes more within =
    let front : take (byte_len w) (drop place (bytes ++ more)) ≡ take (byte_len w) (drop place bytes) =
    ap (take (byte_len w)) (drop-append-le place bytes more (omega arith)) ∙ take-append-le (byte_len w) (drop place bytes) more (omega (arith, length-drop place bytes)) in
    ap (from_be_bytes w) front

-- ---- numbers one after another

-- these numbers are read from a place on
abbrev pub Reads : ℕ → List Number → List ℕ → Type 0
Reads place [] bytes = Unit {0}
Reads place (n ∷ ns) bytes = (number_at (width_of n) place bytes ≡ value_of n) × Reads (place + byte_len (width_of n)) ns bytes

pub length-spelled : (ns : List Number) → length (spelled ns) ≡ numbers_len ns
length-spelled [] = refl
length-spelled (n ∷ ns) =
    length-append (bytes_of n) (spelled ns) ∙ rw ((wide n).len (value_of n), length-spelled ns, sum_by-cons) refl

-- what is spelled is read
pub spelled_reads : (ns : List Number) (place : ℕ) (front rest bytes : List ℕ) → bytes ≡ front ++ (spelled ns ++ rest) → length front ≡ place → Fit ns → Reads place ns bytes
unfolding number_at
spelled_reads [] place front rest bytes bytes_are len fits = tt
spelled_reads (n ∷ ns) place front rest bytes bytes_are len fits =
    let behind : bytes ≡ front ++ (bytes_of n ++ (spelled ns ++ rest)) = bytes_are ∙ ap (λ l. front ++ l) (append_assoc (bytes_of n) (spelled ns) rest) in
    let here : take (byte_len (width_of n)) (drop place bytes) ≡ bytes_of n =
    ap (λ l. take (byte_len (width_of n)) (drop place l)) behind ∙ ap (take (byte_len (width_of n))) (drop_at front (bytes_of n ++ (spelled ns ++ rest)) place len)
    ∙ take_at (bytes_of n) (spelled ns ++ rest) (byte_len (width_of n)) ((wide n).len (value_of n)) in (
      ap (from_be_bytes (width_of n)) here ∙ (wide n).again (value_of n) fits.0,
      spelled_reads ns (place + byte_len (width_of n)) (front ++ bytes_of n) rest bytes (behind ∙ sym (append_assoc front (bytes_of n) (spelled ns ++ rest)))
          (length-append front (bytes_of n) ∙ rw (len, (wide n).len (value_of n)) refl) fits.1,
    )

-- what is read was spelled
pub reads_spelled : (ns : List Number) (place : ℕ) (bytes : List ℕ) → IsBytes bytes → place + numbers_len ns ≤ length bytes → Reads place ns bytes → spelled ns ≡ take (numbers_len ns) (drop place bytes)
unfolding number_at
reads_spelled [] place bytes fits within reads = refl
reads_spelled (n ∷ ns) place bytes fits within reads =
    let w = width_of n in
    let total : numbers_len (n ∷ ns) ≡ byte_len w + numbers_len ns = sum_by-cons (λ n. byte_len (width_of n)) n ns in
    let part = take (byte_len w) (drop place bytes) in
    let part_len : length part ≡ byte_len w = length-take-le (byte_len w) (drop place bytes) (omega (arith, length-drop place bytes)) in
    let first : bytes_of n ≡ part = ap (to_be_bytes w) (sym reads.0) ∙ (wide n).back part part_len (IsBytes-take (byte_len w) (drop place bytes) (IsBytes-drop place bytes fits)) in
    let others : spelled ns ≡ take (numbers_len ns) (drop (byte_len w) (drop place bytes)) =
    reads_spelled ns (place + byte_len w) bytes fits (omega arith) reads.1 ∙ ap (take (numbers_len ns)) (sym (drop-drop (byte_len w) place bytes)) in
    rw (total, take-add (byte_len w) (numbers_len ns) (drop place bytes), ← first, ← others) refl

-- and it fits
pub reads_fit : (ns : List Number) (place : ℕ) (bytes : List ℕ) → IsBytes bytes → Reads place ns bytes → Fit ns
unfolding number_at
reads_fit [] place bytes fits reads = tt
reads_fit (n ∷ ns) place bytes fits reads =
    let w = width_of n in
    let below : number_at w place bytes < 2 ^ (8 * byte_len w) = (wide n).below (take (byte_len w) (drop place bytes)) (IsBytes-take (byte_len w) (drop place bytes) (IsBytes-drop place bytes fits)) in
    (rw (← reads.0) below, reads_fit ns (place + byte_len w) bytes fits reads.1)
