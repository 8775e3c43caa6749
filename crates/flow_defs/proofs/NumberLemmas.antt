-- Numbers that are compared, and numbers in digits, modulo 2^64.
use Rattle.std.proofs.Common.{◌≡◌, ℕ, zero, suc, ◌+◌, ◌*◌, ◌-◌, ◌%◌, ◌^◌, ◌<◌, ◌≤◌, true, List, [], ◌∷◌, length, drop, get_or, refl, sym, ap, ◌∙◌, arith, eqb, eqb-true, eq-eqb, false}
use Rattle.std.proofs.lemmas.Bool.Decides.{nat_tests}
use Rattle.std.proofs.lemmas.Bool.{eqb-false, ne_eqb}
use Rattle.std.specs.Prelude.{◌&&◌}
use Rattle.std.specs.List.{list_all}
use Rattle.std.specs.Str.Parse.{digits_value_after}
use Rattle.std.specs.Char.{digit_value}
use Rattle.flow_defs.specs.Aggregates.{is_digit}

pub eqb_comm : (n m : ℕ) → eqb n m ≡ eqb m n
eqb_comm n m = elim (eqb n m) as (λ b. eqb n m ≡ b → b ≡ eqb m n) [
  | true ↦ λ h. sym (eq-eqb m n (sym (eqb-true n m h)))
  | false ↦ λ h. sym (ne_eqb m n (λ e. eqb-false n m h (sym e)))
] refl

one_more : (m n d : ℕ) → m % 2 ^ 64 ≡ n % 2 ^ 64 → (m * 10 + d) % 2 ^ 64 ≡ (n * 10 + d) % 2 ^ 64
one_more m n d same = omega (arith, same)

-- What comes before may be reduced.
pub reduced : (m n : ℕ) (digits : List ℕ) → m % 2 ^ 64 ≡ n % 2 ^ 64 → digits_value_after 10 m digits % 2 ^ 64 ≡ digits_value_after 10 n digits % 2 ^ 64
reduced m n [] same = same
reduced m n (c ∷ cs) same = reduced (m * 10 + digit_value c) (n * 10 + digit_value c) cs (one_more m n (digit_value c) same)

-- The byte at a place, and what is behind it.
pub dropped : (bytes : List ℕ) (i : ℕ) → i < length bytes → drop i bytes ≡ get_or bytes i 0 ∷ drop (i + 1) bytes
dropped [] i inside = absurd (omega arith)
dropped (b ∷ bytes) zero inside = refl
dropped (b ∷ bytes) (suc i) inside =
    let next : suc (i + 1) ≡ suc i + 1 = omega arith in
    dropped bytes i (omega (arith, inside)) ∙ ap (λ k. get_or bytes i 0 ∷ drop k (b ∷ bytes)) next
