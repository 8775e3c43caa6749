-- Where a record's last `=` parts it.
use Rattle.std.proofs.Common.{◌≡◌, ℕ, zero, suc, ◌+◌, ◌<◌, true, List, [], ◌∷◌, length, take, drop, refl, ap, ◌∙◌, arith}
use Rattle.std.specs.Prelude.{Option, Some, None, ◌==◌, if◌then◌else◌}
use Rattle.std.specs.Option.{option_map_or}
use Rattle.std.proofs.lemmas.Bool.Decides.{nat_tests}
use Rattle.memchr.specs.Find.{Nowhere, NoneAfter, Passes, IsLastByte, is_byte}
use Rattle.flow_defs.specs.Aggregates.{parted}

-- no `=` in the rest, and none at the front
none_behind : (b : ℕ) (bytes : List ℕ) → parted bytes ≡ None → parted (b ∷ bytes) ≡ (if b == 61 then Some ([], bytes) else None)
none_behind b bytes none = ap (λ p. option_map_or (λ parts. Some (b ∷ parts.0, parts.1)) p (if b == 61 then Some ([], bytes) else None)) none

some_behind : (b : ℕ) (bytes : List ℕ) (parts : List ℕ × List ℕ) → parted bytes ≡ Some parts → parted (b ∷ bytes) ≡ Some (b ∷ parts.0, parts.1)
some_behind b bytes parts some = ap (λ p. option_map_or (λ parts. Some (b ∷ parts.0, parts.1)) p (if b == 61 then Some ([], bytes) else None)) some

-- without one nothing is parted
pub not_parted : (bytes : List ℕ) → Nowhere (Passes (is_byte 61) bytes) 0 (length bytes) → parted bytes ≡ None
not_parted [] nowhere = refl
not_parted (b ∷ bytes) nowhere =
    let rest : parted bytes ≡ None = not_parted bytes (λ k low high. nowhere (suc k) (omega arith) (omega (arith, high))) in
    let here : ¬ (is_byte 61 b ≡ true) = nowhere 0 (omega arith) (omega arith) in
    none_behind b bytes rest ∙ grind (arith, here, nat_tests)

-- the last one parts the bytes
pub parted_at : (bytes : List ℕ) (k : ℕ) → k < length bytes → Nowhere (Passes (is_byte 61) bytes) (suc k) (length bytes)
    → Passes (is_byte 61) bytes k → parted bytes ≡ Some (take k bytes, drop (suc k) bytes)
parted_at [] k inside after passes = absurd (omega (arith, inside))
parted_at (b ∷ bytes) zero inside after passes =
    none_behind b bytes (not_parted bytes (λ k low high. after (suc k) (omega arith) (omega (arith, high)))) ∙ grind (arith, passes, nat_tests)
parted_at (b ∷ bytes) (suc k) inside after passes =
    some_behind b bytes (take k bytes, drop (suc k) bytes)
    (parted_at bytes k (omega (arith, inside)) (λ j low high. after (suc j) (omega (arith, low)) (omega (arith, high))) passes)
