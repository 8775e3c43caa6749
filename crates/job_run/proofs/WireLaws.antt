-- Counts of faults, and the lengths of lists of wires.
use Rattle.std.proofs.Common.{◌≡◌, ℕ, ◌≤◌, inl, inr, List, length, refl, sym, arith}
use Rattle.std.specs.List.{refill, length_refill}
use Rattle.outside.specs.Faults.{HasRisen}

-- What has risen has risen over a longer time too.
pub risen_over : (a b c d : ℕ) → a ≤ b → HasRisen b c → c ≤ d → HasRisen a d
risen_over a b c d low (inl rose) high = inl (omega (arith, low, rose, high))
risen_over a b c d low (inr full) high = inr (omega (arith, full, high))

pub length-refill : {X : Type 0} (xs ws : List X) → length (refill (length xs) xs ws) ≡ length xs
length-refill xs ws = sym (length_refill (length xs) xs ws refl)
