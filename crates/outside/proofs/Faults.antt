-- A count of faults that has risen, from an earlier one on and until a later one.
use Rattle.std.proofs.Common.{ℕ, ◌≤◌, arith, inl, inr}
use Rattle.outside.specs.Faults.{HasRisen}

pub risen_before : (a b c : ℕ) → a ≤ b → HasRisen b c → HasRisen a c
risen_before a b c low (inl more) = inl (omega (arith, low, more))
risen_before a b c low (inr full) = inr full

pub risen_after : (a b c : ℕ) → HasRisen a b → b ≤ c → HasRisen a c
risen_after a b c (inl more) high = inl (omega (arith, more, high))
risen_after a b c (inr full) high = inr (omega (arith, full, high))
