-- Counts of faults. That each fault is told by a count which its caller holds is this project's own.
use Rattle.std.specs.Prelude.{◌⊎◌, ℕ, ◌<◌, ◌≤◌}

-- The count has risen. One that stands at the end of its range stays there, and is taken as having risen.
abbrev pub HasRisen : ℕ → ℕ → Type 0
HasRisen old new = (old < new) ⊎ (18446744073709551615 ≤ new)
