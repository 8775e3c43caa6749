-- Bytes that came over a link.
use Rattle.std.specs.Prelude.{◌≡◌, ℕ, ◌-◌, List, ◌++◌, length, take, drop, Option}
use Rattle.outside.specs.Links.{Appended}

-- Some bytes came.
abbrev pub Came : Option (List ℕ) → Option (List ℕ) → Type 0
Came old new = (bytes : List ℕ) × Appended old new bytes

-- So many bytes came, and stand behind those that had come.
pub record CameOn (old new : Option (List ℕ)) (before after : List ℕ) (count : ℕ) : Type 0 where
  pub bytes : List ℕ
  pub many : length bytes ≡ count
  pub told : Appended old new bytes
  pub behind : after ≡ before ++ bytes

-- The bytes between two places.
abbrev pub filled : ℕ → ℕ → List ℕ → List ℕ
filled «from» to bytes = take (to - «from») (drop «from» bytes)
