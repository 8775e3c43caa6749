-- A front of what is to be written.
use Rattle.std.specs.Prelude.{◌≡◌, ℕ, ◌≤◌, List, ◌++◌, length, take, Option, Some}

-- Behind what was there a front of the bytes was got, and nothing else.
abbrev pub GotFront : List ℕ → List ℕ → Option (List ℕ) → Type 0
GotFront had bytes after = (count : ℕ) × (count ≤ length bytes) × (after ≡ Some (had ++ take count bytes))
