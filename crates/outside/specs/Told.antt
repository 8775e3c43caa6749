-- What a source tells of its bytes.
use Rattle.std.specs.Prelude.{◌≡◌, ℕ, ◌≤◌, List, [], length, take, drop, Option, Some}

-- A read took so many bytes into a front of the room: they are the first of those that were left,
-- these are the others, and none come exactly where none were left.
pub record Reads (bytes : List ℕ) (count : ℕ) (room : List ℕ) (left : Option (List ℕ)) : Type 0 where
  pub within : count ≤ length bytes
  pub front : take count room ≡ take count bytes
  pub rest : left ≡ Some (drop count bytes)
  pub ended : count ≡ 0 → bytes ≡ []
