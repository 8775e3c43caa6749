-- The lines of a text. That a rest without a newline is a line, and that no other byte than 10 ends
-- one, is this project's own choice.
use Rattle.std.specs.Prelude.{ℕ, List, [], ◌∷◌, ◌++◌, ◌==◌, if◌then◌else◌}

-- These lines, with some bytes put before the first.
abbrev pub onto_first_line : List ℕ → List (List ℕ) → List (List ℕ)
onto_first_line [] lines = lines
onto_first_line (b ∷ bytes) [] = (b ∷ bytes) ∷ []
onto_first_line (b ∷ bytes) (line ∷ lines) = ((b ∷ bytes) ++ line) ∷ lines

-- The pieces of the bytes, cut at each byte 10. What follows the last of these is a line too, unless it is empty.
abbrev pub lines : List ℕ → List (List ℕ)
lines [] = []
lines (b ∷ bytes) = if b == 10 then [] ∷ lines bytes else onto_first_line (b ∷ []) (lines bytes)
