-- Lines that are made of a seed. Their numbers are those of a linear congruential generator of 64
-- bits, with Knuth's multiplier (The Art of Computer Programming, volume 2, on MMIX); what a line
-- makes of its number is this project's own choice.
use Rattle.std.specs.Prelude.{ℕ, zero, suc, ◌+◌, ◌*◌, ◌/◌, ◌%◌, ◌^◌, List, [], ◌∷◌, ◌++◌, decimal}

-- The number behind another.
abbrev pub state_next : ℕ → ℕ
state_next x = (x * 6364136223846793005 + 1442695040888963407) % 2 ^ 64

-- The number of line i. Lines are counted from 1, and the seed stands before the first.
abbrev pub number_at : ℕ → ℕ → ℕ
number_at seed zero = seed
number_at seed (suc i) = state_next (number_at seed i)

-- The line of a number: one of 1,000 words, a space, one of 100 words, a newline.
abbrev pub line_text : ℕ → List ℕ
line_text x = 119 ∷ decimal (x / 2 ^ 33 % 1000) ++ 32 ∷ 119 ∷ decimal (x / 2 ^ 48 % 100) ++ 10 ∷ []

-- The first so many lines.
abbrev pub generated : ℕ → ℕ → List ℕ
generated seed zero = []
generated seed (suc n) = generated seed n ++ line_text (number_at seed (suc n))
