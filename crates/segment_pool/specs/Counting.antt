-- How segments are counted: by the entries of a history, which are pairs of a pass's number and what it
-- did in its turn. In Flink's documentation a buffer is requested from its pool and recycled to it; that
-- one counts as lent until it comes back, whatever became of it, is this project's own choice.
use Rattle.std.specs.Prelude.{ℕ, ◌-◌, List, [], ◌∷◌, Option, Some, None}
use Rattle.std.specs.List.{sum_by}
use Rattle.segment_pool.specs.declared.stock.Dealing.{Dealing}
use Rattle.segment_pool.specs.declared.stock.Dealing.TheVariants.{Claimed, Given}

-- 1 where the entry is a claim, else 0.
abbrev pub is_claim : Dealing → ℕ
is_claim Claimed = 1
is_claim Given = 0

-- 1 where the entry gives a segment back, else 0.
abbrev pub is_give : Dealing → ℕ
is_give Claimed = 0
is_give Given = 1

-- How many segments these entries have claimed and not given.
abbrev pub balance : List Dealing → ℕ
balance entries = sum_by is_claim entries - sum_by is_give entries

-- How many segments all passes together have claimed and not given.
abbrev pub lent_in : List (ℕ × Dealing) → ℕ
lent_in history = sum_by (λ e. is_claim e.1) history - sum_by (λ e. is_give e.1) history

-- How many of a total are then free.
abbrev pub free_in : ℕ → List (ℕ × Dealing) → ℕ
free_in total history = total - lent_in history

-- The entries of a turn that claims: one where it got a segment, else none.
abbrev pub claim_entries : {A : Type 0} → Option A → List Dealing
claim_entries None = []
claim_entries (Some segment) = Claimed ∷ []
