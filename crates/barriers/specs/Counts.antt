-- How an alignment lies in memory: by the number of the barrier that each channel gave last, and by that of
-- the checkpoint for which it was saved last, so that nothing is set back where a checkpoint closes. This
-- project's own choice.
use Rattle.std.specs.Prelude.{◌≡◌, ℕ, suc, ◌+◌, ◌<◌, ◌≤◌, ◌^◌, nat_lt, Bool, List, [], ◌∷◌, length, map, slice_index_or, if◌then◌else◌}
use Rattle.std.specs.List.{AllByRecursion}
use Rattle.barriers.specs.Alignments.{Alignment}

-- As callers see it: a channel has given the barrier of the next checkpoint where its last one is later
-- than those closed, and was saved for it where its last save is.
abbrev pub seen : ℕ → List ℕ → Bool → List ℕ → Alignment
seen closed given saving saved = record { closed = closed; gave = map (nat_lt closed) given; saving = saving; saved = map (nat_lt closed) saved }

-- Of how many channels the number is not later than those closed.
abbrev pub waiting : ℕ → List ℕ → ℕ
waiting closed [] = 0
waiting closed (k ∷ numbers) = if nat_lt closed k then waiting closed numbers else suc (waiting closed numbers)

-- The numbers fit: each channel is at the last checkpoint closed or at the next one, and at least one
-- channel is missing. No channel was saved for a checkpoint before it gave the barrier, nor for the next one
-- while the task doesn't save.
pub record Counts (closed missing : ℕ) (given : List ℕ) (saving : Bool) (saved : List ℕ) : Type 0 where
  pub each : AllByRecursion (λ k. (closed ≤ k) × (k ≤ closed + 1)) given
  pub counted : missing ≡ waiting closed (if saving then saved else given)
  pub some : 1 ≤ missing
  pub small : length given < 2 ^ 32
  pub as_many : length saved ≡ length given
  pub behind : (c : ℕ) → c < length given → slice_index_or saved c 0 ≤ (if saving then slice_index_or given c 0 else closed)
