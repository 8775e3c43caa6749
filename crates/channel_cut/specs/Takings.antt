-- What a task took from a channel of its gate, up to each of its snapshots. As in Flink the task takes nothing behind an aligned barrier of a
-- channel before its snapshot, so on each channel the barrier parts what the task took. That this is told channel by channel is this
-- project's own choice.
use Rattle.std.specs.Prelude.{◌≡◌, ℕ, suc, ◌<◌, Bool, true, List, ◌++◌, length, take, flat_map}
use Rattle.plain_machine.specs.Histories.{of_sender}
use Rattle.channel_cut.specs.Cuts.{Cut, InLine}

-- What stands in these groups, one behind the other; and in the first k of them.
abbrev pub all_in : List (List (ℕ × List ℕ)) → List (ℕ × List ℕ)
all_in groups = flat_map (λ (group : List (ℕ × List ℕ)). group) groups

abbrev pub taken_to : ℕ → List (List (ℕ × List ℕ)) → List (ℕ × List ℕ)
taken_to k groups = all_in (take k groups)

-- A gate that shows these cuts of a channel has given these lines of it. The task took them from sender s: up to each of its snapshots a group,
-- which the barrier of the checkpoint ended in line, and behind the last one these records. The channel may wait behind the barrier of the
-- next checkpoint.
pub record TakenOn (shows : Cut → Type 0) (lines : List (List ℕ)) (s : ℕ) (groups : List (List (ℕ × List ℕ))) (took : List (ℕ × List ℕ)) (waits : Bool) : Type 0 where
  pub lines_are : lines ≡ of_sender s (all_in groups ++ took)
  pub cuts : (k : ℕ) → k < length groups → shows (InLine (suc k) (of_sender s (taken_to (suc k) groups)))
  pub behind : waits ≡ true → shows (InLine (suc (length groups)) lines)
