use Rattle.barriers.proofs.Saves.{saves_follow_barriers, done_with_last}
use Rattle.barriers.proofs.laws.alignment_counts_saves.Goals as goal

pub returns-clause-behind : goal.returns-clause-behind
returns-clause-behind c = saves_follow_barriers

pub returns-clause-done : goal.returns-clause-done
returns-clause-done c = done_with_last
