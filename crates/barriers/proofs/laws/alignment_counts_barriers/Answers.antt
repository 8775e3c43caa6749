use Rattle.barriers.proofs.Barriers.{numbers_count_up, snapshots_with_last, snapshots_at_first_front, nothing_behind_front}
use Rattle.barriers.proofs.laws.alignment_counts_barriers.Goals as goal

pub returns-clause-numbers : goal.returns-clause-numbers
returns-clause-numbers c = numbers_count_up

pub returns-clause-snapshots : goal.returns-clause-snapshots
returns-clause-snapshots c = snapshots_with_last

pub returns-clause-front : goal.returns-clause-front
returns-clause-front c = snapshots_at_first_front

pub returns-clause-behind : goal.returns-clause-behind
returns-clause-behind c = nothing_behind_front
