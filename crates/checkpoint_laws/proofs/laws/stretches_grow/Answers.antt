use Rattle.checkpoint_laws.proofs.Stretches.{data_grow, barrier_begins, end_adds_nothing}
use Rattle.checkpoint_laws.proofs.laws.stretches_grow.Goals as goal

pub returns : goal.returns
returns c = record { «data» = data_grow; barrier = barrier_begins; end = end_adds_nothing }
