use Rattle.checkpoint_laws.proofs.Growing.{more_is_emitted, one_is_taken}
use Rattle.checkpoint_laws.proofs.laws.chapters_grow.Goals as goal

pub returns : goal.returns
returns c = record { emitted = more_is_emitted c.emits_in_parts.ensures.records c.emits_in_parts.ensures.count c.emits_in_parts.ensures.short; taken = one_is_taken }
