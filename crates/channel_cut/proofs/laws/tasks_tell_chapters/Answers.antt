use Rattle.channel_cut.proofs.Working.{worked_is_did, numbers_go_on}
use Rattle.channel_cut.proofs.laws.tasks_tell_chapters.Goals as goal

pub returns : goal.returns
returns c = record { did = worked_is_did c.emits_in_parts.ensures.short; numbers = numbers_go_on }
