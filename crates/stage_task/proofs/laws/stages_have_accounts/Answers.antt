use Rattle.stage_task.proofs.AccountLemmas.{stage_has_account}
use Rattle.stage_task.proofs.laws.stages_have_accounts.Goals as goal

pub returns : goal.returns
returns c = record { account = stage_has_account c.emits_in_parts.ensures.short c.no_stage_lengthens.ensures.short }
