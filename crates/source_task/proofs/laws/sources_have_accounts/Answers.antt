use Rattle.source_task.proofs.AccountLemmas.{source_has_account}
use Rattle.source_task.proofs.laws.sources_have_accounts.Goals as goal

pub returns : goal.returns
returns c = record { account = source_has_account c.emits_in_parts.ensures.short }
