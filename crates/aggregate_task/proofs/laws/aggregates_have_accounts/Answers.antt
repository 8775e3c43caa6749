use Rattle.aggregate_task.proofs.Accounts.{aggregate_has_account}
use Rattle.aggregate_task.proofs.laws.aggregates_have_accounts.Goals as goal

pub returns : goal.returns
returns c = record { account = aggregate_has_account }
