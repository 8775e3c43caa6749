use Rattle.std.proofs.Common.{arith}
use Rattle.std.proofs.lemmas.Bool.Decides.{nat_tests}
use Rattle.tasks_tests.proofs.OneRow.{one_short}
use Rattle.tasks_tests.proofs.aggregate_task_tests.table_of_one.Goals as goal

pub returns : goal.returns
returns c = one_short _ _ _ _ c.new-table.ensures c.in_ok-set.ensures.ok (grind (arith, nat_tests))
