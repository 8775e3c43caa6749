use Rattle.task_taking.specs.Takings.{IsInStep}
use Rattle.task_taking.specs.Samples.{account_of}
use Rattle.tasks_tests.proofs.task_taking_tests.take_all.Given as goal

-- the task takes on
abbrev pub invariant-loop-item : goal.invariant-loop-item
invariant-loop-item g l = IsInStep (account_of l.gate.given.items l.gate.first l.gate.second l.gate.over) l.taking
