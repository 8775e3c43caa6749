use Rattle.std.proofs.Common.{sym, subst}
use Rattle.turn_cell.specs.Passes.{IsPassOf}
use Rattle.tasks_tests.proofs.aggregate_task_tests.count_by.Goals as goal
use Rattle.tasks_tests.proofs.aggregate_task_tests.count_by.Goals.{in-Some, in_default}

pub look_for_stop-told-requires : goal.look_for_stop-told-requires
look_for_stop-told-requires g c = elim c.match-case.branch [
  | in-Some w ↦ subst (λ p. IsPassOf c.in_ok-stop.stop p) (sym w.other-is) w.tell_cause.ensures.pass.0
  | in_default w ↦ subst (λ p. IsPassOf c.in_ok-stop.stop p) (sym w.other-is) c.in_ok-stop.ensures.second.0
]
