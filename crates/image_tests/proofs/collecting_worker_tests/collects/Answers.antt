use Rattle.std.proofs.Common.{sym, subst}
use Rattle.turn_cell.specs.Passes.{IsPassOf}
use Rattle.image_tests.proofs.collecting_worker_tests.collects.Goals as goal
use Rattle.image_tests.proofs.collecting_worker_tests.collects.Goals.{then-case, else-case}

pub look_for_stop-requires : goal.look_for_stop-requires
look_for_stop-requires g c = elim c.if-case.branch [
  | then-case w ↦ subst (λ p. IsPassOf c.in_ok-stop.stop p) (sym w.other-is) w.tell_stop.ensures.pass.0
  | else-case w ↦ subst (λ p. IsPassOf c.in_ok-stop.stop p) (sym w.other-is) c.in_ok-stop.ensures.second.0
]
