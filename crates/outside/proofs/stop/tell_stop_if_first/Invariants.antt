use Rattle.outside.specs.declared.stop.StopEntry.TheVariants.{Met}
use Rattle.outside.proofs.stop.tell_stop_if_first.Given as goal

abbrev pub ghosts-leave_met : goal.ghosts-leave_met
ghosts-leave_met g a = record { entry = Met a.cause }
