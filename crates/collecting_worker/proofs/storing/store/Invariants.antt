use Rattle.outside.specs.declared.stop.StopEntry.TheVariants.{Met}
use Rattle.collecting_worker.proofs.storing.store.Given as goal

-- the entry of the turn is this fault
abbrev pub ghosts-leave_met : goal.ghosts-leave_met
ghosts-leave_met g a = record { entry = Met a.cause }
