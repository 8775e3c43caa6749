use Rattle.reader_state.specs.declared.entry.ReaderEntry.TheVariants.{Granted}
use Rattle.reader_state.proofs.turns.take_credit.Given as goal

abbrev pub ghosts-leave_granted : goal.ghosts-leave_granted
ghosts-leave_granted g a = record { entry = Granted a.channel a.credit }
