use Rattle.reader_state.specs.declared.entry.ReaderEntry.TheVariants.{Ready}
use Rattle.reader_state.proofs.turns.tell_ready.Given as goal

abbrev pub ghosts-leave_ready : goal.ghosts-leave_ready
ghosts-leave_ready g a = record { entry = Ready a.channel a.head a.backlog }
