use Rattle.reader_state.specs.declared.entry.ReaderEntry.TheVariants.{Asked}
use Rattle.reader_state.proofs.turns.take_request.Given as goal

abbrev pub ghosts-leave_asked : goal.ghosts-leave_asked
ghosts-leave_asked g a = record { entry = Asked a.channel a.credit }
