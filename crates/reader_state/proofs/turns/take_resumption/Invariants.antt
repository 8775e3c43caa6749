use Rattle.reader_state.specs.declared.entry.ReaderEntry.TheVariants.{Resumed}
use Rattle.reader_state.proofs.turns.take_resumption.Given as goal

abbrev pub ghosts-leave_resumed : goal.ghosts-leave_resumed
ghosts-leave_resumed g a = record { entry = Resumed a.channel }
