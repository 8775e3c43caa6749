use Rattle.reader_state.specs.declared.entry.ReaderEntry.TheVariants.{Sent}
use Rattle.reader_state.proofs.turns.tell_sent.Given as goal

abbrev pub ghosts-leave_sent : goal.ghosts-leave_sent
ghosts-leave_sent g a = record { entry = Sent a.channel a.what a.head a.backlog }
