use Rattle.reader_state.specs.declared.entry.ReaderEntry.TheVariants.{Told}
use Rattle.reader_state.proofs.turns.next_to_announce.Given as goal

abbrev pub ghosts-leave_told : goal.ghosts-leave_told
ghosts-leave_told g a = record { entry = Told a.channel }
