use Rattle.outside.specs.declared.ring.LinkEntry.TheVariants.{Read}
use Rattle.outside.proofs.link_turns.try_read.Given as goal

abbrev pub ghosts-leave_read : goal.ghosts-leave_read
ghosts-leave_read g a = record { entry = Read a.bytes.now }
