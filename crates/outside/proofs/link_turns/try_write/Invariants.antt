use Rattle.outside.specs.declared.ring.LinkEntry.TheVariants.{Wrote}
use Rattle.outside.proofs.link_turns.try_write.Given as goal

abbrev pub ghosts-leave_wrote : goal.ghosts-leave_wrote
ghosts-leave_wrote g a = record { entry = Wrote a.bytes.now }
