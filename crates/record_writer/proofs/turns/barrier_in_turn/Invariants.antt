use Rattle.subpartition.specs.declared.entry.SendEntry.TheVariants.{PutInline}
use Rattle.record_writer.proofs.turns.barrier_in_turn.Given as goal

abbrev pub ghosts-leave_barrier : goal.ghosts-leave_barrier
ghosts-leave_barrier g a = record { entry = PutInline a.k }
