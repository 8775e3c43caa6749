use Rattle.local_pool.specs.declared.entry.PoolEntry.TheVariants.{Returned}
use Rattle.local_pool.proofs.turns.give_in_turn.Given as goal

abbrev pub ghosts-leave : goal.ghosts-leave
ghosts-leave g a = record { entry = Returned }
