use Rattle.segment_pool.specs.declared.stock.Dealing.TheVariants.{Given}
use Rattle.segment_pool.proofs.turns.put_in.Given as goal

abbrev pub ghosts-leave : goal.ghosts-leave
ghosts-leave g a = record { entry = Given }
