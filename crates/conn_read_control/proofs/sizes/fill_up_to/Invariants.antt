use Rattle.subpartition.specs.declared.entry.SendEntry.TheVariants.{Size}
use Rattle.conn_read_control.proofs.sizes.fill_up_to.Given as goal

abbrev pub ghosts-leave_size : goal.ghosts-leave_size
ghosts-leave_size g a = record { entry = Size a.n }
