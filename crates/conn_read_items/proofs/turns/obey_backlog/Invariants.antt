use Rattle.input_channel.specs.declared.entry.ReceiveEntry.TheVariants.{Backlog}
use Rattle.conn_read_items.proofs.turns.obey_backlog.Given as goal

abbrev pub ghosts-leave_backlog : goal.ghosts-leave_backlog
ghosts-leave_backlog g a = record { entry = Backlog a.n }
