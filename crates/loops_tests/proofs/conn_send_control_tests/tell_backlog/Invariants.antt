use Rattle.input_channel.specs.declared.entry.ReceiveEntry.TheVariants.{Backlog}
use Rattle.loops_tests.proofs.conn_send_control_tests.tell_backlog.Given as goal

abbrev pub ghosts-leave_backlog : goal.ghosts-leave_backlog
ghosts-leave_backlog g a = record { entry = Backlog 1 }
