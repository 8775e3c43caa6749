use Rattle.input_channel.specs.declared.entry.ReceiveEntry.TheVariants.{Resume}
use Rattle.conn_send_control.proofs.turns.take_resumption.Given as goal

abbrev pub ghosts-leave_resume : goal.ghosts-leave_resume
ghosts-leave_resume g a = record { entry = Resume }
