use Rattle.input_channel.specs.declared.entry.ReceiveEntry.TheVariants.{Credit}
use Rattle.conn_send_control.proofs.turns.take_credit.Given as goal

abbrev pub ghosts-leave_credit : goal.ghosts-leave_credit
ghosts-leave_credit g a = record { entry = Credit a.credit }
