use Rattle.input_channel.specs.declared.entry.ReceiveEntry.TheVariants.{Returned}
use Rattle.conn_harness.proofs.inlet.return_in_turn.Given as goal

abbrev pub ghosts-leave_returned : goal.ghosts-leave_returned
ghosts-leave_returned g a = record { entry = Returned a.exclusive }
