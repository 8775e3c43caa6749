use Rattle.std.proofs.Common.{false}
use Rattle.input_channel.specs.declared.entry.ReceiveEntry.TheVariants.{Poll}
use Rattle.input_channel.specs.Answers.{gave_of}
use Rattle.conn_harness.proofs.inlet.poll_in_turn.Given as goal

abbrev pub ghosts-leave_polled : goal.ghosts-leave_polled
ghosts-leave_polled g a = record { entry = Poll false (gave_of a.polled.now) }
