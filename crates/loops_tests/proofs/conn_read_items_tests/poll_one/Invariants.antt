use Rattle.std.proofs.Common.{false}
use Rattle.input_channel.specs.declared.entry.ReceiveEntry.TheVariants.{Poll}
use Rattle.input_channel.specs.Answers.{gave_of}
use Rattle.loops_tests.proofs.conn_read_items_tests.poll_one.Given as goal

abbrev pub ghosts-leave_poll : goal.ghosts-leave_poll
ghosts-leave_poll g a = record { entry = Poll false (gave_of a.polled.now) }
