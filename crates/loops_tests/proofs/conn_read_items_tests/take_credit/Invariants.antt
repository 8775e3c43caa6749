use Rattle.input_channel.specs.declared.entry.ReceiveEntry.TheVariants.{Credit}
use Rattle.loops_tests.proofs.conn_read_items_tests.take_credit.Given as goal

abbrev pub ghosts-leave_credit : goal.ghosts-leave_credit
ghosts-leave_credit g a = record { entry = Credit a.credit }
