use Rattle.input_channel.specs.declared.entry.ReceiveEntry.TheVariants.{Push}
use Rattle.input_channel.specs.Answers.{parcel_in}
use Rattle.tasks_tests.proofs.input_gate_tests.arrive.Given as goal

abbrev pub ghosts-leave_push : goal.ghosts-leave_push
ghosts-leave_push g a = record { entry = Push (parcel_in a.a.what a.bytes.now) a.a.backlog }
