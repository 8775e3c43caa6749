use Rattle.input_channel.specs.declared.entry.ReceiveEntry.TheVariants.{Push, Shut}
use Rattle.input_channel.specs.Answers.{parcel_in}
use Rattle.conn_read_items.proofs.turns.accept.Given as goal

abbrev pub ghosts-leave_push : goal.ghosts-leave_push
ghosts-leave_push g a = record { entry = Push (parcel_in a.a.what a.bytes.now) a.a.backlog }

abbrev pub ghosts-leave : goal.ghosts-leave
ghosts-leave g a = record { entry = Shut }
