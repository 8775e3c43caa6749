use Rattle.flow_defs.specs.declared.parcel.Parcel.TheVariants as parcels
use Rattle.input_channel.specs.declared.entry.ReceiveEntry.TheVariants.{Push}
use Rattle.loops_tests.proofs.conn_send_control_tests.end_one.Given as goal

abbrev pub ghosts-leave_end : goal.ghosts-leave_end
ghosts-leave_end g a = record { entry = Push parcels.End 0 }
