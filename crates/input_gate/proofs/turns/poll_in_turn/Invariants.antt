use Rattle.input_channel.specs.declared.entry.ReceiveEntry.TheVariants.{Poll}
use Rattle.input_channel.specs.Answers.{gave_of}
use Rattle.input_gate.proofs.turns.poll_in_turn.Given as goal

abbrev pub ghosts-leave_polled : goal.ghosts-leave_polled
ghosts-leave_polled g a = record { entry = Poll a.hold (gave_of a.polled.now) }
