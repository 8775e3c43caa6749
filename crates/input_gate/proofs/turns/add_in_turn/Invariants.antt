use Rattle.input_channel.specs.declared.entry.ReceiveEntry.TheVariants.{Added}
use Rattle.input_gate.proofs.turns.add_in_turn.Given as goal

abbrev pub ghosts-leave : goal.ghosts-leave
ghosts-leave g a = record { entry = Added }
