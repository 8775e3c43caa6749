use Rattle.input_channel.specs.declared.entry.ReceiveEntry.TheVariants.{Ask}
use Rattle.input_gate.proofs.turns.ask_in_turn.Given as goal

abbrev pub ghosts-leave : goal.ghosts-leave
ghosts-leave g a = record { entry = Ask }
