use Rattle.exchange_world.proofs.Turns.{sound_has_turns, sound_numbers_readers}
use Rattle.exchange_world.proofs.laws.sound_has_turns.Goals as goal

pub returns : goal.returns
returns c = record { turns = sound_has_turns; numbers = sound_numbers_readers }
