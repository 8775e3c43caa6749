use Rattle.exchange_world.proofs.Taking.{sound_takes_frames}
use Rattle.exchange_world.proofs.Lending.{sound_lends_within}
use Rattle.exchange_world.proofs.laws.sound_takes_and_lends.Goals as goal

pub returns-clause-takes : goal.returns-clause-takes
returns-clause-takes c = sound_takes_frames

pub returns-clause-lends : goal.returns-clause-lends
returns-clause-lends c = sound_lends_within c.shares_fit.ensures
