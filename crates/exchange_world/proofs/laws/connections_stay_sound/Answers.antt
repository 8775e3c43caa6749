use Rattle.exchange_world.proofs.OpenedLemmas.{opened_is_sound}
use Rattle.exchange_world.proofs.Keeping.{steps_keep_sound, no_frame_is_refused, pools_lend_within}
use Rattle.exchange_world.proofs.laws.connections_stay_sound.Goals as goal

pub returns-clause-opened : goal.returns-clause-opened
returns-clause-opened c = opened_is_sound

pub returns-clause-steps : goal.returns-clause-steps
returns-clause-steps c = steps_keep_sound

pub returns-clause-frames : goal.returns-clause-frames
returns-clause-frames c = no_frame_is_refused

pub returns-clause-pools : goal.returns-clause-pools
returns-clause-pools c = pools_lend_within c.shares_fit.ensures
