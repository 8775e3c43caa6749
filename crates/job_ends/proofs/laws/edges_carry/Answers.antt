use Rattle.job_ends.proofs.Carrying as carrying
use Rattle.job_ends.proofs.laws.edges_carry.Goals as goal

pub returns : goal.returns
returns c = carrying.edges_carry (record { ends = c.ends_are_cut.ensures.ends; by_passes = c.channels_stand_for_histories.ensures.passes }) c.places_agree.ensures.channels
