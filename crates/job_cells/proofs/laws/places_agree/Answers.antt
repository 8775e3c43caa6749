use Rattle.job_cells.proofs.Places.{channels_have_places, gates_have_channels}
use Rattle.job_cells.proofs.laws.places_agree.Goals as goal

pub returns-clause-channels : goal.returns-clause-channels
returns-clause-channels c = channels_have_places

pub returns-clause-gates : goal.returns-clause-gates
returns-clause-gates c = gates_have_channels
