use Rattle.subpartition.proofs.Travelling.{barrier_splits_data, inline_overtakes_nothing, put_stays}
use Rattle.subpartition.proofs.laws.barriers_part_data.Goals as goal

pub returns : goal.returns
returns c = record { splits = barrier_splits_data; inline = inline_overtakes_nothing; stays = put_stays }
