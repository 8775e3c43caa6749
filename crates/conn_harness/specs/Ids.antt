-- The channels of one edge to one task, from so many senders.
use Rattle.std.specs.Prelude.{ℕ, List, map}
use Rattle.std.specs.List.{range_with_len}
use Rattle.flow_defs.specs.declared.task.ChannelId.{ChannelId}

-- The channel from a sender.
abbrev pub id_from : ℕ → ChannelId
id_from from = record { edge = 0; from = from; to = 0 }

-- The channels from the first n senders.
abbrev pub ids : ℕ → List ChannelId
ids n = map id_from (range_with_len 0 n)
