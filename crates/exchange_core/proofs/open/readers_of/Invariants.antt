use Rattle.std.proofs.Common.{◌≡◌, ◌-◌, map}
use Rattle.std.specs.List.{range_with_len}
use Rattle.credit_reader.specs.Senders.{sender_of}
use Rattle.exchange_world.specs.Lanes.{channel_id}
use Rattle.exchange_world.specs.Worlds.{requested}
use Rattle.exchange_core.proofs.open.readers_of.Given as goal

abbrev pub invariant-loop-c : goal.invariant-loop-c
invariant-loop-c l = l.ids.items ≡ map channel_id (range_with_len 1 (l.c - 1))

abbrev pub invariant-loop-c-2 : goal.invariant-loop-c-2
invariant-loop-c-2 l = l.readers ≡ requested (range_with_len 1 (l.c - 1)) (sender_of (map channel_id (range_with_len 1 l.channels)))
