use Rattle.std.proofs.Common.{◌≡◌, map, take}
use Rattle.credit_reader.specs.Readers.{fresh}
use Rattle.credit_reader.proofs.readers.Readers.new.Given as goal

abbrev pub invariant-loop-channel : goal.invariant-loop-channel
invariant-loop-channel l = l.all.items ≡ map fresh (take l.channel-index l.channels)
