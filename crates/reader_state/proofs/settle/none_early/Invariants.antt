use Rattle.std.proofs.Common.{◌≡◌, map, take}
use Rattle.reader_state.specs.Ledgers.{none_early}
use Rattle.reader_state.proofs.settle.none_early.Given as goal

abbrev pub invariant-loop-channel : goal.invariant-loop-channel
invariant-loop-channel l = l.early.items ≡ map none_early (take l.channel-index l.channels)
