use Rattle.std.proofs.Common.{◌≡◌, take}
use Rattle.outside.proofs.memory_files.source_of.Given as goal

-- the numbers before this one are copied
abbrev pub invariant-loop-number : goal.invariant-loop-number
invariant-loop-number l = l.fails.items ≡ take l.number-index l.number-items
