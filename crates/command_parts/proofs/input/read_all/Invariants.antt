use Rattle.std.proofs.Common.{◌≡◌, ◌≤◌, ◌+◌, ◌-◌, ◌++◌, List, ℕ, length, Some, IfSome}
use Rattle.command_parts.proofs.input.read_all.Given as goal

-- what was read, and then what is left, is all that there was
abbrev pub invariant-reads : goal.invariant-reads
invariant-reads g l = (g.S.Source.faults l.fn.source ≤ g.S.Source.faults l.source) × IfSome (g.S.Source.left l.fn.source) (λ all. (rest : List ℕ) × (g.S.Source.left l.source ≡ Some rest) × (l.bytes.items ++ rest ≡ all))

abbrev pub decreases-reads : goal.decreases-reads
decreases-reads g l = l.most + 1 - length l.bytes.items
