use Rattle.std.proofs.Common.{◌≡◌, ◌≤◌, ◌++◌, ℕ, length, take, drop, Some, IfSome}
use Rattle.command_parts.proofs.output.write_all.Given as goal

-- a front of the bytes was got, and what follows it is left to write
abbrev pub invariant-writes : goal.invariant-writes
invariant-writes g l = (g.O.Sink.faults l.fn.out ≤ g.O.Sink.faults l.out) × IfSome (g.O.Sink.got l.fn.out) (λ had.
    (count : ℕ) × (count ≤ length l.bytes) × (g.O.Sink.got l.out ≡ Some (had ++ take count l.bytes)) × (l.rest ≡ drop count l.bytes))

abbrev pub decreases-writes : goal.decreases-writes
decreases-writes g l = length l.rest
