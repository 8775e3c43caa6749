use Rattle.std.proofs.Common.{◌≡◌, ◌-◌, ◌^◌, min, take}
use Rattle.std.specs.List.{sum_by}
use Rattle.segment_pool.proofs.close.lent_by.Given as goal

abbrev pub invariant-loop-pass : goal.invariant-loop-pass
invariant-loop-pass l = l.lent ≡ min (sum_by (λ pass. pass.held) (take l.pass-index l.passes)) (2 ^ 32 - 1)
