use Rattle.std.proofs.Common.{◌≡◌, ◌≤◌, ◌*◌, ◌^◌, take}
use Rattle.local_pool.specs.Shares.{wishes}
use Rattle.local_pool.proofs.shares.wishes_of.Given as goal

abbrev pub invariant-loop-want : goal.invariant-loop-want
invariant-loop-want l = (l.wishes ≡ wishes (take l.want-index l.wants)) × (l.wishes ≤ l.want-index * 2 ^ 32)
