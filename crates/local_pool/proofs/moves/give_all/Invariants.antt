use Rattle.std.proofs.Common.{◌≡◌, ◌+◌, ◌-◌, ◌≤◌, length, replicate}
use Rattle.std.specs.List.{All}
use Rattle.segment_pool.specs.declared.stock.Dealing.TheVariants.{Given}
use Rattle.segment_pool.specs.Passes.{out}
use Rattle.segment_pool.specs.Pools.{IsPassOf, size_of}
use Rattle.local_pool.specs.Moves.{HasDone}
use Rattle.local_pool.proofs.moves.give_all.Given as goal

abbrev pub invariant-loop-segment : goal.invariant-loop-segment
invariant-loop-segment g l = record {
  pass : IsPassOf l.pool l.pass;
  done : HasDone (replicate (length l.fn.segments.items - length l.rest.items) Given) l.fn.pass l.pass;
  out : out l.fn.pass + length l.rest.items ≡ out l.pass + length l.fn.segments.items;
  few : length l.rest.items ≤ length l.fn.segments.items;
  sizes : All (λ segment. length segment ≡ size_of l.pool) l.rest.items;
}

abbrev pub decreases-loop-segment : goal.decreases-loop-segment
decreases-loop-segment g l = length l.rest.items
