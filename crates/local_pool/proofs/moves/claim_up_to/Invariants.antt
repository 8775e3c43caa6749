use Rattle.std.proofs.Common.{◌≡◌, ◌+◌, ◌≤◌, length, replicate}
use Rattle.std.specs.List.{All}
use Rattle.segment_pool.specs.declared.stock.Dealing.TheVariants.{Claimed}
use Rattle.segment_pool.specs.Passes.{out}
use Rattle.segment_pool.specs.Pools.{IsPassOf, size_of}
use Rattle.local_pool.specs.Moves.{HasDone}
use Rattle.local_pool.proofs.moves.claim_up_to.Given as goal

abbrev pub invariant-loop-claim : goal.invariant-loop-claim
invariant-loop-claim g l = record {
  pass : IsPassOf l.pool l.pass;
  done : HasDone (replicate l._claim Claimed) l.fn.pass l.pass;
  out : out l.pass ≡ out l.fn.pass + l._claim;
  count : length l.segments.items ≡ l._claim;
  room : l.need ≤ length l.segments.items + l.segments.room;
  sizes : All (λ segment. length segment ≡ size_of l.pool) l.segments.items;
}
