use Rattle.std.proofs.Common.{◌≡◌, ℕ, ◌+◌, ◌<◌, length, Some}
use Rattle.std.specs.Prelude.{slice_get}
use Rattle.segment_pool.specs.Pools.{size_of}
use Rattle.local_pool.specs.declared.shares.Want.{Want}
use Rattle.job_cells.specs.Edges.{HaveShare}
use Rattle.job_cells.specs.Lending.{HasLent, MayLend}
use Rattle.job_cells.specs.Ends.{ArePools}
use Rattle.job_cells.proofs.pool_cells.partitions_of.Given as goal

abbrev pub invariant-loop-made : goal.invariant-loop-made
invariant-loop-made g l = record {
  may : MayLend l.pool l.lender;
  lent : HasLent l._made l.fn.lender l.lender;
  pools : ArePools (size_of l.pool) l.pools;
  many : length l.pools.cells.items ≡ l._made;
  shares : (want : Want) → ((a : ℕ) → a < l._made → slice_get l.fn.lender.wants.items (l.fn.lender.given + a) ≡ Some want) → HaveShare l.fn.lender.wants.items want l.pools.cells.items;
}
