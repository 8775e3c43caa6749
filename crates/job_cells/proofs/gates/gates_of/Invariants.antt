use Rattle.segment_pool.specs.Pools.{size_of}
use Rattle.job_cells.specs.Edges.{HaveShare}
use Rattle.job_cells.specs.Ends.{AreGates}
use Rattle.job_cells.specs.Grants.{gate_want}
use Rattle.job_cells.specs.Lending.{HasLent, MayLend}
use Rattle.job_cells.proofs.gates.gates_of.Given as goal

abbrev pub invariant-loop-made : goal.invariant-loop-made
invariant-loop-made g l = record {
  may : MayLend l.pool l.lender;
  lent : HasLent l._made l.fn.lender l.lender;
  gates : AreGates l._made l.ways (size_of l.pool) l.gates;
  shares : HaveShare l.fn.lender.wants.items (gate_want l.ways) l.gates.pools.cells.items;
}
