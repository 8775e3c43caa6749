use Rattle.std.proofs.Common.{◌≡◌, ℕ, length}
use Rattle.std.specs.Prelude.{slice_get, Some}
use Rattle.segment_pool.specs.Pools.{size_of}
use Rattle.job_cells.specs.declared.edge.Edge.{Edge}
use Rattle.job_cells.specs.declared.edge.EdgePasses.{EdgePasses}
use Rattle.job_cells.specs.Edges.{IsEdgeOf, ArePassesOf}
use Rattle.job_cells.specs.Lending.{MayLend, IsAt}
use Rattle.job_cells.proofs.open.open_edges.Given as goal

abbrev pub invariant-loop-e : goal.invariant-loop-e
invariant-loop-e g l = record {
  may : MayLend l.pool l.lender;
  at : IsAt l.job l.e l.lender;
  many_edges : length l.edges.items ≡ l.e;
  edge : (k : ℕ) (edge : Edge) → slice_get l.edges.items k ≡ Some edge → IsEdgeOf l.job k (size_of l.pool) edge;
  many_passes : length l.all.items ≡ l.e;
  passes : (k : ℕ) (edge : Edge) (passes : EdgePasses) → slice_get l.edges.items k ≡ Some edge → slice_get l.all.items k ≡ Some passes → ArePassesOf l.job k edge passes;
}
