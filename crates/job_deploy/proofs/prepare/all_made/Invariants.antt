use Rattle.std.proofs.Common.{◌≡◌, ◌+◌, ◌*◌, ◌≤◌, ℕ, suc, length, Some}
use Rattle.std.specs.Prelude.{slice_get}
use Rattle.flow_defs.specs.Jobs.{last_edge, tasks, sum_below}
use Rattle.job_cells.specs.declared.edge.Edge.{Edge}
use Rattle.job_cells.specs.declared.edge.EdgePasses.{EdgePasses}
use Rattle.job_cells.specs.Edges.{ArePassesOf}
use Rattle.job_deploy.specs.Making.{AreMade}
use Rattle.job_deploy.specs.Placing.{AreStops, HasStages, HasStayed}
use Rattle.job_deploy.proofs.prepare.all_made.Given as goal

abbrev pub invariant-edges : goal.invariant-edges
invariant-edges g l = record {
  passes : (k : ℕ) (edge : Edge) (own : EdgePasses) → slice_get l.edges k ≡ Some edge → slice_get l.passes.items k ≡ Some own → ArePassesOf l.job k edge own;
  few : length l.passes.items ≤ last_edge l.job;
  made : AreMade l.job l.size l.fn.shared.every l.fn.shared.snapshots.now l.edges (length l.passes.items) l.made;
  stayed : HasStayed l.fn.shared l.shared;
  stops : AreStops l.shared;
  enough : tasks l.job 0 + sum_below (length l.passes.items) (λ e. 2 * tasks l.job (suc e) + 4) ≤ length l.shared.stops.items;
  theirs : HasStages l.job (suc (length l.passes.items)) l.shared;
}

abbrev pub decreases-edges : goal.decreases-edges
decreases-edges g l = length l.passes.items
