use Rattle.std.proofs.Common.{◌≡◌, ◌+◌, ◌<◌, ◌≤◌, length, ℕ, Some}
use Rattle.std.specs.Prelude.{slice_get}
use Rattle.outside.specs.Faults.{HasRisen}
use Rattle.job_ends.specs.Edges.{EdgeCarries}
use Rattle.job_ends.specs.Ended.{LinksTell, faults_in, gate_at, own_at}
use Rattle.job_ends.specs.Leaving.{RowsGoOn}
use Rattle.job_ends.specs.Returning.{RowsCameBack}
use Rattle.job_ends.proofs.edges.settle_edges.Given as goal

abbrev pub invariant-loop-number : goal.invariant-loop-number
invariant-loop-number g l = record {
  rows : RowsGoOn (λ s. l.number ≤ s) (λ s. l.number < s) l.fn.rows l.rows;
  many : length l.loops ≡ length l.fn.loops;
  loops : (k : ℕ) → l.number ≤ k → slice_get l.loops k ≡ slice_get l.fn.loops k;
  carry : LinksTell g.N.Out.LinkOut.sent g.N.In.LinkIn.got → (e : ℕ) → e < l.number → EdgeCarries l.job e (own_at l.fn.rows e) (gate_at l.fn.rows e);
  lent : g.N.Links.lent l.net + l.number ≡ g.N.Links.lent l.fn.net;
  never_falls : g.N.Links.faults l.fn.net ≤ g.N.Links.faults l.net;
  wires : RowsCameBack g.N.In.LinkIn.got g.N.In.LinkIn.ended (g.N.Links.wires l.fn.net) (g.N.Links.wires l.net) l.fn.loops l.number;
  fault : (k i : ℕ) (row place : _) → k < l.number → slice_get l.fn.loops k ≡ Some row → slice_get row.items i ≡ Some place → 0 < faults_in g.N.Out.LinkOut.faults g.N.In.LinkIn.faults place → HasRisen (g.N.Links.faults l.fn.net) (g.N.Links.faults l.net);
}
