use Rattle.std.proofs.Common.{◌≡◌}
use Rattle.aggregate_task.specs.Acknowledging.{IsAcking, IsSame, IsCountUnderWay}
use Rattle.aggregate_task.proofs.counting.count_all.Given as goal

-- it has counted what it took so far
abbrev pub invariant-loop-item : goal.invariant-loop-item
invariant-loop-item g l = record {
  gate : (g.G.Gate.ends l.gate ≡ g.G.Gate.ends l.initial.gate) × ((g.G.Gate.account l.gate).channels ≡ (g.G.Gate.account l.initial.gate).channels);
  own : IsAcking l.out;
  same : IsSame l.initial.out l.out;
  way : IsCountUnderWay (g.G.Gate.account l.gate) (g.G.Gate.shows l.gate) l.taking l.counts l.out l.last;
}
