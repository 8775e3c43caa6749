use Rattle.std.proofs.Common.{◌≡◌}
use Rattle.task_taking.specs.Takings.{IsInStep}
use Rattle.stage_task.specs.Applying.{IsSameStage, HasOwnPasses, IsStageUnderWay}
use Rattle.stage_task.proofs.applying.apply_all.Given as goal

-- what the stage gives for the records that were taken so far is emitted, and the last checkpoint is still to come
abbrev pub invariant-loop-item : goal.invariant-loop-item
invariant-loop-item g l = record {
  gate : (g.G.Gate.ends l.gate ≡ g.G.Gate.ends l.initial.gate) × ((g.G.Gate.account l.gate).channels ≡ (g.G.Gate.account l.initial.gate).channels);
  same : IsSameStage l.initial.out l.out;
  in_step : IsInStep (g.G.Gate.account l.gate) l.taking;
  under_way : IsStageUnderWay (g.G.Gate.account l.gate) (g.G.Gate.shows l.gate) l.taking l.out;
  own : HasOwnPasses l.out;
}
