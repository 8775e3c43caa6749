use Rattle.std.proofs.Common.{◌≡◌, ℕ, List}
use Rattle.flow_defs.specs.declared.job.Job.{Job}
use Rattle.task_taking.specs.Takings.{IsSame, IsInStep, HasTaken}
use Rattle.task_taking.proofs.taking.TaskTaking.next.Given as goal

-- only barriers were taken that others of their checkpoint follow
abbrev pub invariant-loop-item : goal.invariant-loop-item
invariant-loop-item g l = record {
  gate : (g.G.Gate.ends l.gate ≡ g.G.Gate.ends l.initial.gate) × ((g.G.Gate.account l.gate).channels ≡ (g.G.Gate.account l.initial.gate).channels);
  same : IsSame l.initial.self l.self;
  in_step : IsInStep (g.G.Gate.account l.gate) l.self;
  closed : l.self.alignment.closed ≡ l.initial.self.alignment.closed;
  took : (job : Job) (e b : ℕ) (groups : List (List (ℕ × List ℕ))) (took : List (ℕ × List ℕ)) → HasTaken job e b (g.G.Gate.account l.initial.gate) (g.G.Gate.shows l.initial.gate) l.initial.self groups took →
      HasTaken job e b (g.G.Gate.account l.gate) (g.G.Gate.shows l.gate) l.self groups took;
}
