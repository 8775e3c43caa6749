use Rattle.std.proofs.Common.{true, ℕ, List}
use Rattle.flow_defs.specs.declared.job.Job.{Job}
use Rattle.source_task.specs.Emitting.{IsSource, IsSameSource, IsInterval, HasEmitted}
use Rattle.source_task.proofs.output.SourceOutput.end.Given as goal

-- no line was emitted, and the next checkpoint is one at the end
abbrev pub invariant-loop-checkpoint : goal.invariant-loop-checkpoint
invariant-loop-checkpoint g l = record {
  same : IsSameSource l.initial.self l.self;
  source : IsSource l.self;
  at_end : IsInterval l.self.every l.self.since true;
  emitted : (job : Job) (size : ℕ) (lines : List (List ℕ)) → HasEmitted job size l.initial.self lines → HasEmitted job size l.self lines;
}
