use Rattle.std.proofs.Common.{◌≡◌, ◌++◌, ℕ, List, length}
use Rattle.flow_defs.specs.declared.job.Job.{Job}
use Rattle.flow_defs.specs.Lines.{lines}
use Rattle.source_task.specs.Emitting.{IsReading, IsSameSource}
use Rattle.source_task.specs.Cutting.{IsSourceUnderWay}
use Rattle.source_task.proofs.lines.Lines.feed.Given as goal

-- some lines have ended in what was taken, and whatever comes after the bytes, the lines of the rest follow these
abbrev pub invariant-lines : goal.invariant-lines
invariant-lines g l = record {
  same : IsSameSource l.initial.output l.output;
  reading : IsReading l.output;
  cut : (job : Job) (size : ℕ) (ended : List (List ℕ)) → IsSourceUnderWay job size l.initial.output l.initial.self.line.items ended → (more_ended : List (List ℕ)) × IsSourceUnderWay job size l.output l.self.line.items (ended ++ more_ended)
      × ((more : List ℕ) → lines (l.initial.self.line.items ++ (l.bytes ++ more)) ≡ more_ended ++ lines (l.self.line.items ++ (l.rest ++ more)));
}

abbrev pub decreases-lines : goal.decreases-lines
decreases-lines g l = length l.rest
