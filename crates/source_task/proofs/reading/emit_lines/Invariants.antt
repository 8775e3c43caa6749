use Rattle.std.proofs.Common.{◌≤◌, ◌-◌, [], ℕ}
use Rattle.flow_defs.specs.declared.job.Job.{Job}
use Rattle.source_task.specs.Emitting.{IsReading, IsSameSource, HasEmitted}
use Rattle.source_task.proofs.ReadingLemmas.{IsOnWay}
use Rattle.source_task.proofs.reading.emit_lines.Given as goal

-- the lines that ended in what was read, and those of what is left, are those of all that there was
abbrev pub invariant-reads : goal.invariant-reads
invariant-reads g l = record {
  faults : g.S.Source.faults l.initial.input ≤ g.S.Source.faults l.input;
  same : IsSameSource l.initial.output l.output;
  reading : IsReading l.output;
  way : (job : Job) (size : ℕ) → HasEmitted job size l.initial.output [] → IsOnWay job size (g.S.Source.left l.initial.input) (g.S.Source.left l.input) l.taken l.output l.lines.line.items;
}

abbrev pub decreases-reads : goal.decreases-reads
decreases-reads g l = 1099511627777 - l.taken
