use Rattle.std.proofs.Common.{◌++◌, ℕ, List, take}
use Rattle.flow_defs.specs.declared.job.Job.{Job}
use Rattle.record_writer.specs.Writers.{IsOpen, IsSame}
use Rattle.task_output.specs.Outputs.{HasSent, bytes_of}
use Rattle.task_output.proofs.output.TaskOutput.emit_all.Given as goal

-- the records before this one have been emitted
abbrev pub invariant-loop-line : goal.invariant-loop-line
invariant-loop-line g l = record {
  same : IsSame l.initial.self.writer l.self.writer;
  is_open : IsOpen l.self.writer;
  sent : (from : ℕ) (job : Job) (e a size : ℕ) (groups : List (List (List ℕ))) (records : List (List ℕ)) → HasSent from job e a size l.initial.self groups records →
      HasSent from job e a size l.self groups (records ++ bytes_of (take l.line-index l.lines));
}
