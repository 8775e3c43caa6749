use Rattle.std.proofs.Common.{◌≡◌, ◌++◌, ◌∷◌, [], ◌≤◌, true}
use Rattle.flow_defs.specs.declared.image.TakeRun.{TakeRun}
use Rattle.job_text.specs.Shapes.{job_of}
use Rattle.plain_machine.specs.Images.{AreRuns}
use Rattle.channel_state.specs.ImageFaults.{is_sender}
use Rattle.channel_state.specs.Building.{IsBytes, AreRunsSoFar}
use Rattle.channel_state.proofs.read.read_runs.Given as goal

-- and a run of a sender that may follow makes one run more
abbrev pub invariant-loop-i : goal.invariant-loop-i
invariant-loop-i l = record {
  read : IsBytes l.fn.cursor.rest.now → AreRunsSoFar (job_of l.shape) l.edge l.to l._i l.fn.cursor.rest.now l.cursor.rest.now l.runs.items;
  next : (run : TakeRun) → is_sender (job_of l.shape) l.edge l.to l.before run.from ≡ true → 1 ≤ run.count → AreRuns (job_of l.shape) l.edge l.to (l.runs.items ++ run ∷ []);
}
