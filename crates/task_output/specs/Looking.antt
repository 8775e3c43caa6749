-- How a task that waits learns that another worker has met a fault. That it looks at the cell that stops all workers, and that looking
-- changes nothing else, is this project's own choice.
use Rattle.std.specs.Prelude.{◌≡◌, ℕ, List}
use Rattle.std.proofs.Common.{refl, ◌∙◌}
use Rattle.turn_cell.specs.Passes.{IsSamePass}
use Rattle.flow_defs.specs.declared.job.Job.{Job}
use Rattle.conn_parts.specs.Stopping.{StopCell, StopPass}
use Rattle.record_writer.specs.Writers.{Writer, IsSame}
use Rattle.task_output.specs.Outputs.{Output, HasSent}

-- ---- a task that sends nothing

-- The cell that stops all workers, and a task's pass of it.
pub record Look : Type 0 where
  pub cell : StopCell
  pub pass : StopPass

-- It looks at the same cell, and has told nothing.
pub record IsSameLook (look look' : Look) : Type 0 where
  pub cell_is : look'.cell ≡ look.cell
  pub pass_is : IsSamePass look.pass look'.pass

pub look_itself : (look : Look) → IsSameLook look look
look_itself look = record { cell_is = refl; pass_is = (refl, refl) }

pub look_twice : (one two three : Look) → IsSameLook one two → IsSameLook two three → IsSameLook one three
look_twice one two three first second = record {
  cell_is = second.cell_is ∙ first.cell_is;
  pass_is = (second.pass_is.0 ∙ first.pass_is.0, second.pass_is.1 ∙ first.pass_is.1);
}

-- ---- a task that sends

-- It writes by the same writer, and has sent what it had.
pub record HasSentNoMore (out out' : Output) : Type 0 where
  pub same : IsSame out.writer out'.writer
  pub still : (from : ℕ) (job : Job) (e a size : ℕ) (groups : List (List (List ℕ))) (records : List (List ℕ)) → HasSent from job e a size out groups records → HasSent from job e a size out' groups records

pub same_itself : (w : Writer) → IsSame w w
same_itself w = record { job = refl; edge = refl; index = refl; cells = refl; first = refl; stride = refl; size = refl; pool = refl; stop = refl; stop_pass = (refl, refl) }

pub same_twice : (w v u : Writer) → IsSame w v → IsSame v u → IsSame w u
same_twice w v u first second = record {
  job = second.job ∙ first.job;
  edge = second.edge ∙ first.edge;
  index = second.index ∙ first.index;
  cells = second.cells ∙ first.cells;
  first = second.first ∙ first.first;
  stride = second.stride ∙ first.stride;
  size = second.size ∙ first.size;
  pool = second.pool ∙ first.pool;
  stop = second.stop ∙ first.stop;
  stop_pass = (second.stop_pass.0 ∙ first.stop_pass.0, second.stop_pass.1 ∙ first.stop_pass.1);
}

pub sent_itself : (out : Output) → HasSentNoMore out out
sent_itself out = record { same = same_itself out.writer; still = λ from job e a size groups records was. was }

pub sent_twice : (one two three : Output) → HasSentNoMore one two → HasSentNoMore two three → HasSentNoMore one three
sent_twice one two three first second = record {
  same = same_twice one.writer two.writer three.writer first.same second.same;
  still = λ from job e a size groups records was. second.still from job e a size groups records (first.still from job e a size groups records was);
}
