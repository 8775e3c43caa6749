-- By what a task acknowledges checkpoints, in turn after turn.
use Rattle.std.proofs.Common.{◌∙◌, refl}
use Rattle.turn_cell.specs.Passes.{seen}
use Rattle.turn_cell.proofs.Lists.{starts_itself, starts_on}
use Rattle.task_output.specs.declared.acks.Acks.{Acks}
use Rattle.task_output.specs.Acking.{IsSameTask}

pub task_itself : (acks : Acks) → IsSameTask acks acks
task_itself acks = record { snapshots = refl; last_image = refl; base = refl; task = refl; later = starts_itself (seen acks.last_pass) }

pub task_twice : (one two three : Acks) → IsSameTask one two → IsSameTask two three → IsSameTask one three
task_twice one two three first second = record {
  snapshots = second.snapshots ∙ first.snapshots;
  last_image = second.last_image ∙ first.last_image;
  base = second.base ∙ first.base;
  task = second.task ∙ first.task;
  later = starts_on (seen three.last_pass) (seen two.last_pass) (seen one.last_pass) second.later first.later;
}
