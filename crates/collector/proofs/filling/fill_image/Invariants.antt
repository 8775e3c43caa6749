use Rattle.std.proofs.Common.{length}
use Rattle.collector.specs.Filling.{FilledSoFar}
use Rattle.collector.proofs.filling.fill_image.Given as goal

abbrev pub invariant-tasks : goal.invariant-tasks
invariant-tasks l = FilledSoFar l.job l.fn.snapshots.items l.rest.items l.fn.image l.image

abbrev pub decreases-tasks : goal.decreases-tasks
decreases-tasks l = length l.rest.items
