use Rattle.std.proofs.Common.{length}
use Rattle.collector.specs.Filling.{PutSoFar}
use Rattle.collector.proofs.filling.put_pieces.Given as goal

abbrev pub invariant-pieces : goal.invariant-pieces
invariant-pieces l = PutSoFar l.job l.fn.pieces.items l.rest.items l.fn.list.items l.list.items

abbrev pub decreases-pieces : goal.decreases-pieces
decreases-pieces l = length l.rest.items
