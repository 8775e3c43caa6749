use Rattle.std.proofs.Common.{◌≡◌, ◌+◌, ◌<◌, ◌≤◌, ◌∷◌, ◌++◌, length, reverse}
use Rattle.std.specs.List.{All}
use Rattle.segment_pool.specs.Places.{IsNew, inner}
use Rattle.segment_pool.proofs.places.passes_of.Given as goal

abbrev pub invariant-loop-lower : goal.invariant-loop-lower
invariant-loop-lower l = record {
  all : l.rest.items ++ l.lowest ∷ reverse (inner l.passes.items) ≡ l.fn.all.items;
  new : All IsNew l.passes.items;
  room : length l.rest.items < l.passes.room;
  places : length l.fn.all.items ≤ length l.rest.items + l.rest.room;
}

abbrev pub decreases-loop-lower : goal.decreases-loop-lower
decreases-loop-lower l = length l.rest.items
