use Rattle.std.proofs.Common.{◌≡◌, ◌≤◌, ◌++◌, length, reverse}
use Rattle.segment_pool.specs.Places.{inner}
use Rattle.segment_pool.proofs.places.gathered.Given as goal

abbrev pub invariant-loop-pass : goal.invariant-loop-pass
invariant-loop-pass l = record {
  all : l.places.items ++ reverse (inner l.rest.items) ≡ inner l.fn.passes.items;
  room : length l.rest.items ≤ l.places.room;
}

abbrev pub decreases-loop-pass : goal.decreases-loop-pass
decreases-loop-pass l = length l.rest.items
