use Rattle.std.proofs.Common.{◌≡◌, [], length}
use Rattle.std.specs.List.{All}
use Rattle.flow_defs.specs.Items.{Items}
use Rattle.job_deploy.proofs.takers.flights_of.Given as goal

abbrev pub invariant-loop-made : goal.invariant-loop-made
invariant-loop-made l = record {
  many : length l.flights.items ≡ l._made;
  empty : All (λ (flight : Items _). flight.items ≡ []) l.flights.items;
}
