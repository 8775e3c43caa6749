use Rattle.std.proofs.Common.{◌≡◌}
use Rattle.turn_cell.specs.Steps.{IsWaiting, IsAsBefore, ticket}
use Rattle.turn_cell.proofs.enter.wait_for_turn.Given as goal

abbrev pub invariant-loop : goal.invariant-loop
invariant-loop g l = record {
  waits : IsWaiting l.cell l.pass;
  ticket : l.ticket ≡ ticket l.pass;
  same : IsAsBefore l.fn.pass l.pass;
}
