use Rattle.std.proofs.Common.{◌≡◌, ◌<◌, ◌≤◌, ◌++◌, length, ℕ, List}
use Rattle.conn_parts.specs.Shares.{AreOwn, mine_at, seen_at}
use Rattle.record_writer.specs.Writers.{place_of}
use Rattle.job_ends.specs.Settling.{GoOn, SettledAt}
use Rattle.job_ends.proofs.channels.settle_channels.Given as goal

abbrev pub invariant-channels : goal.invariant-channels
invariant-channels g l = record {
  loops : AreOwn 1 l.cells l.loops.items;
  go_on : GoOn l.initial.loops.items l.loops.items;
  front : (more : List _) × (l.initial.rest.items ≡ l.rest.items ++ more);
  settled : (c : ℕ) → length l.rest.items ≤ c → c < length l.initial.rest.items →
      SettledAt g.S.Turned.stands (mine_at c l.initial.rest.items) (seen_at c l.initial.rest.items)
      (mine_at (place_of l.first l.stride c) l.initial.loops.items) (seen_at (place_of l.first l.stride c) l.initial.loops.items);
}

abbrev pub decreases-channels : goal.decreases-channels
decreases-channels g l = length l.rest.items
