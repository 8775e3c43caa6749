use Rattle.std.proofs.Common.{◌≡◌, length}
use Rattle.std.specs.Prelude.{flat_map}
use Rattle.std.specs.Int.{w64, to_be_bytes}
use Rattle.channel_state.specs.Building.{IsBytes, TakesText}
use Rattle.channel_state.proofs.read.read_counts.Given as goal

abbrev pub invariant-loop-i : goal.invariant-loop-i
invariant-loop-i l = record {
  spelled : IsBytes l.fn.cursor.rest.now → TakesText l.fn.cursor.rest.now (flat_map (to_be_bytes w64) l.counts.items) l.cursor.rest.now;
  count : length l.counts.items ≡ l._i;
}
