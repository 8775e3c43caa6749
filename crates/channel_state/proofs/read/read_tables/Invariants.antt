use Rattle.std.proofs.Common.{◌≡◌, length}
use Rattle.channel_state.specs.Building.{IsBytes, IsRead, IsTable, table_part}
use Rattle.channel_state.proofs.read.read_tables.Given as goal

abbrev pub invariant-loop-i : goal.invariant-loop-i
invariant-loop-i l = record {
  read : IsBytes l.fn.cursor.rest.now → IsRead table_part IsTable l.fn.cursor.rest.now l.cursor.rest.now l.tables.items;
  count : length l.tables.items ≡ l._i;
}
