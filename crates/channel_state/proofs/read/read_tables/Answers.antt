use Rattle.std.proofs.Common.{length, ap, subst, sym}
use Rattle.channel_state.specs.Building.{IsRead, IsTable, table_part}
use Rattle.channel_state.proofs.BuildLemmas.{none_read, push_read, count_push}
use Rattle.channel_state.proofs.read.read_tables.Goals as goal

pub loop-i-init : goal.loop-i-init
loop-i-init c = record {
  read = λ fits. none_read table_part IsTable c.args.cursor.now.rest.now c.new-tables.result.items c.new-tables.ensures fits;
  count = ap length c.new-tables.ensures;
}

pub loop-i-preserved : goal.loop-i-preserved
loop-i-preserved c =
    let start = c.args.cursor.now.rest.now in
    let rest = c.loop-i.cursor.rest.now in
    let after = c.read_table.new.cursor.rest.now in
    let tables = c.loop-i.tables.items in
    let table = c.in_ok-table.table in
    let inv = c.loop-i.invariant in
    let pushed = c.in_ok-push.ensures.ok in
    record {
      read = λ fits.
          let read = inv.read fits in
          let it = c.in_ok-table.ensures read.spelled.rest_fits in
          subst (IsRead table_part IsTable start after) (sym pushed) (push_read table_part IsTable start rest after tables table read it.spelled it.is_table);
      count = count_push tables c.push.new.self.items table c.loop-i._i pushed inv.count;
    }
