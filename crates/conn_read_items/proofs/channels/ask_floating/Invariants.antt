use Rattle.std.proofs.Common.{◌≡◌, []}
use Rattle.turn_cell.specs.Passes.{IsPassOf, mine, number}
use Rattle.conn_parts.specs.Shares.{AreOf}
use Rattle.conn_read_items.specs.Asking.{Asked}
use Rattle.conn_read_items.specs.Taking.{NotedMore}
use Rattle.conn_read_items.proofs.channels.ask_floating.Given as goal

abbrev pub invariant-asks : goal.invariant-asks
invariant-asks g l = record {
  pass : IsPassOf l.cell l.pass;
  reader : number l.pass ≡ 1;
  noted : NotedMore (mine l.initial.pass) (mine l.pass) [];
  asked : Asked l.to (mine l.initial.pass) (mine l.pass) l.initial.pool_passes.items l.pool_passes.items;
  pools : AreOf l.cells.pools.now l.pool_passes.items;
}
