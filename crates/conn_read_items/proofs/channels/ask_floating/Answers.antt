use Rattle.std.proofs.Common.{refl, []}
use Rattle.turn_cell.specs.Passes.{mine}
use Rattle.input_channel.specs.declared.entry.ReceiveEntry.TheVariants.{Added}
use Rattle.conn_read_items.proofs.Asking.{asked_none, asked_once, asked_back, asked_more}
use Rattle.conn_read_items.proofs.EntryLaws.{one_more, no_more, more_again}
use Rattle.conn_read_items.proofs.channels.ask_floating.Goals as goal

pub asks-preserved : goal.asks-preserved
asks-preserved g c = let i = c.asks.invariant in record {
  pass = c.add_floating.ensures.pass.0;
  reader = c.add_floating.ensures.pass.1;
  noted = more_again (mine c.args.pass.now) (mine c.asks.pass) (mine c.add_floating.new.pass) [] [] i.noted
      (one_more (mine c.asks.pass) (mine c.add_floating.new.pass) Added refl (rw c.in_default-add_floating.is at c.add_floating.ensures.added));
  asked = asked_more c.args.to (mine c.args.pass.now) (mine c.asks.pass) (mine c.add_floating.new.pass) c.args.pool_passes.now.items c.asks.pool_passes.items c.request_segment.new.passes.items i.asked
      (asked_once c.args.to (mine c.asks.pass) (mine c.add_floating.new.pass) c.asks.pool_passes.items c.request_segment.new.passes.items c.in-Some.ensures.lent (rw c.in_default-add_floating.is at c.add_floating.ensures.added));
  pools = c.request_segment.ensures.passes;
}

pub asks-init : goal.asks-init
asks-init g c = let own = mine c.args.pass.now in let pools = c.args.pool_passes.now.items in record {
  pass = c.requires.pass;
  reader = c.requires.reader;
  noted = no_more own own refl;
  asked = asked_none c.args.to own own pools pools refl refl;
  pools = c.requires.pools;
}

-- The segment that the channel didn't want any more came back.
pub returns-in-Some-add_floating-clause-asked : goal.returns-in-Some-add_floating-clause-asked
returns-in-Some-add_floating-clause-asked g c =
    let own = mine c.asks.pass in let now = mine c.add_floating.new.pass in let pools = c.asks.pool_passes.items in let back = c.give_segment.new.passes.items in
    asked_more c.args.to (mine c.args.pass.now) own now c.args.pool_passes.now.items pools back c.asks.invariant.asked
    (asked_back c.args.to own now pools c.request_segment.new.passes.items back c.in-Some.ensures.lent c.give_segment.ensures.returned c.in-Some-add_floating.ensures.added.0)
