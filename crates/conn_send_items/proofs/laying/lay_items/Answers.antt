use Rattle.std.proofs.Common.{refl}
use Rattle.turn_cell.specs.Passes.{mine}
use Rattle.conn_send_items.proofs.Giving.{gives_more, gives_none}
use Rattle.conn_send_items.proofs.Saying.{lays_more, lays_quiet, sends_none}
use Rattle.conn_send_items.proofs.laying.lay_items.Goals as goal

pub returns-then-not-send_one-clause-lays : goal.returns-then-not-send_one-clause-lays
returns-then-not-send_one-clause-lays g c = let was = c.args.passes.now in let at = c.loop-passes.passes in let now = c.send_one.new.passes in
    lays_more c.args.cells.now.channels.now was.subpartitions.items at.subpartitions.items now.subpartitions.items (mine was.readers) (mine at.readers) (mine now.readers)
    c.args.room.now.ended.items c.loop-passes.room.ended.items c.send_one.new.room.ended.items c.args.room.now.outgoing c.loop-passes.room.outgoing c.send_one.new.room.outgoing
    c.loop-passes.invariant.lays c.send_one.ensures.lays

pub loop-passes-preserved : goal.loop-passes-preserved
loop-passes-preserved g c = let i = c.loop-passes.invariant in let was = c.args.passes.now in let at = c.loop-passes.passes in let now = c.send_one.new.passes in record {
  passes = c.send_one.ensures.passes;
  stand = c.send_one.ensures.stand;
  ended = c.send_one.ensures.ended;
  told = c.send_one.ensures.told;
  gives = λ task. gives_more c.args.cells.now.channels.now task was.subpartitions.items at.subpartitions.items now.subpartitions.items was.pools.items at.pools.items now.pools.items (i.gives task) (c.send_one.ensures.gives task);
  lays = lays_more c.args.cells.now.channels.now was.subpartitions.items at.subpartitions.items now.subpartitions.items (mine was.readers) (mine at.readers) (mine now.readers)
      c.args.room.now.ended.items c.loop-passes.room.ended.items c.send_one.new.room.ended.items c.args.room.now.outgoing c.loop-passes.room.outgoing c.send_one.new.room.outgoing
      i.lays c.send_one.ensures.lays;
}

pub returns-then-not-send_one-clause-gives : goal.returns-then-not-send_one-clause-gives
returns-then-not-send_one-clause-gives g c = λ task. let was = c.args.passes.now in let at = c.loop-passes.passes in let now = c.send_one.new.passes in
    gives_more c.args.cells.now.channels.now task was.subpartitions.items at.subpartitions.items now.subpartitions.items was.pools.items at.pools.items now.pools.items (c.loop-passes.invariant.gives task) (c.send_one.ensures.gives task)

pub loop-passes-init : goal.loop-passes-init
loop-passes-init g c = let channels = c.args.cells.now.channels.now in let was = c.args.passes.now in record {
  passes = c.requires.passes;
  stand = c.requires.stand;
  ended = c.requires.ended;
  told = c.requires.told;
  gives = λ task. gives_none channels task was.subpartitions.items was.subpartitions.items was.pools.items was.pools.items refl refl;
  lays = lays_quiet channels was.subpartitions.items was.subpartitions.items (mine was.readers) (mine was.readers) c.args.room.now.ended.items c.args.room.now.outgoing
      (sends_none channels was.subpartitions.items (mine was.readers));
}
