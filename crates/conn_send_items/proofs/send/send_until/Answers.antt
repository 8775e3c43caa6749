use Rattle.std.proofs.Common.{◌∙◌, refl, sym, arith}
use Rattle.turn_cell.specs.Passes.{mine}
use Rattle.conn_send_items.proofs.Giving.{gives_more, gives_none}
use Rattle.conn_send_items.proofs.Ends.{written_none, written_more, until_link}
use Rattle.conn_send_items.proofs.send.send_until.Goals as goal

pub returns-in-Err-clause-writes : goal.returns-in-Err-clause-writes
returns-in-Err-clause-writes g c = let was = c.args.passes.now in let at = c.loop-round.passes in let now = c.round.new.passes in let i = c.loop-round.invariant in let out = g.O.LinkOut in
    until_link c.args.cells.now.channels.now was.subpartitions.items at.subpartitions.items now.subpartitions.items (mine was.readers) (mine at.readers) (mine now.readers)
    c.args.room.now.ended.items c.loop-round.room.ended.items c.round.new.room.ended.items (out.sent c.args.out.now) (out.sent c.loop-round.out) (out.sent c.round.new.out)
    (out.faults c.args.out.now) (out.faults c.loop-round.out) (out.faults c.round.new.out) i.written c.in-Err.field-0 i.faults c.in-Err.ensures.writes

pub loop-round-init : goal.loop-round-init
loop-round-init g c = let was = c.args.passes.now in let out = g.O.LinkOut in record {
  passes = c.requires.passes;
  stand = c.requires.stand;
  told = c.requires.told;
  ended = c.requires.ended;
  empty = c.requires.empty;
  unfinished = refl;
  line = refl;
  faults = omega arith;
  gives = λ task. gives_none c.args.cells.now.channels.now task was.subpartitions.items was.subpartitions.items was.pools.items was.pools.items refl refl;
  written = written_none c.args.cells.now.channels.now was.subpartitions.items (mine was.readers) c.args.room.now.ended.items (out.sent c.args.out.now);
  stop = c.requires.stop;
  stop_same = (refl, refl);
  calm = λ e. let n = c.new-watch.ensures in absurd (cc);
}

pub loop-round-preserved-then-some : goal.loop-round-preserved-then-some
loop-round-preserved-then-some g c = let was = c.args.passes.now in let at = c.loop-round.passes in let now = c.round.new.passes in let i = c.loop-round.invariant in let out = g.O.LinkOut in record {
  passes = c.round.ensures.passes;
  stand = c.round.ensures.stand;
  told = c.round.ensures.told;
  ended = c.round.ensures.ended;
  empty = c.round.ensures.empty;
  unfinished = c.round.ensures.unfinished ∙ i.unfinished;
  line = c.round.ensures.line ∙ i.line;
  faults = omega (arith, i.faults, c.round.ensures.never_falls);
  gives = λ task. gives_more c.args.cells.now.channels.now task was.subpartitions.items at.subpartitions.items now.subpartitions.items was.pools.items at.pools.items now.pools.items (i.gives task) (c.round.ensures.gives task);
  written = written_more c.args.cells.now.channels.now was.subpartitions.items at.subpartitions.items now.subpartitions.items (mine was.readers) (mine at.readers) (mine now.readers)
      c.args.room.now.ended.items c.loop-round.room.ended.items c.round.new.room.ended.items (out.sent c.args.out.now) (out.sent c.loop-round.out) (out.sent c.round.new.out)
      (out.faults c.args.out.now) (out.faults c.loop-round.out) (out.faults c.round.new.out) i.written c.in-Ok.some c.in-Ok.ensures.writes;
  stop = c.look.ensures.pass.0;
  stop_same = (c.look.ensures.pass.1.0 ∙ i.stop_same.0, c.look.ensures.pass.1.1 ∙ i.stop_same.1);
  calm = λ _. sym (sym c.in_default.is ∙ c.look.ensures.answer);
}

pub loop-round-preserved : goal.loop-round-preserved
loop-round-preserved g c = let was = c.args.passes.now in let at = c.loop-round.passes in let now = c.round.new.passes in let i = c.loop-round.invariant in let out = g.O.LinkOut in record {
  passes = c.round.ensures.passes;
  stand = c.round.ensures.stand;
  told = c.round.ensures.told;
  ended = c.round.ensures.ended;
  empty = c.round.ensures.empty;
  unfinished = c.round.ensures.unfinished ∙ i.unfinished;
  line = c.round.ensures.line ∙ i.line;
  faults = omega (arith, i.faults, c.round.ensures.never_falls);
  gives = λ task. gives_more c.args.cells.now.channels.now task was.subpartitions.items at.subpartitions.items now.subpartitions.items was.pools.items at.pools.items now.pools.items (i.gives task) (c.round.ensures.gives task);
  written = written_more c.args.cells.now.channels.now was.subpartitions.items at.subpartitions.items now.subpartitions.items (mine was.readers) (mine at.readers) (mine now.readers)
      c.args.room.now.ended.items c.loop-round.room.ended.items c.round.new.room.ended.items (out.sent c.args.out.now) (out.sent c.loop-round.out) (out.sent c.round.new.out)
      (out.faults c.args.out.now) (out.faults c.loop-round.out) (out.faults c.round.new.out) i.written c.in-Ok.some c.in-Ok.ensures.writes;
  stop = c.look.ensures.pass.0;
  stop_same = (c.look.ensures.pass.1.0 ∙ i.stop_same.0, c.look.ensures.pass.1.1 ∙ i.stop_same.1);
  calm = λ _. sym (sym c.in_default.is ∙ c.look.ensures.answer);
}

pub returns-in-Err-clause-gives : goal.returns-in-Err-clause-gives
returns-in-Err-clause-gives g c = λ task. let was = c.args.passes.now in let at = c.loop-round.passes in let now = c.round.new.passes in let i = c.loop-round.invariant in
    gives_more c.args.cells.now.channels.now task was.subpartitions.items at.subpartitions.items now.subpartitions.items was.pools.items at.pools.items now.pools.items (i.gives task) (c.round.ensures.gives task)
