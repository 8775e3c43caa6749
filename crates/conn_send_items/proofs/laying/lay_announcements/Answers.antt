use Rattle.std.proofs.Common.{refl, ◌∙◌}
use Rattle.turn_cell.specs.Passes.{mine}
use Rattle.conn_send_items.proofs.Saying.{lays_more, lays_quiet, sends_none}
use Rattle.conn_send_items.proofs.laying.lay_announcements.Goals as goal

pub returns-then-not-announce_one-clause-lays : goal.returns-then-not-announce_one-clause-lays
returns-then-not-announce_one-clause-lays g c = let was = c.args.passes.now in let at = c.loop-passes.passes in let now = c.announce_one.new.passes in
    lays_more c.args.cells.now.channels.now was.subpartitions.items at.subpartitions.items now.subpartitions.items (mine was.readers) (mine at.readers) (mine now.readers)
    c.args.room.now.ended.items c.loop-passes.room.ended.items c.announce_one.new.room.ended.items c.args.room.now.outgoing c.loop-passes.room.outgoing c.announce_one.new.room.outgoing
    c.loop-passes.invariant.lays c.announce_one.ensures.lays

pub loop-passes-preserved : goal.loop-passes-preserved
loop-passes-preserved g c = let i = c.loop-passes.invariant in let was = c.args.passes.now in let at = c.loop-passes.passes in let now = c.announce_one.new.passes in record {
  passes = c.announce_one.ensures.passes;
  stand = c.announce_one.ensures.stand;
  ended = c.announce_one.ensures.ended ∙ i.ended;
  told = c.announce_one.ensures.told;
  kept = (c.announce_one.ensures.kept.0 ∙ i.kept.0, c.announce_one.ensures.kept.1 ∙ i.kept.1);
  lays = lays_more c.args.cells.now.channels.now was.subpartitions.items at.subpartitions.items now.subpartitions.items (mine was.readers) (mine at.readers) (mine now.readers)
      c.args.room.now.ended.items c.loop-passes.room.ended.items c.announce_one.new.room.ended.items c.args.room.now.outgoing c.loop-passes.room.outgoing c.announce_one.new.room.outgoing
      i.lays c.announce_one.ensures.lays;
}

pub loop-passes-init : goal.loop-passes-init
loop-passes-init g c = let channels = c.args.cells.now.channels.now in let was = c.args.passes.now in record {
  passes = c.requires.passes;
  stand = c.requires.stand;
  ended = refl;
  told = c.requires.told;
  kept = (refl, refl);
  lays = lays_quiet channels was.subpartitions.items was.subpartitions.items (mine was.readers) (mine was.readers) c.args.room.now.ended.items c.args.room.now.outgoing
      (sends_none channels was.subpartitions.items (mine was.readers));
}
