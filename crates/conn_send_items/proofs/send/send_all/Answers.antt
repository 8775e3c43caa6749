use Rattle.std.proofs.Common.{ap, refl}
use Rattle.turn_cell.specs.Passes.{mine}
use Rattle.conn_send_items.proofs.Giving.{gives_more, gives_none, gives_quiet}
use Rattle.conn_send_items.proofs.Ends.{until_all, until_memory}
use Rattle.conn_send_items.proofs.Noting.{last_noted}
use Rattle.conn_send_items.proofs.send.send_all.Goals as goal

pub returns-in-Ok-clause-sends : goal.returns-in-Ok-clause-sends
returns-in-Ok-clause-sends g c = let was = c.args.passes.now in let told = c.tell_fronts.new.passes in let now = c.send_until.new.passes in let out = g.O.LinkOut in
    until_all c.args.cells.now.channels.now was.subpartitions.items told.subpartitions.items now.subpartitions.items (mine was.readers) (mine told.readers) (mine now.readers)
    c.in-Ok.room.ended.items c.send_until.new.room.ended.items (out.sent c.args.out.now) (out.sent c.send_until.new.out) (out.faults c.args.out.now) (out.faults c.send_until.new.out)
    c.send_until.result c.requires.new c.in-Ok.ensures.none c.tell_fronts.ensures.quiet c.send_until.ensures.writes
    (last_noted c.args.cells.now now c.send_until.new.room.told.items c.send_until.ensures.told)

pub returns-in-Err-clause-sends : goal.returns-in-Err-clause-sends
returns-in-Err-clause-sends g c = let out = g.O.LinkOut in
    until_memory c.args.cells.now.channels.now c.args.passes.now.subpartitions.items (mine c.args.passes.now.readers) (out.sent c.args.out.now) (out.faults c.args.out.now) c.requires.new

pub returns-in-Ok-clause-gives : goal.returns-in-Ok-clause-gives
returns-in-Ok-clause-gives g c = λ task. let channels = c.args.cells.now.channels.now in let was = c.args.passes.now in let told = c.tell_fronts.new.passes in let now = c.send_until.new.passes in
    gives_more channels task was.subpartitions.items told.subpartitions.items now.subpartitions.items was.pools.items told.pools.items now.pools.items
    (gives_quiet channels task was.subpartitions.items told.subpartitions.items was.pools.items told.pools.items c.tell_fronts.ensures.quiet.took (ap (λ l. l.items) c.tell_fronts.ensures.pools)) (c.send_until.ensures.gives task)

pub returns-in-Err-clause-gives : goal.returns-in-Err-clause-gives
returns-in-Err-clause-gives g c = λ task. let was = c.args.passes.now in
    gives_none c.args.cells.now.channels.now task was.subpartitions.items was.subpartitions.items was.pools.items was.pools.items refl refl
