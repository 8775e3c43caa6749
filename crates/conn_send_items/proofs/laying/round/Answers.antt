use Rattle.turn_cell.specs.Passes.{mine}
use Rattle.std.proofs.Common.{ap}
use Rattle.conn_send_items.proofs.Giving.{round_gives}
use Rattle.conn_send_items.proofs.Saying.{round_lays, writes_ok, writes_err}
use Rattle.conn_send_items.proofs.laying.round.Goals as goal

pub returns-then-sent-clause-writes : goal.returns-then-sent-clause-writes
returns-then-sent-clause-writes g c =
    let channels = c.args.cells.now.channels.now in let was = c.args.passes.now in let told = c.tell_new_fronts.new.passes in let sent = c.lay_items-sent.new.passes in let now = c.lay_announcements-announced.new.passes in
    let first = c.args.room.now in let laid = c.lay_items-sent.new.room in let last = c.lay_announcements-announced.new.room in
    let lays = round_lays channels was.subpartitions.items told.subpartitions.items sent.subpartitions.items now.subpartitions.items (mine was.readers) (mine told.readers) (mine sent.readers) (mine now.readers)
    first.ended.items laid.ended.items last.ended.items first.outgoing laid.outgoing last.outgoing c.requires.empty c.tell_new_fronts.ensures.quiet c.lay_items-sent.ensures.lays c.lay_announcements-announced.ensures.lays in
    let out = g.O.LinkOut in
    writes_ok channels was.subpartitions.items now.subpartitions.items (mine was.readers) (mine now.readers) first.ended.items last.ended.items last.outgoing lays (out.sent c.args.out.now) (out.sent c.write_to.new.out) (out.faults c.args.out.now) (out.faults c.write_to.new.out) c.lay_items-sent.result c.in-Ok.ensures.written

pub returns-else-sent-clause-writes : goal.returns-else-sent-clause-writes
returns-else-sent-clause-writes g c =
    let channels = c.args.cells.now.channels.now in let was = c.args.passes.now in let told = c.tell_new_fronts.new.passes in let sent = c.lay_items-sent.new.passes in let now = c.lay_announcements-announced.new.passes in
    let first = c.args.room.now in let laid = c.lay_items-sent.new.room in let last = c.lay_announcements-announced.new.room in
    let lays = round_lays channels was.subpartitions.items told.subpartitions.items sent.subpartitions.items now.subpartitions.items (mine was.readers) (mine told.readers) (mine sent.readers) (mine now.readers)
    first.ended.items laid.ended.items last.ended.items first.outgoing laid.outgoing last.outgoing c.requires.empty c.tell_new_fronts.ensures.quiet c.lay_items-sent.ensures.lays c.lay_announcements-announced.ensures.lays in
    let out = g.O.LinkOut in
    writes_ok channels was.subpartitions.items now.subpartitions.items (mine was.readers) (mine now.readers) first.ended.items last.ended.items last.outgoing lays (out.sent c.args.out.now) (out.sent c.write_to.new.out) (out.faults c.args.out.now) (out.faults c.write_to.new.out) c.lay_announcements-announced.result c.in-Ok.ensures.written

pub returns-in-Err-clause-writes : goal.returns-in-Err-clause-writes
returns-in-Err-clause-writes g c =
    let channels = c.args.cells.now.channels.now in let was = c.args.passes.now in let told = c.tell_new_fronts.new.passes in let sent = c.lay_items-sent.new.passes in let now = c.lay_announcements-announced.new.passes in
    let first = c.args.room.now in let laid = c.lay_items-sent.new.room in let last = c.lay_announcements-announced.new.room in
    let lays = round_lays channels was.subpartitions.items told.subpartitions.items sent.subpartitions.items now.subpartitions.items (mine was.readers) (mine told.readers) (mine sent.readers) (mine now.readers)
    first.ended.items laid.ended.items last.ended.items first.outgoing laid.outgoing last.outgoing c.requires.empty c.tell_new_fronts.ensures.quiet c.lay_items-sent.ensures.lays c.lay_announcements-announced.ensures.lays in
    let out = g.O.LinkOut in
    writes_err channels was.subpartitions.items now.subpartitions.items (mine was.readers) (mine now.readers) first.ended.items last.ended.items last.outgoing lays (out.sent c.args.out.now) (out.sent c.write_to.new.out) (out.faults c.args.out.now) (out.faults c.write_to.new.out) c.in-Err.failed c.in-Err.ensures.written

pub returns-then-sent-clause-gives : goal.returns-then-sent-clause-gives
returns-then-sent-clause-gives g c = λ task.
    let was = c.args.passes.now in let told = c.tell_new_fronts.new.passes in let sent = c.lay_items-sent.new.passes in let now = c.lay_announcements-announced.new.passes in
    round_gives c.args.cells.now.channels.now task was.subpartitions.items told.subpartitions.items sent.subpartitions.items now.subpartitions.items was.pools.items told.pools.items sent.pools.items now.pools.items
    c.tell_new_fronts.ensures.quiet.took (ap (λ l. l.items) c.tell_new_fronts.ensures.pools) (c.lay_items-sent.ensures.gives task)
    (ap (λ l. l.items) c.lay_announcements-announced.ensures.kept.0) (ap (λ l. l.items) c.lay_announcements-announced.ensures.kept.1)

pub returns-else-sent-clause-gives : goal.returns-else-sent-clause-gives
returns-else-sent-clause-gives g c = λ task.
    let was = c.args.passes.now in let told = c.tell_new_fronts.new.passes in let sent = c.lay_items-sent.new.passes in let now = c.lay_announcements-announced.new.passes in
    round_gives c.args.cells.now.channels.now task was.subpartitions.items told.subpartitions.items sent.subpartitions.items now.subpartitions.items was.pools.items told.pools.items sent.pools.items now.pools.items
    c.tell_new_fronts.ensures.quiet.took (ap (λ l. l.items) c.tell_new_fronts.ensures.pools) (c.lay_items-sent.ensures.gives task)
    (ap (λ l. l.items) c.lay_announcements-announced.ensures.kept.0) (ap (λ l. l.items) c.lay_announcements-announced.ensures.kept.1)

pub returns-in-Err-clause-gives : goal.returns-in-Err-clause-gives
returns-in-Err-clause-gives g c = λ task.
    let was = c.args.passes.now in let told = c.tell_new_fronts.new.passes in let sent = c.lay_items-sent.new.passes in let now = c.lay_announcements-announced.new.passes in
    round_gives c.args.cells.now.channels.now task was.subpartitions.items told.subpartitions.items sent.subpartitions.items now.subpartitions.items was.pools.items told.pools.items sent.pools.items now.pools.items
    c.tell_new_fronts.ensures.quiet.took (ap (λ l. l.items) c.tell_new_fronts.ensures.pools) (c.lay_items-sent.ensures.gives task)
    (ap (λ l. l.items) c.lay_announcements-announced.ensures.kept.0) (ap (λ l. l.items) c.lay_announcements-announced.ensures.kept.1)
