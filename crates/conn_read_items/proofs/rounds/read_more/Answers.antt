use Rattle.std.proofs.Common.{refl}
use Rattle.conn_read_items.proofs.Asking.{for_none}
use Rattle.conn_read_items.proofs.RoundLaws.{went_on_read}
use Rattle.conn_read_items.proofs.rounds.read_more.Goals as goal

pub returns-else-count-eq0-clause-went_on : goal.returns-else-count-eq0-clause-went_on
returns-else-count-eq0-clause-went_on g c = let passes = c.args.passes.now.inputs.items in
    went_on_read c.args.cells.now.channels.now passes passes (g.I.LinkIn.got c.args.input.now) (g.I.LinkIn.got c.read_from.new.input) c.args.incoming.now c.read_from.new.self c.in-Ok.count refl c.in-Ok.ensures.came

pub returns-then-count-eq0-clause-asked : goal.returns-then-count-eq0-clause-asked
returns-then-count-eq0-clause-asked g c = λ task. for_none c.args.cells.now.channels.now task c.args.passes.now _ refl refl

pub returns-else-count-eq0-clause-asked : goal.returns-else-count-eq0-clause-asked
returns-else-count-eq0-clause-asked g c = λ task. for_none c.args.cells.now.channels.now task c.args.passes.now _ refl refl

pub returns-in-Err-clause-asked : goal.returns-in-Err-clause-asked
returns-in-Err-clause-asked g c = λ task. for_none c.args.cells.now.channels.now task c.args.passes.now _ refl refl
