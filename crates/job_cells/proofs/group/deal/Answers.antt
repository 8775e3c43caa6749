use Rattle.job_cells.proofs.GroupLaws.{still_fresh, last_fresh}
use Rattle.job_cells.proofs.group.deal.Goals as goal

pub returns-clause-fresh : goal.returns-clause-fresh
returns-clause-fresh g c =
    still_fresh c.args.cell.now c.args.passes.now.items c.take_last.new.self.items c.take_last.result c.take_last.ensures.items c.requires.fresh

pub returns-clause-last : goal.returns-clause-last
returns-clause-last g c =
    last_fresh c.args.cell.now c.args.passes.now.items c.take_last.new.self.items c.take_last.result c.take_last.ensures.items c.requires.fresh
