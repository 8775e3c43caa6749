use Rattle.turn_cell.proofs.Making.{first_made, more_made}
use Rattle.turn_cell.proofs.make.another.Goals as goal

pub split-requires-clause-first : goal.split-requires-clause-first
split-requires-clause-first g c = first_made c.args.cell.now _ c.args.made.now c.index-made-0.result c.requires.made c.requires.room.0

pub returns : goal.returns
returns g c = more_made c.args.cell.now _ c.args.made.now c.split.new.first c.split.result c.requires.made c.requires.room.0 c.split.ensures.first c.split.ensures.further
