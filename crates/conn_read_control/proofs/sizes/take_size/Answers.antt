use Rattle.std.proofs.Common.{arith}
use Rattle.conn_read_control.proofs.Sizing.{heard_size}
use Rattle.conn_read_control.proofs.sizes.take_size.Goals as goal

pub returns-clause-took : goal.returns-clause-took
returns-clause-took g c = let at = c.in-Some.ensures.found.1 in (
  heard_size c.args.cells.now.channels.now c.args.channel c.args.n c.in-Some.place c.args.passes.now.items c.desire_at.new.passes.items c.requires.distinct at c.desire_at.ensures.told,
  ((c.in-Some.place, at), omega (arith, c.if-n-cells.false)),
)
