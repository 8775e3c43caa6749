use Rattle.std.proofs.Common.{arith}
use Rattle.command_parts.proofs.Written.{write_on}
use Rattle.command_parts.proofs.output.write_all.Goals as goal

pub writes-preserved : goal.writes-preserved
writes-preserved g c = (
  omega (arith, c.writes.invariant.0, c.in-Ok.ensures.never_falls),
  write_on (g.O.Sink.got c.args.out.now) (g.O.Sink.got c.writes.out) (g.O.Sink.got c.write.new.self) c.args.bytes.now c.writes.rest.now c.in-Ok.count c.in-Ok.ensures.told c.in-Ok.ensures.count c.writes.invariant.1,
)
