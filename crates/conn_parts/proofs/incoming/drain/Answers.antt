use Rattle.std.proofs.Common.{rules, arith, ◌∙◌}
use Rattle.conn_parts.proofs.Telling.{came_more}
use Rattle.conn_parts.proofs.incoming.drain.Goals as goal

pub loop-read-preserved : goal.loop-read-preserved
loop-read-preserved g c = let i = c.loop-read.invariant in record {
  came = came_more _ _ _ _ i.came c.in-Ok.ensures.told;
  same = search rules;
  line = c.read.ensures.line ∙ i.line;
  faults = omega (arith, i.faults, c.read.ensures.never_falls);
}
