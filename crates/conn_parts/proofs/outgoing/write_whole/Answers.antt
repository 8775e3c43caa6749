use Rattle.std.proofs.Common.{rules, arith, ◌∙◌}
use Rattle.conn_parts.proofs.Telling.{sent_on}
use Rattle.conn_parts.proofs.outgoing.write_whole.Goals as goal

pub loop-from-preserved : goal.loop-from-preserved
loop-from-preserved g c = let i = c.loop-from.invariant in record {
  within = search rules;
  unfinished = c.write.ensures.unfinished ∙ i.unfinished;
  line = c.write.ensures.line ∙ i.line;
  sent = sent_on _ _ _ c.args.bytes.now c.loop-from.from c.in_ok-count.count i.sent c.in_ok-count.ensures.told;
  faults = omega (arith, i.faults, c.write.ensures.never_falls);
}
