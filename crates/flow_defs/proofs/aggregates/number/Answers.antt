use Rattle.std.proofs.Common.{◌≡◌, arith, ap, sym, ◌∙◌}
use Rattle.std.proofs.lemmas.Grind.{common_steps}
use Rattle.std.proofs.lemmas.Bool.Decides.{nat_tests}
use Rattle.flow_defs.proofs.NumberLemmas.{reduced, dropped}
use Rattle.flow_defs.proofs.aggregates.number.Goals as goal

pub loop-byte-preserved : goal.loop-byte-preserved
loop-byte-preserved c =
    grind (arith, common_steps, nat_tests, dropped c.args.bytes.now c.loop-byte.byte-index c.loop-byte-test.true, reduced)
