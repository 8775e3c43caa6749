use Rattle.std.proofs.Common.{arith}
use Rattle.collector.specs.Pieces.{IsInto}
use Rattle.image_tests.proofs.CountingJob.{none}
use Rattle.image_tests.proofs.NoState.{no_keys}
use Rattle.image_tests.proofs.collector_tests.of_source.Goals as goal

pub returns-clause-fits : goal.returns-clause-fits
returns-clause-fits c = record {
  task = (omega arith, omega (arith, c.requires.tasks.0));
  keys = no_keys c.new.result c.new.ensures;
  runs = c.new-2.ensures;
  saved_in = none (IsInto c.args.job.now 0 0) c.new-3.result.items c.new-3.ensures;
  saved_out = c.in_ok-piece.ensures.out_of;
  ended = λ last _. absurd (cc);
}
