use Rattle.std.proofs.Common.{[], ◌∷◌, ◌++◌, ap, ◌∙◌, arith}
use Rattle.collector.specs.Pieces.{IsOutOf}
use Rattle.image_tests.proofs.CountingJob.{none, one_channel, one_run}
use Rattle.image_tests.proofs.NoState.{no_keys}
use Rattle.image_tests.proofs.collector_tests.of_count.Goals as goal

pub returns-clause-fits : goal.returns-clause-fits
returns-clause-fits c = record {
  task = (omega arith, omega (arith, c.requires.tasks.1));
  keys = no_keys c.new.result c.new.ensures;
  runs = one_run c.args.job.now _ (one_channel c.args.job.now c.requires.stages c.requires.tasks.0 c.requires.tasks.1) (ap (λ l. l.items) c.takes.view_is ∙ c.in_ok-push.ensures.ok ∙ ap (λ l. l ++ record { from = 0; count = 2 } ∷ []) c.new-takes.ensures);
  saved_in = c.in_ok-piece.ensures.into;
  saved_out = none (IsOutOf c.args.job.now 1 0) c.new-2.result.items c.new-2.ensures;
  ended = λ last _. absurd (cc);
}
