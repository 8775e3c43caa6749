use Rattle.std.proofs.Common.{sym, ◌∙◌}
use Rattle.snapshot_channel.specs.Passes.{opening_of}
use Rattle.image_tests.proofs.snapshot_channel_tests.send_next.Goals as goal

pub send-requires-clause-may : goal.send-requires-clause-may
send-requires-clause-may g c = record {
  task_is = c.told.ensures.task ∙ sym c.requires.task;
  number_is = c.told.ensures.number ∙ c.requires.number;
  fits = c.told.ensures.fits (opening_of c.args.channel.now).job;
  at_end = λ _ _. c.told.ensures.ended;
}
