use Rattle.std.proofs.Common.{◌≡◌, ℕ, suc, ◌<◌, false, sym, ap, ◌∙◌, subst, arith}
use Rattle.std.specs.Prelude.{IsSomeAnd, IfNone}
use Rattle.flow_defs.specs.declared.job.Job.{Job}
use Rattle.collector.specs.Fitting.{IsTask, FitsTask}
use Rattle.collector.specs.Collecting.{IsOneMore, IsOfCheckpoint, acknowledged, and_one}
use Rattle.image_tests.proofs.CountingJob.{others}
use Rattle.image_tests.proofs.collector_tests.collect.Goals as goal

pub ack-requires-2-clause-due : goal.ack-requires-2-clause-due
ack-requires-2-clause-due c =
    let first = c.in_ok-first.first in
    let second = c.in_ok-second.second in
    let more : IsOneMore c.begin.new.self first c.ack.new.self = subst (λ made. IfNone made (IsOneMore c.begin.new.self first c.ack.new.self)) c.in-Ok-None.field-0-is c.in-Ok-None.ensures.none in
    let same : c.ack.new.self.job.now ≡ c.args.job.now = ap (λ j. j.now) (c.ack.ensures.job ∙ c.begin.ensures.job) ∙ c.requires.job in
    let begun : c.begin.new.self.job.now ≡ c.args.job.now = ap (λ j. j.now) c.begin.ensures.job ∙ c.requires.job in
    let fits = c.in_ok-second.ensures.fits in
    let is_task : IsTask c.begin.new.self.job.now second.task.stage second.task.index = subst (λ job. IsTask job second.task.stage second.task.index) (sym begun) fits.task in
    record {
      of_open = subst (λ o. IsSomeAnd o (IsOfCheckpoint c.ack.new.self.job.now second)) (sym (more.same_open ∙ c.begin.ensures.opened))
          (record { number = c.in_ok-second.ensures.number; fits = subst (λ job. FitsTask job false second) (sym same) fits });
      missing = more.one_more second.task.stage second.task.index is_task ∙ others (acknowledged c.begin.new.self) first second.task.stage second.task.index c.in_ok-first.ensures.task.0 c.in_ok-second.ensures.task.0 ∙ c.begin.ensures.none second.task.stage second.task.index;
    }
