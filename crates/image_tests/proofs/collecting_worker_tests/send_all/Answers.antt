use Rattle.std.proofs.Common.{rules, ◌≡◌, ◌+◌, true, sym, subst, ◌∙◌, arith}
use Rattle.flow_defs.specs.declared.task.TaskId.{TaskId}
use Rattle.job_start.specs.Starts.{was_ended}
use Rattle.snapshot_channel.specs.Passes.{opening_of, sent_by}
use Rattle.snapshot_channel.specs.Snapshots.{IsAtEnd}
use Rattle.image_tests.proofs.collecting_worker_tests.send_all.Goals as goal
use Rattle.image_tests.proofs.collecting_worker_tests.send_all.Goals.{then-ended, else-ended}

pub send-requires-clause-may : goal.send-requires-clause-may
send-requires-clause-may g c =
    let was = c.snapshots.invariant in
    let opening = opening_of c.args.channel.now in
    let next : c.in-Some.next ≡ c.snapshots.number + 1 = search rules in
    let stays : c.snapshots.ended ≡ true → c.if-ended.ended ≡ true = λ yes. elim c.if-ended.branch [
      | then-ended w ↦ (let new = w.ended-is in cc)
      | else-ended w ↦ (let no = w.if-ended.false in absurd (cc))
    ] in
    record {
      task_is = c.told.ensures.task ∙ sym was.task;
      number_is = c.told.ensures.number ∙ next ∙ omega (arith, was.many, c.requires.number);
      fits = c.told.ensures.fits opening.job;
      at_end = λ first ended. c.told.ensures.ended ∙ stays (was.at_end (subst (λ (t : TaskId). IsAtEnd opening.every (was_ended opening.start t.index) (sent_by c.snapshots.pass)) was.task ended));
    }
