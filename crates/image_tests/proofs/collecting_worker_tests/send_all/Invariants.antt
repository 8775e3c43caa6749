use Rattle.std.proofs.Common.{◌≡◌, ◌+◌, length, true}
use Rattle.job_start.specs.Starts.{was_ended}
use Rattle.snapshot_channel.specs.Snapshots.{IsAtEnd}
use Rattle.snapshot_channel.specs.Passes.{IsPassOf, opening_of, sent_by, task_of}
use Rattle.image_tests.proofs.collecting_worker_tests.send_all.Given as goal

-- so many are sent, and it stays at its end
abbrev pub invariant-snapshots : goal.invariant-snapshots
invariant-snapshots g l = record {
  pass : IsPassOf l.fn.channel l.pass;
  task : task_of l.pass ≡ l.fn.task;
  many : l.number ≡ l.fn.stand.number + length (sent_by l.pass);
  at_end : IsAtEnd (opening_of l.fn.channel).every (was_ended (opening_of l.fn.channel).start l.fn.task.index) (sent_by l.pass) → l.ended ≡ true;
}
