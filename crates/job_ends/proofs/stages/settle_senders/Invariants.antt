use Rattle.std.proofs.Common.{◌≡◌, ◌<◌, length, ℕ, Some}
use Rattle.std.specs.Prelude.{slice_get}
use Rattle.subpartition.specs.Standing as sending
use Rattle.conn_parts.specs.Shares.{AreOwn}
use Rattle.job_ends.specs.Settling.{AllSettled, GoOn}
use Rattle.job_ends.specs.Leaving.{WithoutPartition, sent_in}
use Rattle.job_ends.proofs.Rows.{UpTo}
use Rattle.job_ends.proofs.stages.settle_senders.Given as goal

abbrev pub invariant-loop-task : goal.invariant-loop-task
invariant-loop-task g l = record {
  takers : AreOwn 1 l.cells l.takers.items;
  go_on : GoOn l.fn.takers.items l.takers.items;
  row : UpTo WithoutPartition l.task l.fn.row.items l.row.items;
  settled : (a : ℕ) (place : _) → a < l.task → slice_get l.fn.row.items a ≡ Some place → AllSettled sending.QueueStandsFor a (length l.fn.row.items) (sent_in place) l.fn.takers.items;
}
