use Rattle.std.proofs.Common.{◌≡◌, ◌<◌, ◌*◌, length, ℕ, Some}
use Rattle.std.specs.Prelude.{slice_get}
use Rattle.input_channel.specs.States as receiving
use Rattle.conn_parts.specs.Shares.{AreOwn}
use Rattle.job_ends.specs.Settling.{AllSettled, GoOn}
use Rattle.job_ends.specs.Leaving.{WithoutGate, taken_in}
use Rattle.job_ends.proofs.Rows.{UpTo}
use Rattle.job_ends.proofs.stages.settle_takers.Given as goal

abbrev pub invariant-loop-task : goal.invariant-loop-task
invariant-loop-task g l = record {
  pushers : AreOwn 1 l.cells l.pushers.items;
  go_on : GoOn l.fn.pushers.items l.pushers.items;
  row : UpTo WithoutGate l.task l.fn.row.items l.row.items;
  settled : (b : ℕ) (place : _) → b < l.task → slice_get l.fn.row.items b ≡ Some place → AllSettled receiving.ChannelStandsFor (b * length (taken_in place)) 1 (taken_in place) l.fn.pushers.items;
}
