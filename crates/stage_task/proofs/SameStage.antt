-- The same task.
use Rattle.std.proofs.Common.{◌≡◌, Bor, refl, ap, ◌∙◌}
use Rattle.record_writer.specs.Writers.{IsSame}
use Rattle.snapshot_channel.specs.declared.opened.SnapshotChannel.{SnapshotChannel}
use Rattle.snapshot_channel.specs.Passes.{opening_of}
use Rattle.task_output.specs.declared.acks.Acks.{Acks}
use Rattle.task_output.specs.Acking.{IsSameTask}
use Rattle.task_output.specs.Outputs.{Output}
use Rattle.task_output.proofs.Acking.{task_itself, task_twice}
use Rattle.task_output.proofs.Sending as writers
use Rattle.stage_task.specs.declared.checkpoints.StageOutput.{StageOutput}
use Rattle.stage_task.specs.Applying.{IsSameStage, HasOwnPasses}

-- the same task goes on from the same start
pub same_start : (acks acks' : Acks) → IsSameTask acks acks' → (opening_of acks'.snapshots.now).start ≡ (opening_of acks.snapshots.now).start
same_start acks acks' same = ap (λ (s : Bor SnapshotChannel). (opening_of s.now).start) same.snapshots

pub same_twice : (out mid end : StageOutput) → IsSameStage out mid → IsSameStage mid end → IsSameStage out end
same_twice out mid end first second = record {
  writer = writers.same_twice out.output.writer mid.output.writer end.output.writer first.writer second.writer;
  acks = task_twice out.acks mid.acks end.acks first.acks second.acks;
  job = second.job ∙ first.job;
  edge = second.edge ∙ first.edge;
  index = second.index ∙ first.index;
  every_is = second.every_is ∙ first.every_is;
}

-- with another output of the same writer, and other passes of the same task
pub same_after : (out mid : StageOutput) (o : Output) (acks : Acks) → IsSame mid.output.writer o.writer → IsSameTask mid.acks acks → IsSameStage out mid → IsSameStage out (record mid { output = o; acks = acks })
same_after out mid o acks writer task was = record {
  writer = writers.same_twice out.output.writer mid.output.writer o.writer was.writer writer;
  acks = task_twice out.acks mid.acks acks was.acks task;
  job = was.job;
  edge = was.edge;
  index = was.index;
  every_is = was.every_is;
}

pub same_itself : (out : StageOutput) → IsSameStage out out
same_itself out = record { writer = writers.same_itself out.output.writer; acks = task_itself out.acks; job = refl; edge = refl; index = refl; every_is = refl }

pub same_output : (out mid : StageOutput) (o : Output) → IsSame mid.output.writer o.writer → IsSameStage out mid → IsSameStage out (record mid { output = o })
same_output out mid o same was = same_after out mid o mid.acks same (task_itself mid.acks) was

pub own_output : (out : StageOutput) (o : Output) → HasOwnPasses out → HasOwnPasses (record out { output = o })
own_output out o own = record { edge = own.edge; passes = own.passes; task = own.task; job_is = own.job_is; waited = own.waited }
