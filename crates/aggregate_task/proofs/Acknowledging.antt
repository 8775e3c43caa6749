-- By what an aggregate task acknowledges checkpoints, in turn after turn.
use Rattle.std.proofs.Common.{◌≡◌, ℕ, Option, refl, sym, ap, subst}
use Rattle.std.specs.Borrow.{Bor}
use Rattle.flow_defs.specs.declared.job.Job.{Job}
use Rattle.job_start.specs.declared.start.Start.{Start}
use Rattle.snapshot_channel.specs.declared.opened.SnapshotChannel.{SnapshotChannel}
use Rattle.snapshot_channel.specs.Passes.{opening_of}
use Rattle.task_output.specs.Looking.{look_itself}
use Rattle.task_output.proofs.Acking.{task_itself}
use Rattle.aggregate_task.specs.declared.checkpoint.AggregateOutput.{AggregateOutput}
use Rattle.aggregate_task.specs.Acknowledging.{IsSame, start_at}

pub same_itself : (out : AggregateOutput) → IsSame out out
same_itself out = record { job = refl; index = refl; every_is = refl; acks = task_itself out.acks; stop = look_itself out.stop }

-- its channel is opened for the same start
same_start : (out out' : AggregateOutput) → IsSame out out' → start_at out' ≡ start_at out
same_start out out' same = ap (λ (s : Bor SnapshotChannel). (opening_of s.now).start) same.acks.snapshots

-- what is said of its job, its index, its start and its interval holds later too
pub moved : (out out' : AggregateOutput) → IsSame out out' → (P : Job → ℕ → Start → Option ℕ → Type 0) → P out.job.now out.index (start_at out) out.every → P out'.job.now out'.index (start_at out') out'.every
moved out out' same P holds =
    subst (λ (j : Bor Job). P j.now out'.index (start_at out') out'.every) (sym same.job) (subst (λ (b : ℕ). P out.job.now b (start_at out') out'.every) (sym same.index)
    (subst (λ (s : Start). P out.job.now out.index s out'.every) (sym (same_start out out' same)) (subst (λ (e : Option ℕ). P out.job.now out.index (start_at out) e) (sym same.every_is) holds)))

-- and so it did before
pub moved_back : (out out' : AggregateOutput) → IsSame out out' → (P : Job → ℕ → Start → Option ℕ → Type 0) → P out'.job.now out'.index (start_at out') out'.every → P out.job.now out.index (start_at out) out.every
moved_back out out' same P holds =
    subst (λ (j : Bor Job). P j.now out.index (start_at out) out.every) same.job (subst (λ (b : ℕ). P out'.job.now b (start_at out) out.every) same.index
    (subst (λ (s : Start). P out'.job.now out'.index s out.every) (same_start out out' same) (subst (λ (e : Option ℕ). P out'.job.now out'.index (start_at out') e) same.every_is holds)))
