-- What each task of a job did in a run, by what it left at its place.
use Rattle.std.proofs.Common.{◌≡◌, ℕ, suc, ◌<◌, List, Option, refl, sym, ap, ◌∙◌}
use Rattle.flow_defs.specs.declared.job.Job.{Job}
use Rattle.flow_defs.specs.Jobs.{last_edge, tasks}
use Rattle.job_start.specs.declared.start.Start.{Start}
use Rattle.snapshot_channel.specs.declared.opened.SnapshotChannel.{SnapshotChannel}
use Rattle.snapshot_channel.specs.declared.views.Opening.{Opening}
use Rattle.task_output.specs.declared.world.World.{World}
use Rattle.task_output.specs.Acking.{IsLent}
use Rattle.job_chain.specs.Ran.{TasksRan, SourceDid, StageDid, AggregateDid}
use Rattle.job_ends.specs.Ended.{own_at, gate_at, snapshots_at}
use Rattle.job_outcome.specs.Outcomes.{AreTold}
use Rattle.job_outcome.specs.Theorems.{HaveRun, Run, start_of}
use Rattle.job_outcome.specs.Words.{WorldWords}
use Rattle.job_outcome.proofs.Running.{is_own, is_gate, is_sent, source_at, stage_at, aggregate_at}

-- ---- what is told

-- What is told of the tasks of a run over these bytes.
abbrev pub tasks_ran : {S O I : Type 0} → Run S O I → (ℕ → List ℕ) → TasksRan
tasks_ran run bytes = record {
  job = run.job;
  size = run.size;
  start = start_of run.snapshots;
  every = run.every;
  bytes = bytes;
  own = own_at run.rows;
  gate = gate_at run.rows;
  sent = snapshots_at run.rows;
}

-- A task that is lent the channel of the run goes on from where the run does.
start_is : {P : Type 0} {job : Job} {i a : ℕ} {start : Start} {every : Option ℕ} {world : World P} (snapshots : SnapshotChannel) →
    IsLent job i a start every world → world.acks.snapshots.now ≡ snapshots → start ≡ start_of snapshots
start_is snapshots lent channel = sym (ap (λ (o : Opening). o.start) lent.opening) ∙ ap start_of channel

-- ---- by stage and task

module _ {S O I L N : Type 0} {words : WorldWords S O I L N} {run : Run S O I} (ran : HaveRun words run) (bytes : ℕ → List ℕ) where
  open run use {job, snapshots, inputs, rows}

  -- What each kind of task did, and the cause with which a source ended.
  pub source_did : AreTold words.left inputs bytes → (a : ℕ) (low : a < tasks job 0) →
      (did : SourceDid (tasks_ran run bytes) a) × (did.cause ≡ (source_at ran a low).end.left.cause)
  source_did told a low =
      let s = source_at ran a low in
      let start = start_is snapshots s.was.may.lent s.was.lent.channel in
      let own = sym (is_own rows 0 a s.end) in
      let sent = sym (is_sent rows 0 a s.end) in (
        record {
          history = _;
          fell = _;
          rose = _;
          cause = _;
          account = rw (s.was.index, s.was.partition.size_is, start, s.was.lent.every_is, own, sent, told a s.task.input s.was.input) at s.by.account;
        },
        refl,
      )

  pub stage_did : (e b : ℕ) → e < last_edge job → b < tasks job (suc e) → StageDid (tasks_ran run bytes) e b
  stage_did e b before low =
      let s = stage_at ran e b before low in
      let start = start_is snapshots s.was.may.lent s.was.lent.channel in
      let gate = sym (is_gate rows e b s.end) in
      let own = sym (is_own rows (suc e) b s.end) in
      let sent = sym (is_sent rows (suc e) b s.end) in
      record {
        gate_account = _;
        history = _;
        takes = _;
        cause = _;
        account = rw (s.was.edge, s.was.index, s.was.partition.size_is, start, s.was.lent.every_is, gate, own, sent) at s.by.account;
      }

  pub aggregate_did : (b : ℕ) → b < tasks job (suc (last_edge job)) → AggregateDid (tasks_ran run bytes) b
  aggregate_did b low =
      let s = aggregate_at ran b low in
      let start = start_is snapshots s.was.may.lent s.was.lent.channel in
      let gate = sym (is_gate rows (last_edge job) b s.end) in
      let sent = sym (is_sent rows (suc (last_edge job)) b s.end) in
      record {
        gate_account = _;
        history = _;
        takes = _;
        cause = _;
        account = rw (s.was.index, start, s.was.lent.every_is, gate, sent) at s.by.account;
      }
