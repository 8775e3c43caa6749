-- What it leaves are the passes of its gate and what the task handed back.
use Rattle.std.proofs.Common.{◌≡◌, ℕ, suc, ◌+◌, ◌-◌, ◌<◌, Some, refl, sym, subst, ◌∙◌, arith}
use Rattle.flow_defs.specs.Jobs.{tasks}
use Rattle.record_writer.specs.Partitions.{ArePassesOf, IsPartitionOf}
use Rattle.record_writer.specs.Writers.{ways_into}
use Rattle.input_gate.specs.States.{account_in, shows_at, shows_of}
use Rattle.turn_cell.specs.Passes.{seen}
use Rattle.task_output.specs.Acking.{IsLent}
use Rattle.stage_task.specs.Stages.{StageAccount}
use Rattle.job_workers.specs.Tasks.{gate_in, passes_in, snapshots_in}
use Rattle.job_workers.proofs.Left.{gate_passes, shown_by, stage_shown}
use Rattle.job_workers.proofs.task.run_stage_task.Goals as goal

next : (e : ℕ) → suc e ≡ e + 1
next e = omega arith

before : (e : ℕ) → e ≡ e + 1 - 1
before e = omega arith

pub run_stage-end-requires-clause-task : goal.run_stage-end-requires-clause-task
run_stage-end-requires-clause-task g c =
    let may = c.requires.may in
    let edge = may.stage.0 in record {
      is_job = c.requires.is_job.0;
      stage = (omega arith, omega (arith, edge));
      index = subst (λ i. c.args.task.index < tasks c.args.job.now i) (next c.args.task.edge) may.stage.1;
      gate_new = may.gate.0;
      channels_are = subst (λ e. (account_in c.args.task.gate).channels ≡ ways_into c.args.job.now e) (before c.args.task.edge) may.gate.1;
    }

pub run_stage-end-requires-clause-partition : goal.run_stage-end-requires-clause-partition
run_stage-end-requires-clause-partition g c = subst (λ e. IsPartitionOf c.args.job.now e c.args.task.index c.args.task.world.partition) (next c.args.task.edge) c.requires.may.partition

pub run_stage-end-requires-clause-lent : goal.run_stage-end-requires-clause-lent
run_stage-end-requires-clause-lent g c = subst (λ e. IsLent c.args.job.now e c.args.task.index c.args.task.start.now c.args.task.every c.args.task.world) (next c.args.task.edge) c.requires.may.lent

pub returns : goal.returns
returns g c =
    let job = c.args.job.now in
    let task = c.args.task in
    let end = c.run_stage-end.result in
    let did = c.run_stage-end.ensures in
    let passes = c.into_passes.result in
    let given = c.into_passes.ensures.cells in
    let shows = shows_at (gate_in (Some passes)) in
    let own = passes_in (Some end.passes.partition) in
    let sent = snapshots_in (Some end.passes.snapshots) in
    let history = seen end.passes.last_image in
    record {
      no_input = refl;
      gate = gate_passes task.gate end.gate passes did.gate.0 given.1;
      partition = record { passes = end.passes.partition; are_there = refl; are_of = subst (λ e. ArePassesOf job e task.world.partition end.passes.partition) (sym (next task.edge)) did.partition };
      snapshots = record { pass = end.passes.snapshots; is_there = refl; of_channel = did.snapshots.0; task = did.snapshots.1 ∙ c.requires.may.lent.task };
      given = account_in end.gate;
      last_image = did.last_image;
      takes = end.takes.items;
      account =
          subst (λ e. StageAccount job e task.index task.world.partition.size task.start.now task.every (account_in end.gate) shows own sent history end.takes.items end.cause) (sym (before task.edge))
          (stage_shown job (task.edge + 1 - 1) task.index task.world.partition.size task.start.now task.every (account_in end.gate) (shows_of end.gate) shows own sent history end.takes.items end.cause (shown_by end.gate passes given.0) did.account);
    }
