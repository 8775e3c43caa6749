use Rattle.std.proofs.Common.{◌≡◌, ◌≢◌, ◌+◌, ◌-◌, ◌<◌, ◌⊎◌, [], suc, ap, sym, subst, ◌∙◌, arith}
use Rattle.std.specs.Prelude.{slice_index}
use Rattle.turn_cell.specs.Passes.{seen, IsSamePass}
use Rattle.flow_defs.specs.declared.cause.Cause.TheVariants as causes
use Rattle.flow_defs.specs.Items.{Items}
use Rattle.flow_defs.specs.Jobs.{tasks}
use Rattle.flow_defs.specs.declared.image.TakeRun.{TakeRun}
use Rattle.plain_machine.specs.Places.{sender_place}
use Rattle.conn_parts.specs.Shares.{AreNew}
use Rattle.record_writer.specs.declared.partition.PartitionPasses.{PartitionPasses}
use Rattle.record_writer.specs.Partitions.{IsWriterOf}
use Rattle.record_writer.specs.Writers.{Writer, IsSame}
use Rattle.gate_account.specs.Accounts.{IsNew}
use Rattle.task_taking.proofs.Groups.{taken_none, step_none}
use Rattle.stage_task.specs.Stages.{StageAccount}
use Rattle.snapshot_channel.specs.declared.views.Opening.{Opening}
use Rattle.snapshot_channel.specs.Passes.{sent_by}
use Rattle.stage_task.specs.declared.checkpoints.StageOutput.{StageOutput}
use Rattle.stage_task.specs.Applying.{start_at}
use Rattle.stage_task.proofs.SameStage.{same_start}
use Rattle.stage_task.proofs.Running.{counted_from, under_way, unbegun, none_noted, waited_as, acks_are, account_ended, account_of_same, written_back, told_by_stage}
use Rattle.stage_task.proofs.stage.run_stage.Goals as goal

pub returns-in_default-clause-account : goal.returns-in_default-clause-account
returns-in_default-clause-account g c =
    let world = c.args.world in
    let end = c.end_task.result in
    account_ended c.args.job.now (c.args.task.stage - 1) c.args.task.index world.partition.size c.args.start.now c.args.every (g.G.Gate.account end.gate) (g.G.Gate.shows end.gate) end.passes.partition.subpartitions.items (sent_by end.passes.snapshots) (seen end.passes.last_image) end.takes.items causes.Memory end.cause c.end_task.ensures.cause
    (unbegun c.args.job.now (c.args.task.stage - 1) c.args.task.index world.partition.size c.args.start.now c.args.every (g.G.Gate.account end.gate) (g.G.Gate.shows end.gate) end.passes.partition.subpartitions.items (sent_by end.passes.snapshots) (seen end.passes.last_image) end.takes.items
    (subst (λ x. IsNew (λ c. []) (g.G.Gate.account x)) (sym c.end_task.ensures.gate) c.requires.task.gate_new)
    (subst (λ (p : PartitionPasses). AreNew p.subpartitions.items) (sym c.end_task.ensures.partition) c.requires.partition.new)
    (ap sent_by c.end_task.ensures.passes.0 ∙ c.requires.lent.fresh)
    (ap (λ (l : Items TakeRun). l.items) c.end_task.ensures.takes ∙ c.new-none.ensures))

pub returns-in_default-clause-acks : goal.returns-in_default-clause-acks
returns-in_default-clause-acks g c =
    let end = c.end_task.result in
    acks_are c.args.world.acks end.passes.snapshots end.acks c.requires.lent.passes c.end_task.ensures.acks c.end_task.ensures.passes.0

pub apply_all-end-requires-clause-in_step : goal.apply_all-end-requires-clause-in_step
apply_all-end-requires-clause-in_step g c = step_none c.args.job.now (c.args.task.stage - 1) c.args.task.index (g.G.Gate.account c.args.gate) c.in-Ok.taking c.requires.task.gate_new c.requires.task.channels_are c.in-Ok.ensures.is

pub apply_all-end-requires-clause-under_way : goal.apply_all-end-requires-clause-under_way
apply_all-end-requires-clause-under_way g c =
    let world = c.args.world in
    let out : StageOutput = record { output = c.new-in-Ok-new.result; acks = world.acks; job = c.args.job; edge = (c.args.task.stage - 1); index = c.args.task.index; every = c.args.every } in
    let stage = c.requires.task.stage in
    let next : c.args.task.stage ≡ (c.args.task.stage - 1) + 1 = omega (arith, stage) in
    let behind : c.args.task.stage ≡ suc (c.args.task.stage - 1) = omega (arith, stage) in
    under_way (g.G.Gate.account c.args.gate) (g.G.Gate.shows c.args.gate) c.in-Ok.taking world.partition c.in-Ok-new.writer out
    (taken_none c.args.job.now (c.args.task.stage - 1) c.args.task.index (g.G.Gate.account c.args.gate) (g.G.Gate.shows c.args.gate) c.in-Ok.taking c.requires.task.is_job (omega (arith, stage)) (subst (λ i. c.args.task.index < tasks c.args.job.now i) behind c.requires.task.index) c.requires.task.gate_new c.requires.task.channels_are c.in-Ok.ensures.is) (subst (λ i. IsWriterOf c.args.job.now i c.args.task.index c.args.world.partition c.in-Ok-new.writer) next c.in-Ok-new.ensures.is_of.0) (c.in-Ok-new.ensures.new.0, c.in-Ok-new.ensures.new.1)
    (counted_from c.args.job.now c.args.start.now (start_at out) (c.args.task.stage - 1) c.args.task.index c.in-Ok-new.writer.emitted (c.in-Ok-new.ensures.new.2 ∙ c.emitted-emitted.ensures ∙ ap (λ i. slice_index c.args.start.now.emitted.items (sender_place c.args.job.now i c.args.task.index)) next) (ap (λ (o : Opening). o.start) c.requires.lent.opening)) c.new-in-Ok-new.ensures.none c.requires.lent.fresh

pub returns-in-Ok-new-clause-partition : goal.returns-in-Ok-new-clause-partition
returns-in-Ok-new-clause-partition g c =
    let world = c.args.world in
    let after = c.apply_all-end.new.out.output.writer in
    let passes = c.end_sender.result.passes.partition in
    let same = subst (λ (w : Writer). IsSame w after) c.new-in-Ok-new.ensures.writer.0 c.apply_all-end.ensures.same.writer in
    written_back c.args.job.now c.args.task.stage c.args.task.index world.partition c.in-Ok-new.writer after passes c.in-Ok-new.ensures.is_of.0 same c.end_sender.ensures.partition

pub returns-in-Ok-new-clause-acks : goal.returns-in-Ok-new-clause-acks
returns-in-Ok-new-clause-acks g c =
    let own = c.apply_all-end.ensures.own in
    let end = c.end_sender.result in
    acks_are c.apply_all-end.new.out.acks end.passes.snapshots end.acks own.passes c.end_sender.ensures.acks c.end_sender.ensures.passes.0

pub returns-in-Ok-new-clause-waited : goal.returns-in-Ok-new-clause-waited
returns-in-Ok-new-clause-waited g c =
    let after = c.apply_all-end.new.out in
    let end = c.end_sender.result in
    waited_as after c.args.start.now (sent_by end.passes.snapshots) (seen end.passes.last_image)
    (same_start c.args.world.acks after.acks c.apply_all-end.ensures.same.acks ∙ ap (λ (o : Opening). o.start) c.requires.lent.opening)
    (ap sent_by c.end_sender.ensures.passes.0) (ap seen c.end_sender.ensures.passes.1) c.apply_all-end.ensures.own.waited

pub returns-in-Ok-new-clause-account : goal.returns-in-Ok-new-clause-account
returns-in-Ok-new-clause-account g c =
    let world = c.args.world in
    let out : StageOutput = record { output = c.new-in-Ok-new.result; acks = world.acks; job = c.args.job; edge = (c.args.task.stage - 1); index = c.args.task.index; every = c.args.every } in
    let after = c.apply_all-end.new.out in
    let end = c.end_sender.result in
    let sent = sent_by end.passes.snapshots in
    let takes = end.takes.items in
    account_ended c.args.job.now (c.args.task.stage - 1) c.args.task.index world.partition.size c.args.start.now c.args.every (g.G.Gate.account end.gate) (g.G.Gate.shows end.gate) end.passes.partition.subpartitions.items sent (seen end.passes.last_image) takes c.apply_all-end.result.cause end.cause c.end_sender.ensures.cause
    (subst (λ x. StageAccount c.args.job.now (c.args.task.stage - 1) c.args.task.index world.partition.size c.args.start.now c.args.every (g.G.Gate.account x) (g.G.Gate.shows x) end.passes.partition.subpartitions.items sent (seen end.passes.last_image) takes c.apply_all-end.result.cause) (sym c.end_sender.ensures.gate)
    (account_of_same out after world.partition.size c.args.start.now (g.G.Gate.account c.apply_all-end.new.gate) (g.G.Gate.shows c.apply_all-end.new.gate) end.passes.partition.subpartitions.items sent (seen end.passes.last_image) takes c.apply_all-end.result c.apply_all-end.ensures.same
    (c.apply_all-end.ensures.same.writer.size ∙ ap (λ (w : Writer). w.size) c.new-in-Ok-new.ensures.writer.0 ∙ c.in-Ok-new.ensures.is_of.0.size)
    (same_start world.acks after.acks c.apply_all-end.ensures.same.acks ∙ ap (λ (o : Opening). o.start) c.requires.lent.opening)
    c.end_sender.ensures.partition.same (ap sent_by c.end_sender.ensures.passes.0) (ap seen c.end_sender.ensures.passes.1) (ap (λ (l : Items TakeRun). l.items) c.end_sender.ensures.takes) c.apply_all-end.ensures.ended))

pub returns-in-Ok-new-clause-stop : goal.returns-in-Ok-new-clause-stop
returns-in-Ok-new-clause-stop g c =
    let world = c.args.world in
    let after = c.apply_all-end.new.out.output.writer in
    let end = c.end_sender.result in
    told_by_stage world.stop.now (g.G.Gate.saw_stop end.gate) c.apply_all-end.result.cause end.cause world.stop_pass after.stop_pass end.passes.stop
    (subst (λ p. IsSamePass p after.stop_pass) (ap (λ (w : Writer). w.stop_pass) c.new-in-Ok-new.ensures.writer.0 ∙ c.in-Ok-new.ensures.is_of.2) c.apply_all-end.ensures.same.writer.stop_pass)
    (subst (λ x. c.apply_all-end.result.cause ≡ causes.Stopped → g.G.Gate.saw_stop x ⊎ (seen after.stop_pass ≢ [])) (sym c.end_sender.ensures.gate) c.apply_all-end.ensures.stopped) c.end_sender.ensures.told

pub returns-in-Err-clause-account : goal.returns-in-Err-clause-account
returns-in-Err-clause-account g c =
    let world = c.args.world in
    let end = c.end_task-in-Err.result in
    account_ended c.args.job.now (c.args.task.stage - 1) c.args.task.index world.partition.size c.args.start.now c.args.every (g.G.Gate.account end.gate) (g.G.Gate.shows end.gate) end.passes.partition.subpartitions.items (sent_by end.passes.snapshots) (seen end.passes.last_image) end.takes.items causes.Memory end.cause c.end_task-in-Err.ensures.cause
    (unbegun c.args.job.now (c.args.task.stage - 1) c.args.task.index world.partition.size c.args.start.now c.args.every (g.G.Gate.account end.gate) (g.G.Gate.shows end.gate) end.passes.partition.subpartitions.items (sent_by end.passes.snapshots) (seen end.passes.last_image) end.takes.items
    (subst (λ x. IsNew (λ c. []) (g.G.Gate.account x)) (sym c.end_task-in-Err.ensures.gate) c.requires.task.gate_new)
    (subst (λ (p : PartitionPasses). AreNew p.subpartitions.items) (sym (c.end_task-in-Err.ensures.partition ∙ c.in-Err.ensures.refused.0)) c.requires.partition.new)
    (ap sent_by c.end_task-in-Err.ensures.passes.0 ∙ c.requires.lent.fresh)
    (ap (λ (l : Items TakeRun). l.items) c.end_task-in-Err.ensures.takes ∙ none_noted c.in-Ok.taking c.args.job.now (c.args.task.stage - 1) c.args.task.index c.into_runs-takes.result.items c.in-Ok.ensures.is c.into_runs-takes.ensures))

pub returns-in-Err-clause-acks : goal.returns-in-Err-clause-acks
returns-in-Err-clause-acks g c =
    let end = c.end_task-in-Err.result in
    acks_are c.args.world.acks end.passes.snapshots end.acks c.requires.lent.passes c.end_task-in-Err.ensures.acks c.end_task-in-Err.ensures.passes.0
