use Rattle.std.proofs.Common.{◌≡◌, ◌≢◌, ◌⊎◌, [], length, ap, sym, subst, ◌∙◌}
use Rattle.turn_cell.specs.Passes.{IsPassOf, IsSamePass, seen}
use Rattle.flow_defs.specs.Items.{Items}
use Rattle.flow_defs.specs.declared.cause.Cause.TheVariants as causes
use Rattle.flow_defs.specs.declared.image.TakeRun.{TakeRun}
use Rattle.conn_parts.specs.Stopping.{StopCell, StopPass}
use Rattle.job_start.specs.declared.start.Start.{Start}
use Rattle.snapshot_channel.specs.declared.views.Opening.{Opening}
use Rattle.snapshot_channel.specs.Passes.{sent_by}
use Rattle.task_output.specs.Ending.{ToldAtEnd}
use Rattle.aggregate_task.specs.declared.checkpoint.AggregateOutput.{AggregateOutput}
use Rattle.aggregate_task.specs.Aggregates.{AggregateAccount}
use Rattle.aggregate_task.proofs.Endings.{account_ended, account_of_same, told_stop}
use Rattle.aggregate_task.proofs.aggregate.run_aggregate.Goals as goal

pub end_task-requires : goal.end_task-requires
end_task-requires g c =
    subst (λ (cell : StopCell). IsPassOf cell c.into_pass-stop_pass.result) (c.take_all-cause.ensures.own.1.stop.cell_is ∙ c.new-look.ensures.0) c.into_pass-stop_pass.ensures.1

pub returns-clause-acks : goal.returns-clause-acks
returns-clause-acks g c = c.end_task.ensures.acks ∙ c.take_all-cause.ensures.own.0.passes.sent_is ∙ ap (λ p. length (sent_by p)) (sym c.end_task.ensures.passes.0)

pub returns-clause-account : goal.returns-clause-account
returns-clause-account g c =
    let out : AggregateOutput = record { job = c.args.job; index = c.args.index; every = c.args.every; acks = c.args.world.acks; stop = c.new-look.result } in
    let out' = c.take_all-cause.new.out in
    let end = c.end_task.result in
    let sent = sent_by end.passes.snapshots in
    let history = seen end.passes.last_image in
    let cause = c.take_all-cause.result.cause in
    account_ended c.args.job.now c.args.index c.args.start.now c.args.every (g.G.Gate.account end.gate) (g.G.Gate.shows end.gate) sent history end.takes.items cause end.cause c.end_task.ensures.cause
    (subst (λ x. AggregateAccount c.args.job.now c.args.index c.args.start.now c.args.every (g.G.Gate.account x) (g.G.Gate.shows x) sent history end.takes.items cause) (sym c.end_task.ensures.gate)
    (subst (λ (start : Start). AggregateAccount c.args.job.now c.args.index start c.args.every (g.G.Gate.account c.take_all-cause.new.gate) (g.G.Gate.shows c.take_all-cause.new.gate) sent history end.takes.items cause) (ap (λ (o : Opening). o.start) c.requires.lent.opening)
    (account_of_same out out' (g.G.Gate.account c.take_all-cause.new.gate) (g.G.Gate.shows c.take_all-cause.new.gate) sent history end.takes.items c.take_all-cause.result c.take_all-cause.ensures.own.1
    (ap sent_by c.end_task.ensures.passes.0) (ap seen c.end_task.ensures.passes.1) (ap (λ (l : Items TakeRun). l.items) c.end_task.ensures.takes) c.take_all-cause.ensures.account)))

pub returns-clause-stop : goal.returns-clause-stop
returns-clause-stop g c =
    let world = c.args.world in
    let cause = c.take_all-cause.result.cause in
    let pass = c.take_all-cause.new.out.stop.pass in
    let end = c.end_task.result in
    told_stop world.stop.now (g.G.Gate.saw_stop end.gate) cause end.cause world.stop_pass pass end.passes.stop
    (subst (λ (p : StopPass). IsSamePass p pass) c.new-look.ensures.1 c.take_all-cause.ensures.own.1.stop.pass_is)
    (subst (λ x. cause ≡ causes.Stopped → g.G.Gate.saw_stop x ⊎ (seen pass ≢ [])) (sym c.end_task.ensures.gate) c.take_all-cause.ensures.stopped)
    (subst (λ (p : StopPass). ToldAtEnd world.stop.now cause end.cause p end.passes.stop) c.into_pass-stop_pass.ensures.0 c.end_task.ensures.told)
