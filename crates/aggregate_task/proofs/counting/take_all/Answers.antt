use Rattle.std.proofs.Common.{ap, ◌∙◌, arith}
use Rattle.std.specs.Prelude.{slice_get, unwrap_or}
use Rattle.std.specs.FinMap.{empty}
use Rattle.turn_cell.specs.Passes.{seen}
use Rattle.job_start.specs.declared.start.Start.{Start}
use Rattle.snapshot_channel.specs.Passes.{sent_by}
use Rattle.aggregate_task.specs.Acknowledging.{start_at}
use Rattle.aggregate_task.proofs.Endings.{begins_behind, account_unsent}
use Rattle.aggregate_task.proofs.counting.take_all.Goals as goal

pub count_all-requires-clause-counts : goal.count_all-requires-clause-counts
count_all-requires-clause-counts g c = c.in-Ok.ensures ∙ ap (λ (start : Start). unwrap_or (slice_get start.tables.items c.args.out.now.index) empty) c.requires.start

pub count_all-requires-clause-new : goal.count_all-requires-clause-new
count_all-requires-clause-new g c =
    let few = c.requires.own.0.is_job.stages in
    begins_behind c.args.out.now.job.now c.args.out.now.index (g.G.Gate.account c.args.gate.now) (g.G.Gate.shows c.args.gate.now) c.in-Ok-new.taking _ c.in-Ok-new.ensures.is (omega (arith, c.edges.ensures, few)) c.requires.own.0.is_job c.requires.task c.requires.gate.0 c.requires.gate.1

pub returns-in_default-clause-account : goal.returns-in_default-clause-account
returns-in_default-clause-account g c =
    let out = c.args.out.now in
    account_unsent out.job.now out.index (start_at out) out.every (g.G.Gate.account c.args.gate.now) (g.G.Gate.shows c.args.gate.now) (sent_by out.acks.pass) (seen out.acks.last_pass) c.no_memory.result c.requires.gate.0 c.requires.own.1 c.no_memory.ensures

pub returns-in-Err-clause-account : goal.returns-in-Err-clause-account
returns-in-Err-clause-account g c =
    let out = c.args.out.now in
    account_unsent out.job.now out.index (start_at out) out.every (g.G.Gate.account c.args.gate.now) (g.G.Gate.shows c.args.gate.now) (sent_by out.acks.pass) (seen out.acks.last_pass) c.no_memory-in-Err.result c.requires.gate.0 c.requires.own.1 c.no_memory-in-Err.ensures
