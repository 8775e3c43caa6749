use Rattle.std.proofs.Common.{subst, sym}
use Rattle.job_text.specs.KnownKinds.{known}
use Rattle.job_text.specs.declared.lines.Line.TheVariants.{Stage, Aggregate}
use Rattle.job_text.specs.Reading.{TakesLine}
use Rattle.job_text.proofs.Drafts.{IsDraft}
use Rattle.job_text.proofs.DraftLemmas.{takes_stage, job_read}
use Rattle.job_text.proofs.job.build.Goals as goal

pub lines-preserved : goal.lines-preserved
lines-preserved g c =
    let functions = known c.args.functions in
    let draft = c.lines.invariant in
    let taken : TakesLine functions c.lines.lines c.next.new.self (Stage c.in-Stage.kind c.in-Stage.arg c.in-Stage.tasks c.in-Stage.exchange) = subst (TakesLine functions c.lines.lines c.next.new.self) c.in-Stage.is c.in_ok-file.ensures.ok in
    let more = takes_stage functions c.args.bytes.now c.lines.sources.items c.lines.lines c.next.new.self c.lines.stages.items c.in-Stage.kind c.in-Stage.arg c.in_ok-arg-in-Stage.arg c.in-Stage.tasks c.in-Stage.exchange draft taken c.in_ok-arg-in-Stage.ensures in
    subst (λ stages. IsDraft functions c.args.bytes.now c.lines.sources.items stages c.next.new.self) (sym c.in_ok-push-in-Stage.ensures.ok) more

pub returns-in-Aggregate-clause-job : goal.returns-in-Aggregate-clause-job
returns-in-Aggregate-clause-job g c =
    let functions = known c.args.functions in
    let taken : TakesLine functions c.lines.lines c.next.new.self (Aggregate c.in-Aggregate.kind c.in-Aggregate.tasks) = subst (TakesLine functions c.lines.lines c.next.new.self) c.in-Aggregate.is c.in_ok-file.ensures.ok in
    job_read functions c.args.bytes.now (record { sources = c.lines.sources; stages = c.lines.stages; agg = c.in-Aggregate.kind; agg_tasks = c.in-Aggregate.tasks; text = c.in_ok-text-in-Aggregate.text })
    c.lines.lines c.next.new.self c.lines.invariant taken c.in_ok-text-in-Aggregate.ensures
