use Rattle.std.proofs.Common.{take, subst, sym, refl, ◌∙◌, arith, length-take, length-set}
use Rattle.std.proofs.lemmas.List.{take_more_set}
use Rattle.job_text.specs.KnownKinds.{every_kind}
use Rattle.job_text.specs.declared.shape.StageShape.{StageShape}
use Rattle.job_text.specs.declared.lines.Line.TheVariants.{Source, Stage, Aggregate}
use Rattle.job_text.specs.Reading.{TakesLine}
use Rattle.job_text.proofs.ShapeLemmas.{IsTextUnderWay, none_under_way, next_source, next_stage, last_line, job_of_shape}
use Rattle.job_text.proofs.shape.build.Goals as goal

pub lines-init : goal.lines-init
lines-init c =
    let of = c.of-lines.ensures in
    record { way = none_under_way c.args.bytes.now c.of-lines.result of.rest of.number of.sources of.stages of.tasks c.requires; few = omega arith; many = refl }

pub lines-preserved-in-Source : goal.lines-preserved-in-Source
lines-preserved-in-Source c =
    let old = c.lines.lines in
    let new = c.next.new.self in
    let taken : TakesLine every_kind old new (Source c.in-Source.file) = subst (TakesLine every_kind old new) c.in-Source.is c.in_ok-next.ensures.ok in
    let next = next_source c.args.bytes.now old new c.lines.sources (take c.lines.stage_count c.lines.stages) c.lines.invariant.way c.in-Source.file taken in
    record { way = next.0; few = c.lines.invariant.few; many = c.lines.invariant.many }

pub bounds-stages-stage_count : goal.bounds-stages-stage_count
bounds-stages-stage_count c =
    let old = c.lines.lines in
    let new = c.next.new.self in
    let taken : TakesLine every_kind old new (Stage c.in-Stage.kind c.in-Stage.arg c.in-Stage.tasks c.in-Stage.exchange) = subst (TakesLine every_kind old new) c.in-Stage.is c.in_ok-next.ensures.ok in
    let next = next_stage c.args.bytes.now old new c.lines.sources (take c.lines.stage_count c.lines.stages) c.lines.invariant.way c.in-Stage.kind c.in-Stage.arg c.in-Stage.tasks c.in-Stage.exchange taken in
    let below = next.1 in
    let many = c.lines.invariant.many in
    let front = length-take c.lines.stage_count c.lines.stages in
    omega (arith, below, many, front)

pub lines-preserved : goal.lines-preserved
lines-preserved c =
    let old = c.lines.lines in
    let new = c.next.new.self in
    let i = c.lines.stage_count in
    let all = c.lines.stages in
    let taken : TakesLine every_kind old new (Stage c.in-Stage.kind c.in-Stage.arg c.in-Stage.tasks c.in-Stage.exchange) = subst (TakesLine every_kind old new) c.in-Stage.is c.in_ok-next.ensures.ok in
    let next = next_stage c.args.bytes.now old new c.lines.sources (take i all) c.lines.invariant.way c.in-Stage.kind c.in-Stage.arg c.in-Stage.tasks c.in-Stage.exchange taken in
    let below = next.1 in
    let many = c.lines.invariant.many in
    let front = length-take i all in
    let s : StageShape = record { tasks = c.in-Stage.tasks; exchange = c.in-Stage.exchange } in
    record {
      way = subst (λ l. IsTextUnderWay c.args.bytes.now c.lines.sources l new) (sym (take_more_set all i s (omega (arith, below, many, front)))) next.0;
      few = omega (arith, below, many, front);
      many = length-set all i s ∙ many;
    }

pub returns-in-Aggregate-clause-ok : goal.returns-in-Aggregate-clause-ok
returns-in-Aggregate-clause-ok c =
    let old = c.lines.lines in
    let new = c.next.new.self in
    let taken : TakesLine every_kind old new (Aggregate c.in-Aggregate.kind c.in-Aggregate.tasks) = subst (TakesLine every_kind old new) c.in-Aggregate.is c.in_ok-next.ensures.ok in
    last_line c.args.bytes.now old new c.lines.sources (take c.lines.stage_count c.lines.stages) c.lines.invariant.way c.in-Aggregate.kind c.in-Aggregate.tasks taken

pub returns-in-Aggregate-clause-job : goal.returns-in-Aggregate-clause-job
returns-in-Aggregate-clause-job c = job_of_shape c.args.bytes.now _ (returns-in-Aggregate-clause-ok c)
