use Rattle.std.proofs.Common.{◌≡◌, ℕ, suc, ◌+◌, Some, length, ap, sym, ◌∙◌, subst, refl, arith}
use Rattle.flow_defs.specs.Lines.{lines}
use Rattle.job_text.specs.KnownKinds.{known}
use Rattle.std.proofs.lemmas.Bool.{eqb-true}
use Rattle.job_text.specs.declared.lines.JobLines.{JobLines}
use Rattle.job_text.specs.declared.lines.Line.{Line}
use Rattle.job_text.specs.declared.lines.Line.TheVariants.{Source, Stage, Aggregate}
use Rattle.job_text.specs.declared.fault.JobFault.{JobFault}
use Rattle.job_text.specs.declared.fault.JobFault.TheVariants.{Extra}
use Rattle.job_text.specs.Reading.{place_of, IsLine, LinesGoOn, TakesLine}
use Rattle.job_text.proofs.CutLemmas.{line_behind_last, nothing_behind_last, same_fault, takes, no_line, source_place, stage_place}
use Rattle.job_text.proofs.lines.JobLines.next.Goals as goal
use Rattle.job_text.proofs.lines.JobLines.next.Goals.{in-Source, in-Stage, in-Aggregate+else-not-is_empty}

pub returns-then-not-is_empty-clause-err : goal.returns-then-not-is_empty-clause-err
returns-then-not-is_empty-clause-err g c =
    let functions = known c.args.functions in
    let old = c.args.self.now in
    let rest = c.in-Some.rest.now in
    let l = Aggregate c.in-Aggregate.kind c.in-Aggregate.tasks in
    let is : IsLine functions (place_of old) l c.in-Some.text.now = subst (λ (m : Line). IsLine functions (place_of old) m c.in-Some.text.now) c.in-Aggregate.is c.in-Ok.ensures in
    let some : length rest ≡ 0 → ⊥ = grind arith in
    let next : suc old.number ≡ old.number + 1 = omega arith in
    line_behind_last functions old c.in-Some.text.now rest l c.in-Some.ensures.some is refl some ∙ ap (λ n. let told : ℕ × JobFault = (n, Extra) in Some told) next

pub returns-after-line-clause-ok : goal.returns-after-line-clause-ok
returns-after-line-clause-ok g c =
    let functions = known c.args.functions in
    let old = c.args.self.now in
    let new = c.match-line.self in
    let text = c.in-Some.text.now in
    let rest = c.in-Some.rest.now in
    let lines_are = c.in-Some.ensures.some in
    let Is : Line → Type 0 = λ m. IsLine functions (place_of old) m text in
    let taken : (l : Line) → c.in-Ok.line ≡ l → new.rest.now ≡ rest → LinesGoOn functions old new l → TakesLine functions old new c.in-Ok.line =
    λ l is rest_is goes. subst (TakesLine functions old new) (sym is) (takes functions old text rest l lines_are (subst Is is c.in-Ok.ensures) new rest_is c.in-Some.ensures.shorter goes) in
    elim c.match-line.branch [
      | in-Source w ↦
          let l = Source w.in-Source.file in
          let rest_is : new.rest.now ≡ rest = ap (λ (r : JobLines). r.rest.now) w.self-is in
          let number : new.number ≡ old.number + 1 = ap (λ (r : JobLines). r.number) w.self-is in
          let next : old.number + 1 ≡ suc old.number = omega arith in
          let place = source_place old new w.in-Source.file (ap (λ (r : JobLines). r.sources) w.self-is) (ap (λ (r : JobLines). r.stages) w.self-is) (ap (λ (r : JobLines). r.tasks) w.self-is) in
          taken l w.in-Source.is rest_is (place, same_fault functions old text rest l lines_are (subst Is w.in-Source.is c.in-Ok.ensures) new rest_is (number ∙ next) place)
      | in-Stage w ↦
          let l = Stage w.in-Stage.kind w.in-Stage.arg w.in-Stage.tasks w.in-Stage.exchange in
          let rest_is : new.rest.now ≡ rest = ap (λ (r : JobLines). r.rest.now) w.self-is in
          let number : new.number ≡ old.number + 1 = ap (λ (r : JobLines). r.number) w.self-is in
          let next : old.number + 1 ≡ suc old.number = omega arith in
          let place = stage_place old new w.in-Stage.kind w.in-Stage.arg w.in-Stage.tasks w.in-Stage.exchange (ap (λ (r : JobLines). r.sources) w.self-is) (ap (λ (r : JobLines). r.stages) w.self-is) (ap (λ (r : JobLines). r.tasks) w.self-is) in
          taken l w.in-Stage.is rest_is (place, same_fault functions old text rest l lines_are (subst Is w.in-Stage.is c.in-Ok.ensures) new rest_is (number ∙ next) place)
      | in-Aggregate+else-not-is_empty w ↦
          let l = Aggregate w.in-Aggregate.kind w.in-Aggregate.tasks in
          let rest_is : new.rest.now ≡ rest = ap (λ (r : JobLines). r.rest.now) w.self-is in
          let none : length rest ≡ 0 = eqb-true (length rest) 0 (sym w.if-not-is_empty.ensures) in
          taken l w.in-Aggregate.is rest_is (ap lines rest_is ∙ no_line rest none, nothing_behind_last functions old text rest l lines_are (subst Is w.in-Aggregate.is c.in-Ok.ensures) refl none)
    ]
