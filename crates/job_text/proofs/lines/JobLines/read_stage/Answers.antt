use Rattle.std.proofs.Common.{◌≡◌, ◌<◌, ℕ, List, true, rules, arith, Some, sym, ◌∙◌, subst, refl}
use Rattle.std.specs.Prelude.{codes, bytes_eq}
use Rattle.std.proofs.lemmas.Bool.{both_ways}
use Rattle.flow_defs.specs.declared.job.StageKind.{StageKind}
use Rattle.flow_defs.specs.declared.job.Exchange.{Exchange}
use Rattle.flow_defs.specs.declared.job.Exchange.TheVariants.{Forward}
use Rattle.flow_defs.specs.declared.job.TheConstants.{STAGES_MAX, TASKS_MAX}
use Rattle.flow_defs.specs.contracts.job.Exchange.{the_type}
use denote.Enum.Bare.{sameb}
use Rattle.stage_fns.specs.Functions.{HasStage}
use Rattle.job_text.specs.KnownKinds.{known}
use Rattle.job_text.specs.JobFaults.{stage_kind_of, number_of, exchange_of}
use Rattle.job_text.specs.Reading.{place_of}
use Rattle.job_text.proofs.ReadLemmas.{stage_is}
use Rattle.job_text.proofs.lines.JobLines.read_stage.Goals as goal
use Rattle.job_text.proofs.lines.JobLines.read_stage.Goals.{else-eq-via-then-eq+else-tasks-self, else-eq-via-else-eq}

pub returns-clause-ok : goal.returns-clause-ok
returns-clause-ok g c =
    let place = place_of c.args.self.now in
    let functions = known c.args.functions in
    let k = c.in_ok-kind.kind in
    let arg = c.in_ok-kind.arg.now in
    let n = c.in_ok-tasks.tasks in
    let e = c.in_ok-exchange.exchange in
    let word : bytes_eq c.args.first.now (codes "stage") ≡ true = grind arith in
    let some : 0 < c.args.self.now.sources = omega arith in
    let few : c.args.self.now.stages < STAGES_MAX = omega arith in
    let found : StageKind × List ℕ = (k, arg) in
    let kind : stage_kind_of c.args.kind.now ≡ Some found = search rules in
    let has : HasStage functions k = search rules in
    let tasks : number_of TASKS_MAX c.args.tasks.now ≡ Some n = search rules in
    let exchange : exchange_of c.args.exchange.now ≡ Some e = search rules in
    let width : e ≡ Forward → c.args.self.now.tasks ≡ n = λ forward. elim c.else-eq.branch [
      | else-eq-via-then-eq+else-tasks-self w ↦ grind arith
      | else-eq-via-else-eq w ↦ absurd (both_ways c.eq.result w.if-eq.false (c.eq.ensures ∙ subst (λ (x : Exchange). (sameb the_type x Forward) ≡ true) (sym forward) refl))
    ] in
    stage_is functions place c.args.first.now c.args.kind.now c.args.tasks.now c.args.exchange.now k arg n e word some few kind has tasks exchange width
