use Rattle.std.proofs.Common.{◌≡◌, suc, get_or, sym, subst, ap, ◌∙◌, length, List, ◌≤◌, arith}
use Rattle.flow_defs.specs.declared.job.Stage.{Stage}
use Rattle.flow_defs.specs.Limits.{tasks_max}
use Rattle.flow_defs.proofs.JobLemmas.{tasks_at, tasks_past, few_tasks}
use Rattle.flow_defs.proofs.job.Job.tasks.Goals as goal

pub returns-in-Some-get-clause-few : goal.returns-in-Some-get-clause-few
returns-in-Some-get-clause-few c =
    let job = c.args.self.now in let stage = c.in-Some-get.stage.now in let back = c.in-Some.ensures in let found = c.in-Some-get.ensures.lookup.3 in
    let many = ap length c.as_slice-2.ensures in
    let here : stage ≡ get_or job.stages.items c.in-Some.before stage = found.1 stage ∙ ap (λ (l : List Stage). get_or l c.in-Some.before stage) c.as_slice-2.ensures in
    subst (λ n. n ≤ tasks_max) (sym (tasks_at job c.args.stage c.in-Some.before stage (omega (arith, back)) (let low = found.0 in omega (arith, low, many)) here)) (few_tasks job c.args.stage c.requires)

pub returns-in-None-clause-is : goal.returns-in-None-clause-is
returns-in-None-clause-is c =
    let back = c.in-Some.ensures in let past = c.in-None.ensures.lookup.3 in let many = ap length c.as_slice-2.ensures in
    tasks_past c.args.self.now c.args.stage c.in-Some.before (omega (arith, back)) (omega (arith, past, many))

pub returns-in-None-clause-few : goal.returns-in-None-clause-few
returns-in-None-clause-few c =
    let back = c.in-Some.ensures in let past = c.in-None.ensures.lookup.3 in let many = ap length c.as_slice-2.ensures in
    subst (λ n. n ≤ tasks_max) (sym (tasks_past c.args.self.now c.args.stage c.in-Some.before (omega (arith, back)) (omega (arith, past, many)))) (few_tasks c.args.self.now c.args.stage c.requires)
