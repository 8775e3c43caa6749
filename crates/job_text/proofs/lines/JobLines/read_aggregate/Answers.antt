use Rattle.std.proofs.Common.{◌≡◌, ◌<◌, true, rules, arith, Some}
use Rattle.std.specs.Prelude.{codes, bytes_eq}
use Rattle.flow_defs.specs.declared.job.TheConstants.{TASKS_MAX}
use Rattle.stage_fns.specs.Functions.{HasAgg}
use Rattle.job_text.specs.KnownKinds.{known}
use Rattle.job_text.specs.JobFaults.{agg_of, number_of}
use Rattle.job_text.specs.Reading.{place_of}
use Rattle.job_text.proofs.ReadLemmas.{aggregate_is}
use Rattle.job_text.proofs.lines.JobLines.read_aggregate.Goals as goal

pub returns-clause-ok : goal.returns-clause-ok
returns-clause-ok g c =
    let functions = known c.args.functions in
    let place = place_of c.args.self.now in
    let word : bytes_eq c.args.first.now (codes "aggregate") ≡ true = grind arith in
    let some : 0 < c.args.self.now.sources = omega arith in
    let kind : agg_of c.args.kind.now ≡ Some c.in_ok-kind.kind = search rules in
    let has : HasAgg functions c.in_ok-kind.kind = search rules in
    let tasks : number_of TASKS_MAX c.args.tasks.now ≡ Some c.in_ok-tasks.tasks = search rules in
    aggregate_is functions place c.args.first.now c.args.kind.now c.args.tasks.now c.in_ok-kind.kind c.in_ok-tasks.tasks word some kind has tasks
