use Rattle.std.proofs.Common.{◌≡◌, ◌<◌, ◌≤◌, ◌+◌, suc, Bool, true, false, ap, ◌∙◌, arith}
use Rattle.std.proofs.lemmas.Bool.{le-ltb}
use Rattle.std.proofs.lemmas.Bool.Decides.{nat_tests}
use Rattle.flow_defs.specs.Jobs.{last_edge, tasks, joins}
use Rattle.flow_defs.proofs.JobLemmas.{joined_by}
use Rattle.flow_defs.proofs.job.Job.joins.Goals as goal
use Rattle.flow_defs.proofs.job.Job.joins.Goals.{then-edge-edges, else-edge-edges, then-from-tasks, else-from-tasks}

not_both : (b : Bool) → b ≡ false → b ≡ true → ⊥
not_both b is not = absurd (cc)

pub returns-then-to-tasks : goal.returns-then-to-tasks
returns-then-to-tasks c =
    let job = c.args.self.now in let e = c.args.edge in let a = c.args.from in let b = c.args.to in
    elim c.if-from-tasks.branch [
      | then-from-tasks v ↦ elim c.if-edge-edges.branch [
        | then-edge-edges w ↦
            let next : e + 1 ≡ suc e = omega arith in
            let edge : e ≤ last_edge job = omega arith in
            let from : a < tasks job e = grind (arith, nat_tests) in
            let behind = ap (tasks job) next in
            let to : b < tasks job (suc e) = grind (arith, nat_tests) in
            c.joins.ensures ∙ ap (λ x. joins x a b) c.exchange.ensures ∙ joined_by job e a b edge from to
        | else-edge-edges w ↦ absurd (not_both c.if-edge-edges.value (w.value-is ∙ le-ltb _ _ w.if-edge-edges.false) v.if-from-tasks.true)
      ]
      | else-from-tasks v ↦ absurd (not_both c.if-from-tasks.value (v.value-is ∙ v.if-from-tasks.false) c.if-to-tasks.true)
    ]
