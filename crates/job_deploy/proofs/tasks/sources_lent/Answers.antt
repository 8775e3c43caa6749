use Rattle.std.proofs.Common.{◌≡◌, ◌+◌, length, ap, subst, ◌∙◌, refl, arith}
use Rattle.std.proofs.lemmas.List.{length_push}
use Rattle.flow_defs.specs.Jobs.{tasks}
use Rattle.job_deploy.specs.Lending.{IsLentAt}
use Rattle.job_deploy.specs.Placing.{AreFewer}
use Rattle.job_deploy.proofs.Orders.{in_order, length_turned, turned_none, turned_push}
use Rattle.job_deploy.proofs.Taking.{as_before, fewer_more, fewer_none, first_all}
use Rattle.job_deploy.proofs.tasks.sources_lent.Goals as goal

pub loop-made-init : goal.loop-made-init
loop-made-init c = record {
  senders = c.requires.senders.0;
  left = (let l = c.requires.senders.1 in omega (arith, l));
  stops = fewer_none c.args.shared.now c.requires.stops.0;
  theirs = first_all c.args.job.now 0 (length c.args.senders.own.items) c.args.shared.now c.requires.senders.1 c.requires.theirs;
  lents_many = ap length c.new-lents.ensures;
  lents = turned_none (IsLentAt c.args.job.now c.args.size c.args.shared.now.every c.args.shared.now.snapshots.now c.args.edges.now) (tasks c.args.job.now 0) c.new-lents.result.items c.new-lents.ensures;
}

pub loop-made-preserved : goal.loop-made-preserved
loop-made-preserved c =
    let before = c.loop-made.invariant in let job = c.args.job.now in let edges = c.args.edges.now in let first = c.args.shared.now in let lent = c.source_lent.result in
    record {
      senders = c.source_lent.ensures.senders;
      left = (let l = before.left in let f = c.source_lent.ensures.fewer in omega (arith, l, f));
      stops = fewer_more c.loop-made._made 1 (c.loop-made._made + 1) first c.loop-made.shared c.source_lent.new.shared refl before.stops c.source_lent.ensures.stops;
      theirs = c.source_lent.ensures.theirs;
      lents_many = ap length c.in_ok-push.ensures.ok ∙ length_push c.loop-made.lents.items lent ∙ ap (λ n. n + 1) before.lents_many;
      lents = turned_push (IsLentAt job c.args.size first.every first.snapshots.now edges) (tasks job 0) c.loop-made.lents.items c.push.new.self.items lent c.in_ok-push.ensures.ok before.lents
          (λ k sum. subst (λ a. IsLentAt job c.args.size first.every first.snapshots.now edges a lent)
          (let m = before.lents_many in let l = before.left in let f = c.source_lent.ensures.fewer in let same : length c.source_lent.new.senders.own.items ≡ k = omega (arith, m, l, f, sum) in same)
          (as_before (λ every snapshots. IsLentAt job c.args.size every snapshots edges (length c.source_lent.new.senders.own.items) lent) first c.loop-made.shared before.stops.stayed c.source_lent.ensures.lent));
    }

pub returns-clause-lent : goal.returns-clause-lent
returns-clause-lent c =
    let i = c.loop-made.invariant in let job = c.args.job.now in let first = c.args.shared.now in
    let end : c.loop-made._made ≡ c.tasks-many.result = omega arith in
    let all : length c.loop-made.lents.items ≡ tasks job 0 = i.lents_many ∙ end ∙ c.tasks-many.ensures.is in
    record {
      many = length_turned c.loop-made.lents.items c.turned.result.items c.turned.ensures ∙ all;
      each = in_order (IsLentAt job c.args.size first.every first.snapshots.now c.args.edges.now) (tasks job 0) c.loop-made.lents.items c.turned.result.items c.turned.ensures all i.lents;
    }

pub returns-clause-stops : goal.returns-clause-stops
returns-clause-stops c =
    let end : c.loop-made._made ≡ c.tasks-many.result = omega arith in
    subst (λ k. AreFewer k c.args.shared.now c.loop-made.shared) (end ∙ c.tasks-many.ensures.is) c.loop-made.invariant.stops
