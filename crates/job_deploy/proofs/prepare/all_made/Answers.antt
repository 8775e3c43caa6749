use Rattle.std.proofs.Common.{◌≡◌, ℕ, ◌+◌, ◌*◌, ◌≤◌, [], ◌∷◌, suc, length, sym, ap, subst, ◌∙◌, arith}
use Rattle.std.specs.Prelude.{slice_get}
use Rattle.std.proofs.lemmas.List.{length_push}
use Rattle.flow_defs.specs.Jobs.{last_edge, tasks, sum_below}
use Rattle.job_cells.proofs.Lists.{in_front, at_last}
use Rattle.job_deploy.specs.Making.{AreMade}
use Rattle.job_deploy.specs.Placing.{HasStages}
use Rattle.job_deploy.proofs.Orders.{none_left}
use Rattle.job_deploy.proofs.Taking.{as_after, as_before, stayed_more}
use Rattle.job_deploy.proofs.prepare.all_made.Goals as goal

pub last_made-requires-clause-passes : goal.last_made-requires-clause-passes
last_made-requires-clause-passes g c = λ edge stands.
    let rest = c.take_last-last.new.self.items in let last = c.take_last-last.result in let job = c.args.job.now in
    let many : length rest ≡ last_edge job =
    (let l = ap length c.take_last-last.ensures.items ∙ length_push rest last in let m = c.requires.passes.many in let n = c.requires.edges.many in omega (arith, l, m, n)) in
    c.requires.passes.each (last_edge job) edge last stands (ap (λ l. slice_get l (last_edge job)) c.take_last-last.ensures.items ∙ at_last rest last (last_edge job) (sym many))

pub last_made-requires-clause-stops : goal.last_made-requires-clause-stops
last_made-requires-clause-stops g c =
    let job = c.args.job.now in
    let enough : tasks job 0 + (sum_below (last_edge job) (λ e. 2 * tasks job (suc e) + 4) + (2 * tasks job (suc (last_edge job)) + 4)) ≤ length c.args.shared.now.stops.items = c.requires.stops.1 in
    (c.requires.stops.0, omega (arith, enough))

pub edges-init : goal.edges-init
edges-init g c =
    let first = c.args.shared.now in
    let rest = c.take_last-last.new.self.items in let last = c.take_last-last.result in let job = c.args.job.now in
    let many : length rest ≡ last_edge job =
    (let l = ap length c.take_last-last.ensures.items ∙ length_push rest last in let m = c.requires.passes.many in let n = c.requires.edges.many in omega (arith, l, m, n)) in
    let f = λ (e : ℕ). 2 * tasks job (suc e) + 4 in
    let enough : tasks job 0 + (sum_below (last_edge job) f + f (last_edge job)) ≤ length c.args.shared.now.stops.items = c.requires.stops.1 in
    let left : tasks job 0 + sum_below (last_edge job) f ≤ length c.last_made.new.shared.stops.items = (let fewer = c.in_ok-made.ensures.stops.fewer in omega (arith, enough, fewer)) in
    record {
      passes = λ k edge own stands at. c.requires.passes.each k edge own stands (ap (λ l. slice_get l k) c.take_last-last.ensures.items ∙ in_front rest (last ∷ []) k own at);
      few = omega (arith, many);
      made = subst (λ (n : ℕ). AreMade job c.args.size first.every first.snapshots.now c.args.edges.now n c.in_ok-made.made) (sym many) c.in_ok-made.ensures.made;
      stayed = c.in_ok-made.ensures.stops.stayed;
      stops = c.in_ok-made.ensures.stops.are;
      enough = subst (λ (n : ℕ). tasks job 0 + sum_below n f ≤ length c.last_made.new.shared.stops.items) (sym many) left;
      theirs = subst (λ (n : ℕ). HasStages job (suc n) c.last_made.new.shared) (sym many) c.in_ok-made.ensures.theirs;
    }

pub edges-smaller : goal.edges-smaller
edges-smaller g c = let l = ap length c.in-Some.ensures.items ∙ length_push c.pop.new.self.items c.in-Some.next in omega (arith, l)

pub add-requires-clause-is_job : goal.add-requires-clause-is_job
add-requires-clause-is_job g c =
    let l = ap length c.in-Some.ensures.items ∙ length_push c.pop.new.self.items c.in-Some.next in let s = ap length c.as_slice-e.ensures in let few = c.edges.invariant.few in
    (c.requires.is_job, omega (arith, l, s, few))

pub add-requires-clause-made : goal.add-requires-clause-made
add-requires-clause-made g c =
    let l = ap length c.in-Some.ensures.items ∙ length_push c.pop.new.self.items c.in-Some.next in let s = ap length c.as_slice-e.ensures in
    let same : length c.edges.passes.items ≡ suc (length c.as_slice-e.result.now) = omega (arith, l, s) in
    let first = c.args.shared.now in
    as_after (λ every snapshots. AreMade c.args.job.now c.args.size every snapshots c.args.edges.now (suc (length c.as_slice-e.result.now)) c.edges.made) first c.edges.shared c.edges.invariant.stayed
    (subst (λ (n : ℕ). AreMade c.args.job.now c.args.size first.every first.snapshots.now c.args.edges.now n c.edges.made) same c.edges.invariant.made)

pub add-requires-clause-theirs : goal.add-requires-clause-theirs
add-requires-clause-theirs g c =
    let l = ap length c.in-Some.ensures.items ∙ length_push c.pop.new.self.items c.in-Some.next in let s = ap length c.as_slice-e.ensures in
    let same : length c.edges.passes.items ≡ suc (length c.as_slice-e.result.now) = omega (arith, l, s) in
    subst (λ (n : ℕ). HasStages c.args.job.now (suc n) c.edges.shared) same c.edges.invariant.theirs

pub add-requires-clause-passes : goal.add-requires-clause-passes
add-requires-clause-passes g c = λ edge stands.
    let rest = c.pop.new.self.items in let next = c.in-Some.next in let e = length c.as_slice-e.result.now in
    c.edges.invariant.passes e edge next stands (ap (λ l. slice_get l e) c.in-Some.ensures.items ∙ at_last rest next e (ap length c.as_slice-e.ensures))

pub add-requires-clause-stops : goal.add-requires-clause-stops
add-requires-clause-stops g c =
    let job = c.args.job.now in let e = length c.as_slice-e.result.now in
    let l = ap length c.in-Some.ensures.items ∙ length_push c.pop.new.self.items c.in-Some.next in let s = ap length c.as_slice-e.ensures in
    let same : length c.edges.passes.items ≡ suc e = omega (arith, l, s) in
    let f = λ (k : ℕ). 2 * tasks job (suc k) + 4 in
    let enough : tasks job 0 + (sum_below e f + f e) ≤ length c.edges.shared.stops.items = subst (λ (n : ℕ). tasks job 0 + sum_below n f ≤ length c.edges.shared.stops.items) same c.edges.invariant.enough in
    (c.edges.invariant.stops, omega (arith, enough))

pub edges-preserved : goal.edges-preserved
edges-preserved g c =
    let first = c.args.shared.now in
    let job = c.args.job.now in let e = length c.as_slice-e.result.now in let rest = c.pop.new.self.items in
    let l = ap length c.in-Some.ensures.items ∙ length_push rest c.in-Some.next in let s : e ≡ length rest = ap length c.as_slice-e.ensures in
    let same : length c.edges.passes.items ≡ suc e = omega (arith, l, s) in
    let f = λ (k : ℕ). 2 * tasks job (suc k) + 4 in
    let enough : tasks job 0 + (sum_below e f + f e) ≤ length c.edges.shared.stops.items = subst (λ (n : ℕ). tasks job 0 + sum_below n f ≤ length c.edges.shared.stops.items) same c.edges.invariant.enough in
    let left : tasks job 0 + sum_below e f ≤ length c.add.new.shared.stops.items = (let fewer = c.in_ok-add.ensures.stops.fewer in omega (arith, enough, fewer)) in
    record {
      passes = λ k edge own stands at. c.edges.invariant.passes k edge own stands (ap (λ l. slice_get l k) c.in-Some.ensures.items ∙ in_front rest (c.in-Some.next ∷ []) k own at);
      few = (let few = c.edges.invariant.few in omega (arith, few, same, s));
      made = as_before (λ every snapshots. AreMade job c.args.size every snapshots c.args.edges.now (length rest) c.add.new.self) first c.edges.shared c.edges.invariant.stayed
          (subst (λ (n : ℕ). AreMade job c.args.size c.edges.shared.every c.edges.shared.snapshots.now c.args.edges.now n c.add.new.self) s c.in_ok-add.ensures.made);
      stayed = stayed_more first c.edges.shared c.add.new.shared c.edges.invariant.stayed c.in_ok-add.ensures.stops.stayed;
      stops = c.in_ok-add.ensures.stops.are;
      enough = subst (λ (n : ℕ). tasks job 0 + sum_below n f ≤ length c.add.new.shared.stops.items) s left;
      theirs = subst (λ (n : ℕ). HasStages job (suc n) c.add.new.shared) s c.in_ok-add.ensures.theirs;
    }

pub returns-clause-made : goal.returns-clause-made
returns-clause-made g c =
    let first = c.args.shared.now in
    subst (λ (n : ℕ). AreMade c.args.job.now c.args.size first.every first.snapshots.now c.args.edges.now n c.edges.made) (none_left c.edges.passes.items c.in_default.ensures.some) c.edges.invariant.made

pub returns-clause-stops : goal.returns-clause-stops
returns-clause-stops g c =
    let job = c.args.job.now in
    let none = none_left c.edges.passes.items c.in_default.ensures.some in
    let f = λ (k : ℕ). 2 * tasks job (suc k) + 4 in
    let left : tasks job 0 + 0 ≤ length c.edges.shared.stops.items = subst (λ (n : ℕ). tasks job 0 + sum_below n f ≤ length c.edges.shared.stops.items) none c.edges.invariant.enough in
    (c.edges.invariant.stops, omega (arith, left))

pub returns-clause-theirs : goal.returns-clause-theirs
returns-clause-theirs g c =
    subst (λ (n : ℕ). HasStages c.args.job.now (suc n) c.edges.shared) (none_left c.edges.passes.items c.in_default.ensures.some) c.edges.invariant.theirs
