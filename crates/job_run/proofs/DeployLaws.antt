-- Workers that were deployed may run, and what they leave.
use Rattle.std.proofs.Common.{◌≡◌, ℕ, zero, suc, List, length, inl, inr, refl, sym, ap, subst, ◌∙◌, arith}
use Rattle.std.specs.Prelude.{slice_get, Option, All}
use Rattle.std.specs.List.{AllByRecursion}
use Rattle.std.proofs.lemmas.Bool.{cases_lt}
use Rattle.std.proofs.lemmas.Option.{slice_get_within}
use Rattle.flow_defs.specs.Items.{Items}
use Rattle.flow_defs.specs.declared.job.Job.{Job}
use Rattle.flow_defs.specs.Jobs.{last_edge}
use Rattle.outside.specs.declared.wires.Wire.{Wire}
use Rattle.outside.specs.Keepers.{KeptImage}
use Rattle.outside.specs.Links.{IsUnfinished}
use Rattle.snapshot_channel.specs.declared.opened.SnapshotChannel.{SnapshotChannel}
use Rattle.collecting_worker.specs.declared.world.CollectEnd.{CollectEnd}
use Rattle.job_cells.specs.declared.edge.Edge.{Edge}
use Rattle.job_cells.specs.Edges.{AreEdgesOf}
use Rattle.job_workers.specs.declared.collecting.CollectTask.{CollectTask}
use Rattle.job_workers.specs.declared.place.Place.{Place}
use Rattle.job_workers.specs.declared.place.Place.TheVariants.{Todo, Ended, Vacant}
use Rattle.job_workers.specs.Collecting.{LeftByCollector}
use Rattle.job_workers.specs.Loops.{MayRunLoop}
use Rattle.job_workers.specs.Places.{Each, Leaves, MayRun, Pairs}
use Rattle.job_workers.specs.Tasks.{MayRunTask}
use Rattle.job_deploy.specs.Deployed.{AreDeployed}
use Rattle.job_ends.specs.Ended.{TaskPlace, LoopPlace}
use Rattle.job_outcome.specs.Theorems.{IsNewWire}
use Rattle.job_outcome.specs.Words.{LinkWords}
use Rattle.job_outcome.proofs.Places.{each_at}
use Rattle.job_run.proofs.ListLaws.{get_there, all_at}

-- ---- they may run

module _ {S O I : Type 0} {job : Job} {size : ℕ} {every : Option ℕ} {snapshots : SnapshotChannel} {edges : List Edge} {inputs : List S} {wires : List (Wire O I)}
    {rows : List (Items (TaskPlace S))} {loops : List (Items (LoopPlace O I))} (d : AreDeployed job size every snapshots edges inputs wires rows loops) where
  pub tasks_may_run : Each (λ (row : Items (TaskPlace S)). Each (MayRun (MayRunTask job)) row.items) rows
  tasks_may_run zero row at i place here =
      let task = (d.sources row at).each i place here in
      subst (λ (p : TaskPlace S). MayRun (MayRunTask job) p) (sym task.1) task.2.may
  tasks_may_run (suc e) row at i place here = elim (cases_lt e (last_edge job)) [
    | inl low ↦
        let task = (d.stages e row low at).each i place here in
        subst (λ (p : TaskPlace S). MayRun (MayRunTask job) p) (sym task.1) task.2.may
    | inr high ↦
        let within = slice_get_within rows (suc e) row at in
        let many = d.rows_many in
        let same : e ≡ last_edge job = omega (arith, within, many, high) in
        let task = (d.aggregates row (ap (λ k. slice_get rows (suc k)) (sym same) ∙ at)).each i place here in
        subst (λ (p : TaskPlace S). MayRun (MayRunTask job) p) (sym task.1) task.2.may
  ]

  pub loops_may_run : {L N : Type 0} (links : LinkWords O I L N) → AreEdgesOf job size edges → length wires ≡ suc (last_edge job) → All (IsNewWire links) wires →
      Each (λ (row : Items (LoopPlace O I)). Each (MayRun (MayRunLoop links.finished)) row.items) loops
  loops_may_run links edges_are wires_many unused e row at i place here =
      let May : LoopPlace O I → Type 0 = λ p. MayRun (MayRunLoop links.finished) p in
      let low = slice_get_within loops e row at in
      let many = d.loops_many in
      let edges_many = edges_are.many in
      let edge = get_there edges e (omega (arith, low, many, edges_many)) in
      let wire = get_there wires e (omega (arith, low, many, wires_many)) in
      let new = all_at (IsNewWire links) wires e wire.0 unused wire.1 in
      let four = d.loops e edge.0 wire.0 row edge.1 wire.1 at in
      let sends = subst (λ (half : O). IsUnfinished (links.finished half)) (sym four.sending.0) new.data_out.unfinished in
      let announces = subst (λ (half : O). IsUnfinished (links.finished half)) (sym four.receiving.1) new.control_out.unfinished in
      let all = subst (λ (xs : List (LoopPlace O I)). AllByRecursion May xs) (sym four.row_is)
      ((four.may_send.0, sends), (four.may_send.1, (four.may_receive.0, ((four.may_receive.1, announces), tt)))) in
      each_at May row.items i place all here

-- ---- what they leave

-- Where a worker stood what it left stands now.
pub what_it_left : (before after : Option (List KeptImage)) (fell rose : ℕ) (task : CollectTask) (collected : Place CollectTask CollectEnd) →
    Leaves (LeftByCollector before after fell rose) (Todo task) collected → (end : CollectEnd) × (collected ≡ Ended end) × LeftByCollector before after fell rose task end
what_it_left before after fell rose task (Todo other) left = absurd left
what_it_left before after fell rose task (Ended end) left = (end, refl, left)
what_it_left before after fell rose task Vacant left = absurd left

-- Lists that were lent are pairs as those that lent them.
pub pairs_of : {A B : Type 0} {R : A → B → Type 0} {old lent : List A} {new back : List B} → lent ≡ old → back ≡ new → Pairs R lent back → Pairs R old new
pairs_of {A} {B} {R = R} {old = old} {back = back} lent_is back_is pairs =
    subst (λ (ys : List B). Pairs R old ys) back_is (subst (λ (xs : List A). Pairs R xs back) lent_is pairs)
