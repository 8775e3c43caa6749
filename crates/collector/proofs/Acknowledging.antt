-- What a collector holds after one acknowledgement more.
use Rattle.std.proofs.Common.{◌≡◌, ◌≢◌, ◌⊎◌, ℕ, zero, suc, ◌+◌, ◌<◌, ◌≤◌, Bool, true, false, ◌&&◌, cond, eqb, List, [], ◌∷◌, length, Option, Some, None, refl, sym, ap, ◌∙◌, subst, arith, inl, inr}
use Rattle.std.specs.Prelude.{slice_get, unwrap_or, IsSomeAnd}
use Rattle.std.specs.Option.{option_map_or}
use Rattle.std.proofs.lemmas.Bool.{cases_eq, and_parts, and_from, eqb-true, eq-eqb}
use Rattle.std.proofs.lemmas.Option.{same_Some}
use Rattle.flow_defs.specs.declared.job.Job.{Job}
use Rattle.flow_defs.specs.declared.image.Image.{Image}
use Rattle.flow_defs.specs.declared.image.Snapshot.{Snapshot}
use Rattle.flow_defs.specs.Items.{Items}
use Rattle.flow_defs.specs.Jobs.{last_edge, tasks, sum_below}
use Rattle.plain_machine.specs.Places.{sender_place}
use Rattle.collector.specs.declared.collector.Checkpoint.{Checkpoint}
use Rattle.collector.specs.declared.collector.Collector.{Collector}
use Rattle.collector.specs.Fitting.{IsTask, FitsTask, IsSnapshotOf}
use Rattle.collector.specs.Images.{IsImageOf}
use Rattle.collector.specs.Collecting.{task_count, kept_at, acknowledged, and_one, AreAll, IsOfCheckpoint, IsCollector, IsDue, IsOneMore, IsCompleted}
use Rattle.collector.specs.Filling.{IsPut, IsBlank, IsFilled, IsAtPlace, AreOfTasks}
use Rattle.collector.proofs.TaskPlaces.{place_within, same_place, At, at_place}
use Rattle.collector.proofs.MadeImages.{image_of}

some_none : {X : Type 0} (x : X) → None ≡ Some x → ⊥
some_none x e = cc

some_of : {X : Type 0} (found : Option X) (x : X) → found ≢ None → found ≡ Some (unwrap_or found x)
some_of None x some = absurd (some refl)
some_of (Some y) x some = refl

put_kept : (old new : List (Option Snapshot)) (place : ℕ) (snapshot : Snapshot) → IsPut 0 place (Some snapshot) old new → place < length old → kept_at new place ≡ Some snapshot
put_kept old new place snapshot put within =
    ap (λ o. option_map_or (λ (slot : Option Snapshot). slot) o None) (put.there place (omega arith) within)

put_else : (old new : List (Option Snapshot)) (place i : ℕ) (slot : Option Snapshot) → IsPut 0 place slot old new → i ≢ place → kept_at new i ≡ kept_at old i
put_else old new place i slot put ne =
    ap (λ o. option_map_or (λ (slot : Option Snapshot). slot) o None) (put.others i (λ e. ne (omega (arith, e))))

-- what is known of a snapshot that stands in a collector, or may come to stand there
of_some : (opened : Option Checkpoint) (P : Checkpoint → Type 0) (checkpoint : Checkpoint) → opened ≡ Some checkpoint → IsSomeAnd opened P → P checkpoint
of_some None P checkpoint is some = absurd (some_none checkpoint is)
of_some (Some other) P checkpoint is some = subst P (same_Some other checkpoint is) some

its_task : (job : Job) (snapshot : Snapshot) (opened : Option Checkpoint) → IsSomeAnd opened (IsOfCheckpoint job snapshot) → IsTask job snapshot.task.stage snapshot.task.index
its_task job snapshot None some = absurd some
its_task job snapshot (Some checkpoint) some = some.fits.task

its_place : (job : Job) (place : ℕ) (snapshot : Snapshot) (opened : Option Checkpoint) → place ≡ sender_place job snapshot.task.stage snapshot.task.index → IsSomeAnd opened (IsOfCheckpoint job snapshot) → IsAtPlace job place snapshot
its_place job place snapshot None is some = absurd some
its_place job place snapshot (Some checkpoint) is some = record { at = is; saved_in = some.fits.saved_in; saved_out = some.fits.saved_out }

pub are_of_tasks : (collector : Collector) → IsCollector collector → AreOfTasks collector.job.now collector.snapshots.items
are_of_tasks collector is place snapshot here = let known = is.each place snapshot here in its_place collector.job.now place snapshot collector.opened known.0 known.1

none_or : (found : Option Snapshot) → ((snapshot : Snapshot) → found ≡ Some snapshot → ⊥) → found ≡ None
none_or None never = refl
none_or (Some snapshot) never = absurd (never snapshot refl)

not_open : (opened : Option Checkpoint) (P : Checkpoint → Type 0) → opened ≡ None → IsSomeAnd opened P → ⊥
not_open None P is some = some
not_open (Some checkpoint) P is some = some_none checkpoint (sym is)

-- where none is open, nothing stands in a collector
pub none_kept : (collector : Collector) → IsCollector collector → collector.opened ≡ None → (place : ℕ) → kept_at collector.snapshots.items place ≡ None
none_kept collector is closed place = none_or (kept_at collector.snapshots.items place) (λ snapshot here. not_open collector.opened _ closed (is.each place snapshot here).1)

-- so any may be opened, and the slots of a new one are
pub empty_collector : (collector : Collector) (opened : Option Checkpoint) (slots : Items (Option Snapshot)) → IsCollector collector → length slots.items ≡ task_count collector.job.now →
    ((place : ℕ) → kept_at slots.items place ≡ None) → IsCollector (record { job = collector.job; opened = opened; snapshots = slots })
empty_collector collector opened slots is many none = record {
  is_job = is.is_job;
  many = many;
  each = λ place snapshot here. absurd (some_none snapshot (sym (none place) ∙ here));
}

module _ (old : Collector) (slots : Items (Option Snapshot)) (snapshot : Snapshot) (is : IsCollector old) (due : IsDue old snapshot)
    (put : IsPut 0 (sender_place old.job.now snapshot.task.stage snapshot.task.index) (Some snapshot) old.snapshots.items slots.items) where
  task : IsTask old.job.now snapshot.task.stage snapshot.task.index
  task = its_task old.job.now snapshot old.opened due.of_open

  within : sender_place old.job.now snapshot.task.stage snapshot.task.index < length old.snapshots.items
  within =
      let low = place_within (suc (suc (last_edge old.job.now))) (tasks old.job.now) snapshot.task.stage snapshot.task.index (let t = task.0 in omega (arith, t)) task.1 in
      omega (arith, low, is.many)

  kept_here : kept_at slots.items (sender_place old.job.now snapshot.task.stage snapshot.task.index) ≡ Some snapshot
  kept_here = put_kept old.snapshots.items slots.items (sender_place old.job.now snapshot.task.stage snapshot.task.index) snapshot put within

  kept_else : (i : ℕ) → i ≢ sender_place old.job.now snapshot.task.stage snapshot.task.index → kept_at slots.items i ≡ kept_at old.snapshots.items i
  kept_else i ne = put_else old.snapshots.items slots.items (sender_place old.job.now snapshot.task.stage snapshot.task.index) i (Some snapshot) put ne

  -- it stays a collector
  pub still_collector : IsCollector (record { job = old.job; opened = old.opened; snapshots = slots })
  still_collector = record {
    is_job = is.is_job;
    many = put.many ∙ is.many;
    each = λ i s here. elim (cases_eq i (sender_place old.job.now snapshot.task.stage snapshot.task.index)) [
      | inl e ↦
          let same : snapshot ≡ s = same_Some snapshot s (sym kept_here ∙ ap (kept_at slots.items) (sym e) ∙ here) in
          subst (λ (t : Snapshot). (i ≡ sender_place old.job.now t.task.stage t.task.index) × IsSomeAnd old.opened (IsOfCheckpoint old.job.now t)) same (e, due.of_open)
      | inr ne ↦ is.each i s (sym (kept_else i ne) ∙ here)
    ];
  }

  -- and has this acknowledgement beside the others
  pub and_this : (i a : ℕ) → IsTask old.job.now i a → kept_at slots.items (sender_place old.job.now i a) ≡ and_one (acknowledged old) snapshot i a
  and_this i a here =
      elim (eqb snapshot.task.stage i && eqb snapshot.task.index a) as (λ t. (eqb snapshot.task.stage i && eqb snapshot.task.index a) ≡ t →
      kept_at slots.items (sender_place old.job.now i a) ≡ cond t (Some snapshot) (kept_at old.snapshots.items (sender_place old.job.now i a))) [
        | true ↦ λ on.
            let parts = and_parts (eqb snapshot.task.stage i) (eqb snapshot.task.index a) on in
            let same : sender_place old.job.now snapshot.task.stage snapshot.task.index ≡ sender_place old.job.now i a =
            ap (λ j. sender_place old.job.now j snapshot.task.index) (eqb-true _ _ parts.0) ∙ ap (sender_place old.job.now i) (eqb-true _ _ parts.1) in
            ap (kept_at slots.items) (sym same) ∙ kept_here
        | false ↦ λ off. kept_else (sender_place old.job.now i a) (λ e.
            let same = same_place (tasks old.job.now) i a snapshot.task.stage snapshot.task.index here.1 task.1 e in
            let yes = and_from (eqb snapshot.task.stage i) (eqb snapshot.task.index a) (eq-eqb _ _ (sym same.0)) (eq-eqb _ _ (sym same.1)) in
            let no : true ≡ false = sym yes ∙ off in cc)
      ] refl

  -- a further one is missing
  pub one_more : (((i : ℕ) → i < length old.snapshots.items → i ≢ sender_place old.job.now snapshot.task.stage snapshot.task.index → kept_at old.snapshots.items i ≢ None) → ⊥) →
      IsOneMore old snapshot (record { job = old.job; opened = old.opened; snapshots = slots })
  one_more some_missing = record {
    same_open = refl;
    one_more = and_this;
    not_all = λ snapshots all. some_missing (λ i low ne none.
        let at = at_place (tasks old.job.now) (suc (suc (last_edge old.job.now))) i (omega (arith, low, is.many)) in
        some_none (snapshots at.i at.a) (sym none ∙ sym (kept_else i ne) ∙ ap (kept_at slots.items) at.is ∙ all at.i at.a (let l = at.low in omega (arith, l), at.here)));
  }

  -- none is missing
  pub completed : (checkpoint : Checkpoint) (fresh : Items (Option Snapshot)) (blank image : Image) → old.opened ≡ Some checkpoint →
      ((i : ℕ) → i < length old.snapshots.items → i ≢ sender_place old.job.now snapshot.task.stage snapshot.task.index → kept_at old.snapshots.items i ≢ None) →
      IsBlank old.job.now checkpoint blank → IsFilled old.job.now slots.items blank image →
      IsCompleted old snapshot (record { job = old.job; opened = None; snapshots = fresh }) image
  completed checkpoint fresh blank image opened kept is_blank filled = record {
    closed = refl;
    snapshots = its;
    all = λ i a here. sym (and_this i a here) ∙ all_are i a here;
    made = subst (λ (o : Option Checkpoint). IsSomeAnd o (λ checkpoint.
        IsImageOf old.job.now checkpoint.number checkpoint.final_one its image × ((i a : ℕ) → IsTask old.job.now i a → IsSnapshotOf old.job.now checkpoint.final_one i a (its i a)))) (sym opened) (
          image_of old.job.now checkpoint slots.items its blank image is_blank filled all_are,
          λ i a here.
              let known = still_collector.each (sender_place old.job.now i a) (its i a) (all_are i a here) in
              let own : IsOfCheckpoint old.job.now (its i a) checkpoint = of_some old.opened (IsOfCheckpoint old.job.now (its i a)) checkpoint opened known.1 in
              let same = same_place (tasks old.job.now) (its i a).task.stage (its i a).task.index i a own.fits.task.1 here.1 (sym known.0) in
              record { stage = same.0; index = same.1; fits = own.fits },
        );
  }
    where
      its : ℕ → ℕ → Snapshot
      its i a = unwrap_or (kept_at slots.items (sender_place old.job.now i a)) snapshot

      all_are : (i a : ℕ) → IsTask old.job.now i a → kept_at slots.items (sender_place old.job.now i a) ≡ Some (its i a)
      all_are i a here = some_of (kept_at slots.items (sender_place old.job.now i a)) snapshot (λ none.
          elim (cases_eq (sender_place old.job.now i a) (sender_place old.job.now snapshot.task.stage snapshot.task.index)) [
            | inl e ↦ some_none snapshot (sym none ∙ ap (kept_at slots.items) e ∙ kept_here)
            | inr ne ↦
                let low = place_within (suc (suc (last_edge old.job.now))) (tasks old.job.now) i a (let t = here.0 in omega (arith, t)) here.1 in
                kept (sender_place old.job.now i a) (omega (arith, low, is.many)) ne (sym (kept_else (sender_place old.job.now i a) ne) ∙ none)
          ])
