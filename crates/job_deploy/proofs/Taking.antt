-- The passes that all workers and all tasks share, as they are taken.
use Rattle.std.proofs.Common.{◌≡◌, ℕ, zero, suc, ◌+◌, ◌<◌, ◌≤◌, List, [], ◌∷◌, ◌++◌, map, length, Option, Some, refl, sym, ap, subst, ◌∙◌, arith, append_assoc, append-nil, length-append}
use Rattle.std.specs.Prelude.{All, IfSome}
use Rattle.std.proofs.lemmas.List.{length_push, length-map, map_push, same_from_push}
use Rattle.std.proofs.lemmas.List.Elements.{All-pop}
use Rattle.turn_cell.specs.declared.cell.TurnCell.{TurnCell}
use Rattle.turn_cell.specs.declared.pass.Pass.{Pass}
use Rattle.turn_cell.specs.Passes.{IsPassOf}
use Rattle.flow_defs.specs.declared.job.Job.{Job}
use Rattle.flow_defs.specs.declared.task.TaskId.{TaskId}
use Rattle.flow_defs.specs.Jobs.{last_edge, tasks}
use Rattle.outside.specs.declared.last_image.LastImage.{LastImage}
use Rattle.outside.specs.declared.last_image.Stored.{Stored}
use Rattle.plain_machine.specs.Worth.{concat_below}
use Rattle.job_start.specs.declared.start.Start.{Start}
use Rattle.job_start.specs.Starts.{IsStartFor}
use Rattle.snapshot_channel.specs.declared.opened.SnapshotChannel.{SnapshotChannel}
use Rattle.snapshot_channel.specs.declared.opened.TaskPass.{TaskPass}
use Rattle.snapshot_channel.specs.declared.views.Opening.{Opening}
use Rattle.snapshot_channel.specs.Passes as channels
use Rattle.snapshot_channel.specs.Snapshots.{tasks_below, task}
use Rattle.task_output.specs.declared.world.World.{World}
use Rattle.task_output.specs.Acking.{IsLent, base_of}
use Rattle.job_deploy.specs.declared.shared.Shared.{Shared}
use Rattle.job_deploy.specs.Placing.{AreFewer, AreStops, HasFirst, HasStages, HasStayed, HasTasks, HasTheirs, WereTaken, first_tasks}
use Rattle.job_deploy.specs.Shared.{AreShared}

-- ---- what stays

pub stayed_none : (shared : Shared) → HasStayed shared shared
stayed_none shared = record { start_is = refl; every_is = refl; channel = refl }

pub stayed_more : (a b c : Shared) → HasStayed a b → HasStayed b c → HasStayed a c
stayed_more a b c one two = record { start_is = two.start_is ∙ one.start_is; every_is = two.every_is ∙ one.every_is; channel = two.channel ∙ one.channel }

pub theirs_more : (a b c : Shared) → HasTheirs a b → HasTheirs b c → HasTheirs a c
theirs_more a b c one two = record {
  snapshot_passes = two.snapshot_passes ∙ one.snapshot_passes;
  last_image = two.last_image ∙ one.last_image;
  last_passes = two.last_passes ∙ one.last_passes;
}

-- What is so with the interval and the channel of later is so with those of before.
pub as_before : (P : Option ℕ → SnapshotChannel → Type 0) (before after : Shared) → HasStayed before after → P after.every after.snapshots.now → P before.every before.snapshots.now
as_before P before after stayed holds =
    subst (λ (c : SnapshotChannel). P before.every c) stayed.channel (subst (λ (e : Option ℕ). P e after.snapshots.now) stayed.every_is holds)

pub as_after : (P : Option ℕ → SnapshotChannel → Type 0) (before after : Shared) → HasStayed before after → P before.every before.snapshots.now → P after.every after.snapshots.now
as_after P before after stayed holds =
    subst (λ (c : SnapshotChannel). P after.every c) (sym stayed.channel) (subst (λ (e : Option ℕ). P e before.snapshots.now) (sym stayed.every_is) holds)

-- ---- passes of the stop cell

pub fewer_none : (shared : Shared) → AreStops shared → AreFewer 0 shared shared
fewer_none shared are = record { stayed = stayed_none shared; cell = refl; are = are; fewer = omega arith }

pub fewer_more : (n m k : ℕ) (a b c : Shared) → n + m ≡ k → AreFewer n a b → AreFewer m b c → AreFewer k a c
fewer_more n m k a b c sum one two = record {
  stayed = stayed_more a b c one.stayed two.stayed;
  cell = two.cell ∙ one.cell;
  are = two.are;
  fewer = (let f = one.fewer in let g = two.fewer in omega (arith, f, g, sum));
}

-- ---- passes of tasks

opened_after : (job : Job) (before after : Shared) → HasStayed before after → channels.opening job before.start.now before.every ≡ channels.opening job after.start.now after.every
opened_after job before after stayed = ap (λ (s : Start). channels.opening job s before.every) (sym stayed.start_is) ∙ ap (channels.opening job after.start.now) (sym stayed.every_is)

-- Where none was taken they are those of the same tasks.
pub tasks_kept : (job : Job) (whose : List TaskId) (before after : Shared) → HasStayed before after → HasTheirs before after → HasTasks job whose before → HasTasks job whose after
tasks_kept job whose before after stayed theirs has = record {
  start = subst (IsStartFor job) (sym stayed.start_is) has.start;
  interval = subst (λ (e : Option ℕ). IfSome e (λ n. 1 ≤ n)) (sym stayed.every_is) has.interval;
  opening = ap channels.opening_of stayed.channel ∙ has.opening ∙ opened_after job before after stayed;
  fresh = subst (λ (c : SnapshotChannel). All (channels.IsFresh c) after.snapshot_passes.items) (sym stayed.channel)
      (subst (λ (l : List TaskPass). All (channels.IsFresh before.snapshots.now) l) (sym theirs.snapshot_passes) has.fresh);
  tasks_are = ap (map channels.task_of) theirs.snapshot_passes ∙ has.tasks_are;
  last_passes = subst (λ (c : TurnCell LastImage Stored (Unit {0})). All (IsPassOf c) after.last_passes.items) (sym theirs.last_image)
      (subst (λ (l : List (Pass LastImage Stored (Unit {0}))). All (IsPassOf before.last_image.now) l) (sym theirs.last_passes) has.last_passes);
  last_enough = (let e = has.last_enough in let l = ap length theirs.last_passes in omega (arith, e, l));
}

pub tasks_same : (job : Job) (whose whose' : List TaskId) (shared : Shared) → whose ≡ whose' → HasTasks job whose shared → HasTasks job whose' shared
tasks_same job whose whose' shared same has = subst (λ (l : List TaskId). HasTasks job l shared) same has

-- The first tasks of a stage, of which there are none, one more, or all.
pub first_none : (job : Job) (i n : ℕ) → n ≡ 0 → first_tasks job i n ≡ tasks_below job i
first_none job i n none = ap (first_tasks job i) none ∙ append-nil (tasks_below job i)

first_more : (job : Job) (i n : ℕ) → first_tasks job i (suc n) ≡ first_tasks job i n ++ task i n ∷ []
first_more job i n = sym (append_assoc (tasks_below job i) (concat_below n (λ a. task i a ∷ [])) (task i n ∷ []))

pub first_all : (job : Job) (i n : ℕ) (shared : Shared) → n ≡ tasks job i → HasStages job (suc i) shared → HasFirst job i n shared
first_all job i n shared all has = tasks_same job (first_tasks job i (tasks job i)) (first_tasks job i n) shared (ap (first_tasks job i) (sym all)) has

pub stages_left : (job : Job) (i n : ℕ) (shared : Shared) → n ≡ 0 → HasFirst job i n shared → HasStages job i shared
stages_left job i n shared none has = tasks_same job (first_tasks job i n) (tasks_below job i) shared (first_none job i n none) has

length_first : (job : Job) (i n : ℕ) → length (first_tasks job i n) ≡ length (tasks_below job i) + n
length_first job i n = length-append (tasks_below job i) (concat_below n (λ a. task i a ∷ [])) ∙ ap (λ k. length (tasks_below job i) + k) (each n)
  where
    each : (n : ℕ) → length (concat_below n (λ a. task i a ∷ [])) ≡ n
    each zero = refl
    each (suc n) = let deep = each n in let l = length_push (concat_below n (λ a. task i a ∷ [])) (task i n) in omega (arith, deep, l)

-- How many tasks the first stages have.
pub length_below : (job : Job) (i : ℕ) → length (tasks_below job (suc i)) ≡ length (tasks_below job i) + tasks job i
length_below job i = length_first job i (tasks job i)

pub some_left : (job : Job) (i n : ℕ) (shared : Shared) → 0 < n → HasFirst job i n shared → (0 < length shared.snapshot_passes.items) × (0 < length shared.last_passes.items)
some_left job i n shared some has =
    let long = length_first job i n in
    let many : length shared.snapshot_passes.items ≡ length (first_tasks job i n) = sym (length-map shared.snapshot_passes.items channels.task_of) ∙ ap length has.tasks_are in
    let enough = has.last_enough in
    (omega (arith, long, many, some), omega (arith, long, enough, some))

-- The last passes are those of the last task.
module _ {P : Type 0} (job : Job) (i n : ℕ) (before after : Shared) (world : World P) (stayed : HasStayed before after) (taken : WereTaken before after world) (has : HasFirst job i (suc n) before) where
  whose : (map channels.task_of after.snapshot_passes.items ≡ first_tasks job i n) × (channels.task_of world.acks.pass ≡ task i n)
  whose =
      same_from_push (map channels.task_of after.snapshot_passes.items) (first_tasks job i n) (channels.task_of world.acks.pass) (task i n)
      (sym (map_push channels.task_of after.snapshot_passes.items world.acks.pass) ∙ ap (map channels.task_of) (sym taken.snapshot_pass) ∙ has.tasks_are ∙ first_more job i n)

  fresh : All (channels.IsFresh before.snapshots.now) after.snapshot_passes.items × channels.IsFresh before.snapshots.now world.acks.pass
  fresh = All-pop (channels.IsFresh before.snapshots.now) before.snapshot_passes.items after.snapshot_passes.items (Some world.acks.pass) taken.snapshot_pass has.fresh

  last : All (IsPassOf before.last_image.now) after.last_passes.items × IsPassOf before.last_image.now world.acks.last_pass
  last = All-pop (IsPassOf before.last_image.now) before.last_passes.items after.last_passes.items (Some world.acks.last_pass) taken.last_pass has.last_passes

  pub first_left : HasFirst job i n after
  first_left = record {
    start = subst (IsStartFor job) (sym stayed.start_is) has.start;
    interval = subst (λ (e : Option ℕ). IfSome e (λ n. 1 ≤ n)) (sym stayed.every_is) has.interval;
    opening = ap channels.opening_of stayed.channel ∙ has.opening ∙ opened_after job before after stayed;
    fresh = subst (λ (c : SnapshotChannel). All (channels.IsFresh c) after.snapshot_passes.items) (sym stayed.channel) fresh.0;
    tasks_are = whose.0;
    last_passes = subst (λ (c : TurnCell LastImage Stored (Unit {0})). All (IsPassOf c) after.last_passes.items) (sym taken.last_image.1) last.0;
    last_enough =
        let enough = has.last_enough in let long = length_first job i n in let longer = length_first job i (suc n) in
        let l = ap length taken.last_pass ∙ length_push after.last_passes.items world.acks.last_pass in
        omega (arith, enough, long, longer, l);
  }

  pub may_start : IsStartFor job after.start.now
  may_start = subst (IsStartFor job) (sym stayed.start_is) has.start

  opening : channels.opening_of world.acks.snapshots.now ≡ channels.opening job after.start.now after.every
  opening = ap channels.opening_of taken.channel ∙ has.opening ∙ opened_after job before after stayed

  pub may_checkpoint : IsLent job i n after.start.now after.every world
  may_checkpoint = record {
    interval = subst (λ (e : Option ℕ). IfSome e (λ n. 1 ≤ n)) (sym stayed.every_is) has.interval;
    passes = record {
      snapshots = subst (λ (c : SnapshotChannel). channels.IsPassOf c world.acks.pass) (sym taken.channel) fresh.1.0;
      last_image = subst (λ (c : TurnCell LastImage Stored (Unit {0})). IsPassOf c world.acks.last_pass) (sym taken.last_image.0) last.1;
      base_is = taken.base ∙ ap base_of (sym stayed.start_is ∙ sym (ap (λ (o : Opening). o.start) opening));
      sent_is = taken.none_sent ∙ sym (ap length fresh.1.1);
    };
    fresh = fresh.1.1;
    task = whose.1;
    opening = opening;
    stop = taken.stop;
  }

-- What is shared at first are passes of all tasks.
pub all_shared : (job : Job) (shared : Shared) → AreShared job shared → HasStages job (suc (suc (last_edge job))) shared
all_shared job shared are = record {
  start = are.start;
  interval = are.interval;
  opening = are.opening;
  fresh = are.fresh;
  tasks_are = are.tasks_are;
  last_passes = are.last_passes;
  last_enough = are.last_enough;
}
