-- What the loops keep.
use Rattle.std.proofs.Common.{◌≡◌, ℕ, suc, inr, arith, Some, Option, ◌+◌, ◌<◌, ◌≤◌, List, [], ◌∷◌, ◌++◌, map, length, refl, sym, ap, ◌∙◌, subst, append_assoc, append-nil}
use Rattle.std.specs.Prelude.{All}
use Rattle.std.proofs.lemmas.List.Elements.{All-pop, All-nil}
use Rattle.crossbeam_channel.specs.Claims.{view}
use Rattle.flow_defs.specs.declared.task.TaskId.{TaskId}
use Rattle.flow_defs.specs.declared.job.Job.{Job}
use Rattle.job_start.specs.declared.start.Start.{Start}
use Rattle.flow_defs.specs.Jobs.{tasks, last_edge}
use Rattle.plain_machine.specs.Worth.{concat_below}
use Rattle.snapshot_channel.specs.declared.opened.SnapshotChannel.{SnapshotChannel}
use Rattle.snapshot_channel.specs.declared.opened.TaskPass.{TaskPass}
use Rattle.snapshot_channel.specs.declared.opened.CollectingPass.{CollectingPass}
use Rattle.snapshot_channel.specs.declared.opened.Opened.{Opened}
use Rattle.snapshot_channel.specs.declared.views.Handed.{Handed}
use Rattle.snapshot_channel.specs.declared.views.Opening.{Opening}
use Rattle.snapshot_channel.specs.Snapshots.{task, tasks_below}
use Rattle.snapshot_channel.specs.Views.{IsFrom, opened, unopened}
use Rattle.snapshot_channel.specs.Passes.{IsCollecting, IsDealt, IsFresh, IsOpened, IsPassOf, opening, opening_of, received_by, received_in, back_in, next_in, handed_by, task_of}

-- the passes that came back stood behind those that are left
pub record IsSoFar (channel : SnapshotChannel) (before after : CollectingPass) (passes rest : List TaskPass) : Type 0 where
  pub collecting : IsCollecting channel after
  pub received : received_by after ≡ received_by before
  pub are_passes : All (IsPassOf channel) rest
  pub back : (done : List TaskPass) × (passes ≡ rest ++ done) × (back_in (view after.pass) ≡ map handed_by done ++ back_in (view before.pass))

-- the tasks of the stages before have their passes, and so many of this stage
pub record IsDealtTo (channel : SnapshotChannel) (stage index : ℕ) (collecting : CollectingPass) (passes : List TaskPass) : Type 0 where
  pub collecting_is : IsCollecting channel collecting
  pub from : IsFrom (next_in (view collecting.pass)) (task stage index)
  pub none_received : received_by collecting ≡ []
  pub passes_are : All (IsFresh channel) passes
  pub tasks_are : map task_of passes ≡ tasks_below (opening_of channel).job stage ++ concat_below index (λ a. task stage a ∷ [])

pub so_far_more : (channel : SnapshotChannel) (before mid after : CollectingPass) (passes old new : List TaskPass) (pass : TaskPass) → IsSoFar channel before mid passes old → old ≡ new ++ pass ∷ [] →
    IsCollecting channel after → received_by after ≡ received_by mid → back_in (view after.pass) ≡ handed_by pass ∷ back_in (view mid.pass) → IsSoFar channel before after passes new
so_far_more channel before mid after passes old new pass h e collecting received back =
    record {
      collecting = collecting;
      received = received ∙ h.received;
      are_passes = (All-pop (IsPassOf channel) old new (Some pass) e h.are_passes).0;
      back = (
        pass ∷ h.back.0,
        h.back.1 ∙ ap (λ (l : List TaskPass). l ++ h.back.0) e ∙ append_assoc new (pass ∷ []) h.back.0,
        back ∙ ap (λ (l : List Handed). handed_by pass ∷ l) h.back.2,
      );
    }

-- the channel was opened for this, and the tasks of the stages before have their passes
pub record IsOpening (o : Opening) (channel : SnapshotChannel) (stage : ℕ) (collecting : CollectingPass) (passes : List TaskPass) : Type 0 where
  pub opening_is : opening_of channel ≡ o
  pub dealt : IsDealt channel stage collecting passes

pub opening_begins : (o : Opening) (channel : SnapshotChannel) (collecting : CollectingPass) (passes : List TaskPass) → opening_of channel ≡ o → IsCollecting channel collecting →
    view collecting.pass ≡ opened o unopened → passes ≡ [] → IsOpening o channel 0 collecting passes
opening_begins o channel collecting passes e h v none =
    record {
      opening_is = e;
      dealt = record {
        collecting_is = h;
        from = subst (λ u. IsFrom (next_in u) (task 0 0)) (sym v) (inr (refl, omega arith));
        none_received = ap received_in v;
        passes_are = subst (All (IsFresh channel)) (sym none) (All-nil (IsFresh channel));
        tasks_are = ap (map task_of) none;
      };
    }

pub opening_ends : (job : Job) (start : Start) (every : Option ℕ) (o : Opened) (n : ℕ) → n ≡ length job.stages.items + 2 → IsOpening (opening job start every) o.channel n o.collecting o.passes.items → IsOpened job start every o
opening_ends job start every o n e h =
    let d = h.dealt in
    let all : n ≡ suc (suc (last_edge job)) = omega arith in
    record {
      opening_is = h.opening_is;
      collecting_is = d.collecting_is;
      none_received = d.none_received;
      passes_are = d.passes_are;
      tasks_are = d.tasks_are ∙ ap (λ (p : Opening). tasks_below p.job n) h.opening_is ∙ ap (tasks_below job) all;
    }
