-- An aggregate task sends its snapshots.
use Rattle.std.proofs.Common.{◌≡◌, ℕ, suc, ◌+◌, List, [], ◌∷◌, ◌++◌, length, sym, ap, subst, ◌∙◌, arith}
use Rattle.std.specs.Prelude.{All, Bool}
use Rattle.std.specs.Borrow.{Bor}
use Rattle.std.proofs.lemmas.List.Elements.{All-nil}
use Rattle.turn_cell.specs.Passes.{seen}
use Rattle.flow_defs.specs.declared.image.Saved.{Saved}
use Rattle.flow_defs.specs.declared.image.Snapshot.{Snapshot}
use Rattle.flow_defs.specs.declared.image.TakeRun.{TakeRun}
use Rattle.flow_defs.specs.declared.job.Job.{Job}
use Rattle.flow_defs.specs.declared.task.TaskId.{TaskId}
use Rattle.flow_defs.specs.Jobs.{last_edge}
use Rattle.flow_defs.specs.Tables.{Values}
use Rattle.plain_machine.specs.Images.{AreRuns, HasShortKeys}
use Rattle.outside.specs.declared.last_image.Stored.{Stored}
use Rattle.snapshot_channel.specs.declared.opened.SnapshotChannel.{SnapshotChannel}
use Rattle.snapshot_channel.specs.declared.opened.TaskPass.{TaskPass}
use Rattle.snapshot_channel.specs.declared.views.Opening.{Opening}
use Rattle.snapshot_channel.specs.Snapshots.{MaySend, FitsTask, AreTakesAt, HaveOwnChannels, LeadsTo, ComesFrom}
use Rattle.snapshot_channel.specs.Passes.{opening_of, sent_by, task_of}
use Rattle.task_output.specs.declared.acks.Acks.{Acks}
use Rattle.task_output.specs.Acking.{IsSameTask, base_of}
use Rattle.task_output.specs.Waiting.{KnowsLast}
use Rattle.aggregate_task.specs.declared.checkpoint.AggregateOutput.{AggregateOutput}
use Rattle.aggregate_task.specs.Acknowledging.{IsAcking, start_at, next_number}
use Rattle.aggregate_task.specs.Snapshots.{IsSnapshotWith, SentSnapshot}

none : {X : Type 0} (P : X → Type 0) (xs : List X) → xs ≡ [] → All P xs
none P xs is = subst (All P) (sym is) (All-nil P)

none_twice : (pieces : List Saved) → pieces ≡ [] → HaveOwnChannels pieces
none_twice pieces is = subst HaveOwnChannels (sym is) (λ i j d low high same. absurd (omega (arith, high)))

fits : (job : Job) (b k : ℕ) (table : Values) (runs : List TakeRun) (x : Snapshot) → IsSnapshotWith job b k table runs x → HasShortKeys table → AreRuns job (last_edge job) b runs → FitsTask job x
fits job b k table runs x is keys are_runs = record {
  keys = subst HasShortKeys (sym is.table_is) keys;
  runs = subst (λ (t : TaskId). AreTakesAt job t.stage t.index x.takes.items) (sym is.task) (subst (AreRuns job (last_edge job) b) (sym is.takes_are) are_runs);
  came_in = none (λ p. LeadsTo job x.task p.channel) x.saved_in.items is.none_in;
  came_in_once = none_twice x.saved_in.items is.none_in;
  goes_out = none (λ p. ComesFrom job x.task p.channel) x.saved_out.items is.none_out;
  goes_out_once = none_twice x.saved_out.items is.none_out;
}

-- the task has learnt whether the next checkpoint, k, is the last one
module _ (out : AggregateOutput) (learnt : Acks) (k : ℕ) (counts table : Values) (runs : List TakeRun) (x : Snapshot) (own : IsAcking out) (same : IsSameTask out.acks learnt) (unsent : learnt.pass ≡ out.acks.pass) (copied : table ≡ counts) (is : IsSnapshotWith out.job.now out.index k table runs x) (next : k ≡ out.acks.base.number + suc out.acks.sent) where
  -- that is the number of the one behind the start and those that it has sent
  is_next : k ≡ next_number out
  is_next =
      let base : out.acks.base.number ≡ (start_at out).number = ap (λ (b : Stored). b.number) own.passes.base_is in
      let sent = own.passes.sent_is in
      omega (arith, next, base, sent)

  pub may_send : HasShortKeys counts → AreRuns out.job.now (last_edge out.job.now) out.index runs → MaySend (opening_of learnt.snapshots.now) (task_of learnt.pass) (sent_by learnt.pass) x
  may_send keys are_runs =
      subst (λ (s : Bor SnapshotChannel). MaySend (opening_of s.now) (task_of learnt.pass) (sent_by learnt.pass) x) (sym same.snapshots)
      (subst (λ (p : TaskPass). MaySend (opening_of out.acks.snapshots.now) (task_of p) (sent_by p) x) (sym unsent) (record {
        task_is = is.task ∙ sym own.task;
        number_is = is.number ∙ is_next ∙ omega arith;
        fits = subst (λ (o : Opening). FitsTask o.job x) (sym own.opened) (fits out.job.now out.index k table runs x is (subst HasShortKeys (sym copied) keys) are_runs);
        at_end = λ first ended. absurd (let z : suc (last_edge out.job.now) ≡ 0 = ap (λ (t : TaskId). t.stage) (sym own.task) ∙ first in omega (arith, z));
      }))

  module _ (sent : Acks) where
    pub sent_it : sent_by sent.pass ≡ sent_by learnt.pass ++ x ∷ [] → SentSnapshot out.job.now out.index (next_number out) counts runs (sent_by out.acks.pass) (sent_by sent.pass)
    sent_it more = record {
      snapshot = x;
      sent = more ∙ ap (λ p. sent_by p ++ x ∷ []) unsent;
      is_with = subst (λ (t : Values). IsSnapshotWith out.job.now out.index (next_number out) t runs x) copied (subst (λ n. IsSnapshotWith out.job.now out.index n table runs x) is_next is);
    }

    pub knows : (last : Bool) → learnt.sent ≡ out.acks.sent → sent.last_pass ≡ learnt.last_pass → KnowsLast learnt.base out.every (seen learnt.last_pass) learnt.sent last → KnowsLast (base_of (start_at out)) out.every (seen sent.last_pass) (length (sent_by out.acks.pass)) last
    knows last as_many unseen knows_it =
        subst (λ (history : List (ℕ × Stored)). KnowsLast (base_of (start_at out)) out.every history (length (sent_by out.acks.pass)) last) (sym (ap seen unseen))
        (subst (λ (base : Stored). KnowsLast base out.every (seen learnt.last_pass) (length (sent_by out.acks.pass)) last) (same.base ∙ own.passes.base_is)
        (subst (λ n. KnowsLast learnt.base out.every (seen learnt.last_pass) n last) (as_many ∙ own.passes.sent_is) knows_it))
