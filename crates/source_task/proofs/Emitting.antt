-- How what a source emitted grows.
use Rattle.std.proofs.Common.{◌≡◌, Bor, ℕ, Bool, true, false, List, length, Option, Some, None, IfSome, refl, sym, ap, subst, ◌∙◌}
use Rattle.std.specs.Prelude.{◌<◌}
use Rattle.turn_cell.specs.Passes.{seen}
use Rattle.flow_defs.specs.declared.job.Job.{Job}
use Rattle.flow_defs.specs.declared.image.Snapshot.{Snapshot}
use Rattle.job_start.specs.Starts.{was_ended}
use Rattle.snapshot_channel.specs.declared.opened.SnapshotChannel.{SnapshotChannel}
use Rattle.snapshot_channel.specs.declared.opened.TaskPass.{TaskPass}
use Rattle.snapshot_channel.specs.Passes.{opening_of, sent_by}
use Rattle.snapshot_channel.specs.Snapshots.{has_ended}
use Rattle.task_output.specs.declared.acks.Acks.{Acks}
use Rattle.task_output.specs.Acking.{HasPasses, IsSameTask, base_of}
use Rattle.task_output.specs.Looking.{HasSentNoMore}
use Rattle.task_output.specs.Looking as looking
use Rattle.task_output.specs.Outputs.{Output}
use Rattle.task_output.specs.Waiting.{HasWaited, WaitedStays}
use Rattle.source_task.specs.declared.output.SourceOutput.{SourceOutput}
use Rattle.source_task.specs.Emitting.{IsInterval, AreSnapshots, HasEmitted, IsSource, IsSameSource, start_of, from_in, is_at_end}

-- ---- the same source

pub same_twice : (out mid end : SourceOutput) → IsSameSource out mid → IsSameSource mid end → IsSameSource out end
same_twice out mid end first second = record {
  writer = looking.same_twice out.output.writer mid.output.writer end.output.writer first.writer second.writer;
  index = second.index ∙ first.index;
  every_is = second.every_is ∙ first.every_is;
  snapshots = second.snapshots ∙ first.snapshots;
  last_image = second.last_image ∙ first.last_image;
}

pub same_itself : (out : SourceOutput) → IsSameSource out out
same_itself out = record { writer = looking.same_itself out.output.writer; index = refl; every_is = refl; snapshots = refl; last_image = refl }

-- ---- whether it is at its end

-- it was at its end before, or was not
pub was_same : (out out' : SourceOutput) → out'.acks.snapshots ≡ out.acks.snapshots → out'.index ≡ out.index → was_ended (start_of out') out'.index ≡ was_ended (start_of out) out.index
was_same out out' snapshots index = ap (λ (s : Bor SnapshotChannel). was_ended (opening_of s.now).start out'.index) snapshots ∙ ap (λ n. was_ended (start_of out) n) index

-- it sent no further snapshot
pub at_end_same : (out out' : SourceOutput) → out'.acks.snapshots ≡ out.acks.snapshots → out'.index ≡ out.index → sent_by out'.acks.pass ≡ sent_by out.acks.pass → is_at_end out' ≡ is_at_end out
at_end_same out out' snapshots index sent = ap (λ (b : Bool). has_ended b (sent_by out'.acks.pass)) (was_same out out' snapshots index) ∙ ap (λ (xs : List Snapshot). has_ended (was_ended (start_of out) out.index) xs) sent

-- one that reads was not at its end before
pub was_not : (was : Bool) (xs : List Snapshot) → has_ended was xs ≡ false → was ≡ false
was_not false xs is = refl
was_not true xs is = is

-- one that reads may come to its end at once
pub may_end_now : (every : Option ℕ) (since : ℕ) → IfSome every (λ interval. since < interval) → IsInterval every since true
may_end_now None since not_due = refl
may_end_now (Some interval) since not_due = not_due

pub not_due_now : (every : Option ℕ) (since : ℕ) → IsInterval every since true → IfSome every (λ interval. since < interval)
not_due_now None since interval = tt
not_due_now (Some n) since interval = interval

-- ---- nothing more was emitted, and no snapshot was sent

module _ (out : SourceOutput) (o : Output) (acks : Acks) (still : HasSentNoMore out.output o) (kept : acks.pass ≡ out.acks.pass) (same : acks.snapshots ≡ out.acks.snapshots) where
  abbrev after : SourceOutput
  after = record out { output = o; acks = acks }

  pub still_emitted : (job : Job) (size : ℕ) (lines : List (List ℕ)) → HasEmitted job size out lines → HasEmitted job size after lines
  still_emitted job size lines was =
      let from = from_in job out in
      subst (λ (s : Bor SnapshotChannel). HasEmitted job size (record out { output = o; acks = record acks { snapshots = s } }) lines) (sym same) (record {
        groups = was.groups;
        rest = was.rest;
        all_are = was.all_are;
        sent = still.still from.emitted job 0 out.index size was.groups was.rest was.sent;
        snapshots = subst (λ (p : TaskPass). AreSnapshots out.index out.every from.number from.offset from.emitted was.groups (sent_by p)) (sym kept) was.snapshots;
        offset_is = was.offset_is;
        skip_is = was.skip_is;
        since_is = was.since_is;
        at_end = λ is. was.at_end (ap (λ (p : TaskPass). has_ended (was_ended (start_of out) out.index) (sent_by p)) (sym kept) ∙ is);
      })

  pub still_at_end : is_at_end after ≡ is_at_end out
  still_at_end = at_end_same out after same refl (ap (λ (p : TaskPass). sent_by p) kept)

  pub still_waited : WaitedStays → IsSameTask out.acks acks → HasWaited (base_of (start_of out)) (length (sent_by out.acks.pass)) (seen out.acks.last_pass) → HasWaited (base_of (start_of after)) (length (sent_by acks.pass)) (seen acks.last_pass)
  still_waited stays task waited =
      subst (λ (s : Bor SnapshotChannel). HasWaited (base_of (opening_of s.now).start) (length (sent_by acks.pass)) (seen acks.last_pass)) (sym same)
      (subst (λ (p : TaskPass). HasWaited (base_of (start_of out)) (length (sent_by p)) (seen acks.last_pass)) (sym kept)
      (stays (base_of (start_of out)) (length (sent_by out.acks.pass)) (seen out.acks.last_pass) (seen acks.last_pass) task.later waited))

  pub still_source : WaitedStays → HasPasses acks → IsSameTask out.acks acks → IsSource out → IsSource after
  still_source stays passes task was = record {
    job = was.job;
    size = was.size;
    lines = was.lines;
    emitted = still_emitted was.job was.size was.lines was.emitted;
    own = record { passes = passes; task = task.task ∙ was.own.task; waited = still_waited stays task was.own.waited };
    every_is = ap (λ (s : Bor SnapshotChannel). (opening_of s.now).every) same ∙ was.every_is;
  }
