use Rattle.std.proofs.Common.{◌≡◌, ℕ, suc, ◌+◌, ◌++◌, ◌∷◌, [], List, length, refl, sym, subst, ◌∙◌}
use Rattle.turn_cell.specs.Passes.{seen}
use Rattle.flow_defs.specs.declared.job.Job.{Job}
use Rattle.record_writer.specs.Writers.{IsNextBarrier}
use Rattle.task_output.specs.Acking.{base_of}
use Rattle.task_output.specs.Outputs.{Output}
use Rattle.task_output.specs.Waiting.{HasWaited}
use Rattle.source_task.specs.declared.output.SourceOutput.{SourceOutput}
use Rattle.source_task.specs.Emitting.{IsInterval, IsSource, HasOwnPasses, HasEmitted, start_of, from_in, is_at_end}
use Rattle.source_task.proofs.Emitting.{still_emitted, still_at_end, still_source, at_end_same}
use Rattle.source_task.proofs.Taking.{next_barrier, next_same, waited_same, waited_kept, waited_next, broken_still, broken_at_barrier, broken_behind_barrier, taken, may_send, every_more, waited_more, last_more, ended_then}
use Rattle.source_task.proofs.output.SourceOutput.take_checkpoint.Given.{Over}
use Rattle.source_task.proofs.output.SourceOutput.take_checkpoint.Goals.{After-learn_last, In-Ok, In-Ok-send}
use Rattle.source_task.proofs.output.SourceOutput.take_checkpoint.Goals as goal

pub returns-in_default-clause-taken : goal.returns-in_default-clause-taken
returns-in_default-clause-taken g c = λ job size lines was. broken_still c.what_was_sent_was_begun.ensures.sent job size c.args.self.now lines was

-- ---- where it has learnt whether the checkpoint is the last

module _ (g : Over) (c : After-learn_last g) where
  abbrev learnt : SourceOutput
  learnt = record c.args.self.now { output = c.learn_last.new.stop; acks = c.learn_last.new.self }

  -- it has emitted no more
  still : (job : Job) (size : ℕ) (lines : List (List ℕ)) → HasEmitted job size c.args.self.now lines → HasEmitted job size learnt lines
  still = still_emitted c.args.self.now c.learn_last.new.stop c.learn_last.new.self c.learn_last.ensures.still c.learn_last.ensures.own.2 c.learn_last.ensures.own.1.snapshots

  source : IsSource learnt
  source =
      let own = c.learn_last.ensures.own in
      still_source c.args.self.now c.learn_last.new.stop c.learn_last.new.self c.learn_last.ensures.still own.2 own.1.snapshots c.what_was_seen_stays.ensures.stays own.0 own.1 c.requires.source

  still_own : (o : Output) → HasOwnPasses (record learnt { output = o })
  still_own o = record { passes = source.own.passes; task = source.own.task; waited = source.own.waited }

  -- its next snapshot has the next number
  next : c.in-Some.k ≡ learnt.acks.base.number + suc learnt.acks.sent
  next =
      let own = c.learn_last.ensures.own in
      next_same c.in-Some.k c.args.self.now.acks c.learn_last.new.self own.1.base own.3 c.in-Some.ensures

  -- it is at its end where it was
  same_end : is_at_end learnt ≡ is_at_end c.args.self.now
  same_end =
      let own = c.learn_last.ensures.own in
      still_at_end c.args.self.now c.learn_last.new.stop c.learn_last.new.self c.learn_last.ensures.still own.2 own.1.snapshots

pub returns-in-Err-clause-own : goal.returns-in-Err-clause-own
returns-in-Err-clause-own g c = still_own g (goal.at.returns-in-Err-clause-own g c).After-learn_last c.learn_last.new.stop

pub returns-in-Err-clause-taken : goal.returns-in-Err-clause-taken
returns-in-Err-clause-taken g c = λ job size lines before.
    let l = (goal.at.returns-in-Err-clause-taken g c).After-learn_last in
    broken_still c.what_was_sent_was_begun.ensures.sent job size (learnt g l) lines (still g l job size lines before)

-- ---- at the barrier

-- it has seen the image of the checkpoint before
waited : (g : Over) (c : In-Ok g) (job : Job) (size : ℕ) (lines : List (List ℕ)) (was : HasEmitted job size (learnt g (goal.at.In-Ok g c).After-learn_last) lines)
    → HasWaited (base_of (start_of (learnt g (goal.at.In-Ok g c).After-learn_last))) (suc (length was.groups)) (seen c.learn_last.new.self.last_pass)
waited g c job size lines was =
    let l = (goal.at.In-Ok g c).After-learn_last in
    waited_next job size (learnt g l) lines (source g l) was c.in-Ok.ensures.waited

pub mark-requires-clause-is_open : goal.mark-requires-clause-is_open
mark-requires-clause-is_open g c = (source g (goal.at.mark-requires-clause-is_open g c).After-learn_last).emitted.sent.is_open

pub mark-requires-clause-next : goal.mark-requires-clause-next
mark-requires-clause-next g c =
    let l = (goal.at.mark-requires-clause-next g c).After-learn_last in
    let s = source g l in
    subst (IsNextBarrier c.learn_last.new.stop.writer) (next_barrier s.job s.size (learnt g l) s.lines s s.emitted) s.emitted.sent.next

pub returns-in-Err-mark-clause-own : goal.returns-in-Err-mark-clause-own
returns-in-Err-mark-clause-own g c = still_own g (goal.at.returns-in-Err-mark-clause-own g c).After-learn_last c.mark.new.self

pub returns-in-Err-mark-clause-taken : goal.returns-in-Err-mark-clause-taken
returns-in-Err-mark-clause-taken g c = λ job size lines before.
    let at = goal.at.returns-in-Err-mark-clause-taken g c in
    let out = learnt g at.After-learn_last in
    let was = still g at.After-learn_last job size lines before in
    broken_at_barrier job size out c.mark.new.self lines was (waited g at.In-Ok job size lines was) (c.in-Err-mark.ensures.marked (from_in job out).emitted job 0 out.index size was.groups was.rest was.sent)

-- ---- behind it

pub send-requires-clause-may : goal.send-requires-clause-may
send-requires-clause-may g c =
    let l = (goal.at.send-requires-clause-may g c).After-learn_last in
    let old = c.args.self.now in
    let x = c.snapshot-snapshot in
    let interval = subst (IsInterval old.every old.since) (sym x.ensures.ended) c.requires.interval in
    may_send (learnt g l) c.in-Some.k c.mark.new.self.emitted x.result (source g l) x.ensures.at (next g l) interval
    (λ is. x.ensures.ended ∙ c.requires.at_end (sym (same_end g l) ∙ is))

pub returns-in-Err-send-clause-own : goal.returns-in-Err-send-clause-own
returns-in-Err-send-clause-own g c =
    let was = (source g (goal.at.returns-in-Err-send-clause-own g c).After-learn_last).own in
    let own = c.send.ensures.own in
    record { passes = own.0; task = own.1.task ∙ was.task; waited = waited_kept c.learn_last.new.self c.send.new.self own.1.snapshots own.2 c.in-Err-send.ensures.kept.0 was.waited }

pub returns-in-Err-send-clause-taken : goal.returns-in-Err-send-clause-taken
returns-in-Err-send-clause-taken g c = λ job size lines before.
    let at = goal.at.returns-in-Err-send-clause-taken g c in
    let out = learnt g at.After-learn_last in
    let was = still g at.After-learn_last job size lines before in
    let marked = c.in-Ok-mark.ensures.marked (from_in job out).emitted job 0 out.index size was.groups was.rest was.sent in
    let sent = c.send.ensures.still.still (from_in job out).emitted job 0 out.index size (was.groups ++ was.rest ∷ []) [] marked in
    let had_waited = waited_same (base_of (start_of out)) (suc (length was.groups)) out.acks c.send.new.self c.send.ensures.own.2 (waited g at.In-Ok job size lines was) in
    broken_behind_barrier c.what_was_sent_was_begun.ensures.aside job size out c.send.new.stop c.send.new.self c.send.ensures.own.1.snapshots lines was had_waited sent c.in-Err-send.ensures.kept.0

-- ---- where it goes on

module _ (g : Over) (c : In-Ok-send g) where
  abbrev before : After-learn_last g
  before = (goal.at.In-Ok-send g c).After-learn_last

  abbrev out : SourceOutput
  out = learnt g before

  abbrev after : SourceOutput
  after = record out { output = c.send.new.stop; acks = c.send.new.self; since = 0 }

  emitted : (job : Job) (size : ℕ) (lines : List (List ℕ)) → HasEmitted job size out lines → HasEmitted job size after lines
  emitted job size lines was =
      let x = c.snapshot-snapshot in
      let interval = subst (IsInterval out.every out.since) (sym x.ensures.ended) c.requires.interval in
      let marked = c.in-Ok-mark.ensures.marked (from_in job out).emitted job 0 out.index size was.groups was.rest was.sent in
      let sent = c.send.ensures.still.still (from_in job out).emitted job 0 out.index size (was.groups ++ was.rest ∷ []) [] marked in
      taken c.emits_in_parts.ensures.count out c.send.new.stop c.send.new.self c.send.ensures.own.1.snapshots c.in-Some.k x.result c.mark.new.self.emitted (source g before) x.ensures.at (next g before) interval
      c.in-Ok-send.ensures.sent job size lines was sent marked.counted

  goes_on : IsSource after
  goes_on =
      let was = source g before in
      let own = c.send.ensures.own in
      let x = c.snapshot-snapshot.result in
      let sent = c.in-Ok-send.ensures.sent in
      record {
        job = was.job;
        size = was.size;
        lines = was.lines;
        emitted = emitted was.job was.size was.lines was.emitted;
        own = record {
          passes = own.0;
          task = own.1.task ∙ was.own.task;
          waited = waited_more out c.send.new.self x was own.0 own.1 own.2 sent c.in-Ok.ensures.waited;
        };
        every_is = every_more out c.send.new.self x was own.0 own.1 own.2 sent;
      }

pub returns-clause-taken : goal.returns-clause-taken
returns-clause-taken g c = λ job size lines was.
    let sent = (goal.at.returns-clause-taken g c).In-Ok-send in
    emitted g sent job size lines (still g (before g sent) job size lines was)

pub returns-clause-source : goal.returns-clause-source
returns-clause-source g c = goes_on g (goal.at.returns-clause-source g c).In-Ok-send

pub returns-clause-own : goal.returns-clause-own
returns-clause-own g c = (goes_on g (goal.at.returns-clause-own g c).In-Ok-send).own

pub returns-clause-last : goal.returns-clause-last
returns-clause-last g c =
    let l = (goal.at.returns-clause-last g c).After-learn_last in
    let own = c.send.ensures.own in
    last_more (learnt g l) c.send.new.self c.snapshot-snapshot.result (source g l) own.0 own.1 own.2 c.in-Ok-send.ensures.sent c.in-Ok.last c.in-Ok.ensures.last

-- ---- whether it is at its end

pub returns-in-Err-clause-kept : goal.returns-in-Err-clause-kept
returns-in-Err-clause-kept g c = same_end g (goal.at.returns-in-Err-clause-kept g c).After-learn_last

pub returns-in-Err-mark-clause-kept : goal.returns-in-Err-mark-clause-kept
returns-in-Err-mark-clause-kept g c = same_end g (goal.at.returns-in-Err-mark-clause-kept g c).After-learn_last

pub returns-in-Err-send-clause-kept : goal.returns-in-Err-send-clause-kept
returns-in-Err-send-clause-kept g c =
    let l = (goal.at.returns-in-Err-send-clause-kept g c).After-learn_last in
    at_end_same (learnt g l) (record (learnt g l) { output = c.send.new.stop; acks = c.send.new.self }) c.send.ensures.own.1.snapshots refl c.in-Err-send.ensures.kept.0 ∙ same_end g l

pub returns-clause-ended : goal.returns-clause-ended
returns-clause-ended g c =
    let sent = (goal.at.returns-clause-ended g c).In-Ok-send in
    let x = c.snapshot-snapshot in
    let now = ended_then (out g sent) (after g sent) x.result c.args.ended c.send.ensures.own.1.snapshots refl c.in-Ok-send.ensures.sent x.ensures.ended in
    (now.0, λ no. now.1 no ∙ same_end g (before g sent))
