-- How the task of a stage begins and ends.
use Rattle.std.proofs.Common.{◌≡◌, ◌≢◌, Bor, ℕ, zero, suc, ◌+◌, ◌⊎◌, false, List, [], ◌∷◌, ◌++◌, length, Option, refl, sym, ap, subst, ◌∙◌, inl, inr, arith}
use Rattle.std.specs.Prelude.{slice_index}
use Rattle.turn_cell.specs.History.{StartsWith}
use Rattle.turn_cell.specs.Passes.{IsPassOf, IsSamePass, seen}
use Rattle.flow_defs.specs.declared.cause.Cause.{Cause}
use Rattle.flow_defs.specs.declared.cause.Cause.TheVariants as causes
use Rattle.flow_defs.specs.declared.image.Snapshot.{Snapshot}
use Rattle.flow_defs.specs.declared.image.TakeRun.{TakeRun}
use Rattle.flow_defs.specs.declared.job.Job.{Job}
use Rattle.plain_machine.specs.Emitting.{receiver_on}
use Rattle.plain_machine.specs.Places.{sender_place}
use Rattle.checkpoint_laws.specs.Chapters.{RunsTake}
use Rattle.job_start.specs.declared.start.Start.{Start}
use Rattle.job_start.specs.Starts.{from_of}
use Rattle.outside.specs.declared.last_image.Stored.{Stored}
use Rattle.outside.specs.Stops.{told_of}
use Rattle.conn_parts.specs.Shares.{mine_at, AreNew}
use Rattle.conn_parts.specs.Stopping.{StopCell, StopPass}
use Rattle.record_writer.specs.Partitions.{ArePassesOf, IsWriterOf}
use Rattle.record_writer.specs.Writers.{SendPass, Writer, IsSame, IsNew, IsOpen, AreOwnAt, ways_on}
use Rattle.record_writer.specs.declared.partition.Partition.{Partition}
use Rattle.record_writer.specs.declared.partition.PartitionPasses.{PartitionPasses}
use Rattle.channel_cut.specs.Cuts.{Cut}
use Rattle.channel_cut.proofs.Taking.{taken_begins}
use Rattle.channel_cut.specs.Takings.{TakenOn}
use Rattle.gate_account.specs.Accounts as gates
use Rattle.gate_account.specs.Accounts.{Account}
use Rattle.snapshot_channel.specs.declared.opened.TaskPass.{TaskPass}
use Rattle.snapshot_channel.specs.Passes.{sent_by}
use Rattle.task_taking.specs.Endings.{EachTold, IsTakerEnd}
use Rattle.task_taking.specs.Takings.{Taking, HasTaken, start_of, untaken}
use Rattle.task_output.specs.declared.acks.Acks.{Acks}
use Rattle.task_output.specs.Acking.{HasPasses, base_of}
use Rattle.task_output.specs.Ending.{ArePassesBy, EndsAs, ToldAtEnd}
use Rattle.task_output.specs.Waiting.{MayEnd, HasWaited}
use Rattle.task_output.specs.Outputs.{WritesFor, HasSent, BegunOn, end_of}
use Rattle.stage_task.specs.declared.checkpoints.StageOutput.{StageOutput}
use Rattle.stage_task.specs.declared.checkpoints.TakerEnd.{TakerEnd}
use Rattle.stage_task.specs.Snapshots.{AreSnapshots}
use Rattle.stage_task.specs.Stages.{StageAccount}
use Rattle.task_taking.specs.Endings.{ToldStop}
use Rattle.stage_task.specs.Applying.{start_at, base_at, from_at, IsSameStage, IsStageUnderWay, IsEndOf}
use Rattle.stage_task.proofs.Ends.{memory_not_done, stopped_not_done}

-- ---- where it begins

-- the task has emitted before what the start tells
pub counted_from : (job : Job) (start start' : Start) (e b n : ℕ) → n ≡ slice_index start.emitted.items (sender_place job (e + 1) b) → start' ≡ start → n ≡ (from_of job start' (suc e) b).emitted
counted_from job start start' e b n is same =
    is ∙ ap (λ i. slice_index start.emitted.items (sender_place job i b)) (let z : e + 1 ≡ suc e = omega arith in z)
    ∙ ap (λ (s : Start). slice_index s.emitted.items (sender_place job (suc e) b)) (sym same)

pub under_way : (gate : Account) (shows : ℕ → Cut → Type 0) (taking : Taking) (partition : Partition) (w : Writer) (out : StageOutput) → HasTaken out.job.now out.edge out.index gate shows taking [] []
    → IsWriterOf out.job.now (out.edge + 1) out.index partition w → IsNew w × IsOpen w → w.emitted ≡ (from_at out).emitted
    → ((job : Job) (e a size : ℕ) → WritesFor job e a size w → IsNew w → IsOpen w → HasSent w.emitted job e a size out.output [] []) → sent_by out.acks.pass ≡ [] → IsStageUnderWay gate shows taking out
under_way gate shows taking partition w out none writes fresh counted none_sent unsent =
    let sent = subst (λ n. HasSent n out.job.now (suc out.edge) out.index w.size out.output [] []) counted
    (none_sent out.job.now (suc out.edge) out.index w.size (record { job_is = writes.job_is; edge = writes.edge ∙ (let z : out.edge + 1 ≡ suc out.edge = omega arith in z); index = writes.index; size_is = refl }) fresh.0 fresh.1) in
    record {
      groups = [];
      took = [];
      applied_them = record {
        taken = none;
        sent = subst (λ n. HasSent (from_at out).emitted out.job.now (suc out.edge) out.index n out.output [] []) (sym sent.writes_for.size_is) sent;
        snapshots = subst (AreSnapshots out.job.now out.edge out.index (from_at out).number (from_at out).emitted []) (sym unsent) tt;
      };
      not_last = refl;
    }

-- a task that has taken nothing has noted nothing
pub none_noted : (t : Taking) (job : Job) (e b : ℕ) (runs : List TakeRun) → t ≡ untaken job e b → runs ≡ t.runs → runs ≡ []
none_noted t job e b runs is same = same ∙ ap (λ (x : Taking). x.runs) is

none_at : (passes : List SendPass) (c : ℕ) → AreNew passes → mine_at c passes ≡ []
none_at [] c new = refl
none_at (p ∷ passes) zero new = new 0 p (omega arith)
none_at (p ∷ passes) (suc c) new = none_at passes c (λ k d within. new (suc k) d (omega (arith, within)))

abbrev no_groups : List (List (ℕ × List ℕ))
no_groups = []

abbrev none_took : List (ℕ × List ℕ)
none_took = []

-- it found no memory for what it takes and emits by
pub unbegun : (job : Job) (e b size : ℕ) (start : Start) (every : Option ℕ) (gate : Account) (shows : ℕ → Cut → Type 0) (passes : List SendPass) (sent : List Snapshot) (history : List (ℕ × Stored)) (takes : List TakeRun) → gates.IsNew (λ c. []) gate → AreNew passes → sent ≡ [] → takes ≡ []
    → StageAccount job e b size start every gate shows passes sent history takes causes.Memory
unbegun job e b size start every gate shows passes sent history takes new none_put none_sent none_taken = record {
  groups = [];
  rest = [];
  more = [];
  given = λ c inside. (false, subst (λ ls. TakenOn (shows c) ls (start_of job e b c) [] [] false) (sym (new.lines c)) (taken_begins (shows c) (start_of job e b c)));
  snapshots = subst (AreSnapshots job e b (from_of job start (suc e) b).number (from_of job start (suc e) b).emitted []) (sym none_sent) tt;
  takes_are = subst (λ (l : List TakeRun). RunsTake job e b l []) (sym none_taken) (record { senders_are = refl; are_runs = tt; short = tt });
  front = ([], refl);
  put = λ c inside. subst (BegunOn (receiver_on job (suc e) b) (from_of job start (suc e) b).emitted [] (end_of job (suc e) b c) size [] (EachTold gate (suc (length no_groups))) (MayEnd (base_of start) every history no_groups none_took)) (sym (none_at passes c none_put)) (record {
    more = [] ∷ [];
    cut = refl;
    few = inl (omega arith);
    ended = λ over. absurd (cc);
    some = record { owed = []; begins = refl; buffers = tt };
  });
  done = λ is. absurd (memory_not_done is);
  cause_is = tt;
}

-- ---- where it ends

-- it was stopped where it was done
pub account_ended : (job : Job) (e b size : ℕ) (start : Start) (every : Option ℕ) (gate : Account) (shows : ℕ → Cut → Type 0) (passes : List SendPass) (sent : List Snapshot) (history : List (ℕ × Stored)) (takes : List TakeRun) (cause cause' : Cause) → EndsAs cause cause'
    → StageAccount job e b size start every gate shows passes sent history takes cause → StageAccount job e b size start every gate shows passes sent history takes cause'
account_ended job e b size start every gate shows passes sent history takes cause cause' ends was = record {
  groups = was.groups;
  rest = was.rest;
  more = was.more;
  given = was.given;
  snapshots = was.snapshots;
  takes_are = was.takes_are;
  front = was.front;
  put = was.put;
  done = λ is. elim ends [ inl same ↦ was.done (sym same ∙ is) | inr stopped ↦ absurd (stopped_not_done (sym stopped.1 ∙ is)) ];
  cause_is = elim ends [ inl same ↦ subst (IsTakerEnd (base_of start) every history gate was.groups was.rest) (sym same) was.cause_is | inr stopped ↦ subst (IsTakerEnd (base_of start) every history gate was.groups was.rest) (sym stopped.1) tt ];
}

-- the account of what is the same is the same
pub account_of_same : (out out' : StageOutput) (size : ℕ) (start : Start) (gate : Account) (shows : ℕ → Cut → Type 0) (passes : List SendPass) (sent : List Snapshot) (history : List (ℕ × Stored)) (takes : List TakeRun) (end : TakerEnd) → IsSameStage out out' → out'.output.writer.size ≡ size → start_at out' ≡ start
    → passes ≡ out'.output.writer.passes → sent ≡ sent_by out'.acks.pass → history ≡ seen out'.acks.last_pass → takes ≡ end.takes.items → IsEndOf gate shows out' end → StageAccount out.job.now out.edge out.index size start out.every gate shows passes sent history takes end.cause
account_of_same out out' size start gate shows passes sent history takes end same size_is start_is passes_are sent_is history_is takes_are was =
    subst (λ (j : Bor Job). StageAccount j.now out.edge out.index size start out.every gate shows passes sent history takes end.cause) same.job
    (subst (λ n. StageAccount out'.job.now n out.index size start out.every gate shows passes sent history takes end.cause) same.edge
    (subst (λ n. StageAccount out'.job.now out'.edge n size start out.every gate shows passes sent history takes end.cause) same.index
    (subst (λ n. StageAccount out'.job.now out'.edge out'.index n start out.every gate shows passes sent history takes end.cause) size_is
    (subst (λ (s : Start). StageAccount out'.job.now out'.edge out'.index out'.output.writer.size s out.every gate shows passes sent history takes end.cause) start_is
    (subst (λ (x : Option ℕ). StageAccount out'.job.now out'.edge out'.index out'.output.writer.size (start_at out') x gate shows passes sent history takes end.cause) same.every_is
    (subst (λ (l : List SendPass). StageAccount out'.job.now out'.edge out'.index out'.output.writer.size (start_at out') out'.every gate shows l sent history takes end.cause) (sym passes_are)
    (subst (λ (l : List Snapshot). StageAccount out'.job.now out'.edge out'.index out'.output.writer.size (start_at out') out'.every gate shows out'.output.writer.passes l history takes end.cause) (sym sent_is)
    (subst (λ (l : List (ℕ × Stored)). StageAccount out'.job.now out'.edge out'.index out'.output.writer.size (start_at out') out'.every gate shows out'.output.writer.passes (sent_by out'.acks.pass) l takes end.cause) (sym history_is)
    (subst (λ (l : List TakeRun). StageAccount out'.job.now out'.edge out'.index out'.output.writer.size (start_at out') out'.every gate shows out'.output.writer.passes (sent_by out'.acks.pass) (seen out'.acks.last_pass) l end.cause) (sym takes_are) was)))))))))

-- it has waited by the names of what it hands back
pub waited_as : (out : StageOutput) (start : Start) (sent : List Snapshot) (history : List (ℕ × Stored)) → start_at out ≡ start → sent ≡ sent_by out.acks.pass → history ≡ seen out.acks.last_pass
    → HasWaited (base_at out) (length (sent_by out.acks.pass)) (seen out.acks.last_pass) → HasWaited (base_of start) (length sent) history
waited_as out start sent history start_is sent_is history_is waited =
    subst (λ (s : Start). HasWaited (base_of s) (length sent) history) start_is
    (subst (λ (l : List Snapshot). HasWaited (base_at out) (length l) history) (sym sent_is)
    (subst (λ (h : List (ℕ × Stored)). HasWaited (base_at out) (length (sent_by out.acks.pass)) h) (sym history_is) waited))

-- it tells how many snapshots it sent
pub acks_are : (acks : Acks) (pass : TaskPass) (n : ℕ) → HasPasses acks → n ≡ acks.sent → pass ≡ acks.pass → n ≡ length (sent_by pass)
acks_are acks pass n has is same = is ∙ has.sent_is ∙ ap (λ (p : TaskPass). length (sent_by p)) (sym same)

-- what a writer gives back are passes of its partition
pub written_back : (job : Job) (e a : ℕ) (partition : Partition) (w v : Writer) (passes : PartitionPasses) → IsWriterOf job e a partition w → IsSame w v → ArePassesBy v passes → ArePassesOf job e partition passes
written_back job e a partition w v passes writes same by = record {
  own = subst (λ n. AreOwnAt partition.subpartitions.now partition.first partition.stride n passes.subpartitions.items) (ap (λ (j : Job). ways_on j v.edge) (same.job ∙ writes.job_is) ∙ ap (ways_on job) (same.edge ∙ writes.edge))
      (subst (λ k. AreOwnAt partition.subpartitions.now partition.first k (ways_on v.job v.edge) passes.subpartitions.items) (same.stride ∙ writes.stride)
      (subst (λ k. AreOwnAt partition.subpartitions.now k v.stride (ways_on v.job v.edge) passes.subpartitions.items) (same.first ∙ writes.first)
      (subst (λ cells. AreOwnAt cells v.first v.stride (ways_on v.job v.edge) passes.subpartitions.items) (same.cells ∙ writes.cells) by.own)));
  pool = subst (λ cell. IsPassOf cell passes.pool) (same.pool ∙ writes.pool) by.pool;
}

-- a list that goes on from one with an entry has one
goes_on : {A : Type 0} (xs ys : List A) → StartsWith xs ys → ys ≢ [] → xs ≢ []
goes_on xs [] starts some = λ is. some refl
goes_on xs (y ∷ ys) starts some = λ is. (let there = starts.1 in cc)

-- what it told of its cause
pub told_by_stage : (cell : StopCell) (saw : Type 0) (cause cause' : Cause) (before mid after : StopPass) → IsSamePass before mid → (cause ≡ causes.Stopped → saw ⊎ (seen mid ≢ [])) → ToldAtEnd cell cause cause' mid after → ToldStop cell saw cause' before after
told_by_stage cell saw cause cause' before mid after same says told = record {
  pass = told.pass;
  number_is = told.number_is ∙ same.0;
  told = told.told ∙ ap (λ l. l ++ told_of cause') same.1;
  stopped = λ is. elim (told.stopped is) [
    | inl was ↦ elim (says was) [ inl saw_it ↦ inl saw_it | inr some ↦ inr (goes_on (seen after) (seen mid) told.later some) ]
    | inr some ↦ inr some
  ];
  done = told.done;
}
