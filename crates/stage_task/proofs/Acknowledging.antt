-- A stage acknowledges a checkpoint.
use Rattle.std.proofs.Common.{◌≡◌, ◌≢◌, Bor, ℕ, suc, ◌+◌, Bool, true, false, List, [], ◌∷◌, ◌++◌, length, Option, sym, ap, subst, ◌∙◌, length-append, arith}
use Rattle.std.specs.Prelude.{⊤, All}
use Rattle.std.specs.FinMap.{empty}
use Rattle.std.proofs.lemmas.List.Elements.{All-nil}
use Rattle.turn_cell.specs.Passes.{seen}
use Rattle.flow_defs.specs.declared.cause.Cause.{Cause}
use Rattle.flow_defs.specs.declared.cause.Cause.TheVariants as causes
use Rattle.flow_defs.specs.declared.image.Saved.{Saved}
use Rattle.flow_defs.specs.declared.image.Snapshot.{Snapshot}
use Rattle.flow_defs.specs.declared.image.TakeRun.{TakeRun}
use Rattle.flow_defs.specs.declared.job.Job.{Job}
use Rattle.flow_defs.specs.declared.task.TaskId.{TaskId}
use Rattle.flow_defs.specs.Records.{IsShort}
use Rattle.flow_defs.specs.Tables.{Values}
use Rattle.plain_machine.specs.Images.{AreRuns, HasShortKeys}
use Rattle.plain_machine.specs.Theorems.{CountedInParts}
use Rattle.plain_machine.proofs.KeySums.{entries-empty}
use Rattle.checkpoint_laws.specs.Chapters.{RunsTake, applied}
use Rattle.job_start.specs.declared.start.Start.{Start}
use Rattle.job_start.specs.Starts.{from_of}
use Rattle.barriers.specs.Alignments.{is_open}
use Rattle.outside.specs.declared.last_image.Stored.{Stored}
use Rattle.channel_cut.specs.Cuts.{Cut}
use Rattle.gate_account.specs.Accounts.{Account}
use Rattle.snapshot_channel.specs.declared.opened.SnapshotChannel.{SnapshotChannel}
use Rattle.snapshot_channel.specs.Snapshots.{AreTakesAt, FitsTask, LeadsTo, ComesFrom, HaveOwnChannels, MaySend}
use Rattle.snapshot_channel.specs.Passes.{opening_of, sent_by, task_of}
use Rattle.task_taking.specs.Takings.{Taking, HasTaken, IsAtBarrier}
use Rattle.task_taking.specs.Endings.{EachTold, IsTakerEnd}
use Rattle.task_taking.proofs.Giving.{resumed_is_given, resumed_is_told}
use Rattle.task_output.specs.declared.acks.Acks.{Acks}
use Rattle.task_output.specs.Acking.{HasPasses, IsSameTask, base_of}
use Rattle.task_output.specs.Looking.{HasSentNoMore}
use Rattle.task_output.specs.Outputs.{Output, HasSent, count_behind}
use Rattle.task_output.specs.Laws.{BarrierIsLeftAside}
use Rattle.task_output.proofs.Begun.{begun_where}
use Rattle.task_output.specs.Waiting.{LastIs, MayEnd, KnowsLast, HasWaited, WaitedStays}
use Rattle.stage_task.specs.declared.checkpoints.StageOutput.{StageOutput}
use Rattle.stage_task.specs.Snapshots.{IsSnapshotOf, IsSnapshotAt, AreSnapshots, all_applied}
use Rattle.stage_task.specs.Stages.{StageAccount}
use Rattle.stage_task.specs.Applying.{start_at, base_at, from_at, HasOwnPasses, HasApplied, IsMarked, HasAcknowledged}
use Rattle.stage_task.proofs.Snapshots.{as_many, applied_more, snapshots_more}
use Rattle.stage_task.proofs.SameStage.{same_start}
use Rattle.stage_task.proofs.Ends.{ended_account, all_front_of}

-- ---- a snapshot fits its task

no_keys : (table : Values) → table ≡ empty → HasShortKeys table
no_keys table is = subst HasShortKeys (sym is) (subst (All (λ (row : List ℕ × ℕ). IsShort row.0)) (sym entries-empty) (All-nil (λ (row : List ℕ × ℕ). IsShort row.0)))

none : {X : Type 0} (P : X → Type 0) (xs : List X) → xs ≡ [] → All P xs
none P xs is = subst (All P) (sym is) (All-nil P)

none_twice : (pieces : List Saved) → pieces ≡ [] → HaveOwnChannels pieces
none_twice pieces is = subst HaveOwnChannels (sym is) (λ i j d low high same. absurd (omega (arith, high)))

fits : (job : Job) (e b k emitted : ℕ) (x : Snapshot) → IsSnapshotOf e b k emitted x → AreRuns job e b x.takes.items → FitsTask job x
fits job e b k emitted x of runs = record {
  keys = no_keys x.table of.no_table;
  runs = subst (λ (t : TaskId). AreTakesAt job t.stage t.index x.takes.items) (sym of.task) runs;
  came_in = none (λ (p : Saved). LeadsTo job x.task p.channel) x.saved_in.items of.none_in;
  came_in_once = none_twice x.saved_in.items of.none_in;
  goes_out = none (λ (p : Saved). ComesFrom job x.task p.channel) x.saved_out.items of.none_out;
  goes_out_once = none_twice x.saved_out.items of.none_out;
}

-- ---- its channels go on, and the snapshot is still to be sent

pub record IsResumed (job : Job) (e b size : ℕ) (start : Start) (gate : Account) (shows : ℕ → Cut → Type 0) (taking : Taking) (out : Output) (sent : List Snapshot) (takes : List TakeRun) : Type 0 where
  pub groups : List (List (ℕ × List ℕ))
  pub took : List (ℕ × List ℕ)
  pub taken : HasTaken job e b gate shows taking (groups ++ took ∷ []) []
  pub closed : is_open taking.alignment ≡ false
  pub takes_are : RunsTake job e b takes took
  pub was : HasSent (from_of job start (suc e) b).emitted job (suc e) b size out (all_applied job e groups ++ applied job e took ∷ []) []
  pub snapshots : AreSnapshots job e b (from_of job start (suc e) b).number (from_of job start (suc e) b).emitted groups sent

-- whatever its end, where it has put nothing since and has the same start
pub resumed_at : (before after : Account) (showed shows : ℕ → Cut → Type 0) (t t' : Taking) (out : StageOutput) (start : Start) (o : Output) (sent : List Snapshot) (takes takes' : List TakeRun) (marked : IsMarked before showed t out) → start ≡ start_at out → HasSentNoMore out.output o
    → sent ≡ sent_by out.acks.pass → takes' ≡ takes → is_open t'.alignment ≡ false
    → ((job : Job) (e b : ℕ) (groups : List (List (ℕ × List ℕ))) (took : List (ℕ × List ℕ)) → IsAtBarrier job e b before showed t groups took → RunsTake job e b takes took × HasTaken job e b after shows t' (groups ++ took ∷ []) [])
    → IsResumed out.job.now out.edge out.index o.writer.size start after shows t' o sent takes'
resumed_at before after showed shows t t' out start o sent takes takes' marked from no_more kept back closed resume =
    let job = out.job.now in
    let taken = resume job out.edge out.index marked.groups marked.took marked.at in
    let all = all_applied job out.edge marked.groups ++ applied job out.edge marked.took ∷ [] in
    let was = no_more.still (from_at out).emitted job (suc out.edge) out.index out.output.writer.size all [] marked.sent in
    record {
      groups = marked.groups;
      took = marked.took;
      taken = taken.1;
      closed = closed;
      takes_are = subst (λ l. RunsTake job out.edge out.index l marked.took) (sym back) taken.0;
      was = subst (λ (s : Start). HasSent (from_of job s (suc out.edge) out.index).emitted job (suc out.edge) out.index o.writer.size o all []) (sym from)
          (subst (λ s. HasSent (from_at out).emitted job (suc out.edge) out.index s o all []) (sym was.writes_for.size_is) was);
      snapshots = subst (λ (s : Start). AreSnapshots job out.edge out.index (from_of job s (suc out.edge) out.index).number (from_of job s (suc out.edge) out.index).emitted marked.groups sent) (sym from)
          (subst (AreSnapshots job out.edge out.index (from_at out).number (from_at out).emitted marked.groups) (sym kept) marked.snapshots);
    }

-- ---- the snapshot may be sent

-- it has the same number to tell where it has sent no more
pub number_there : (acks acks' : Acks) (k : ℕ) → acks'.base ≡ acks.base → acks'.sent ≡ acks.sent → k ≡ acks.base.number + suc acks.sent → k ≡ acks'.base.number + suc acks'.sent
number_there acks acks' k base sent is = is ∙ ap (λ (s : Stored). s.number + suc acks.sent) (sym base) ∙ ap (λ n. acks'.base.number + suc n) (sym sent)

pub may_send : (out : StageOutput) (k emitted : ℕ) (x : Snapshot) (takes : List TakeRun) (size : ℕ) (start : Start) (gate : Account) (shows : ℕ → Cut → Type 0) (taking : Taking) → HasOwnPasses out → IsSnapshotOf out.edge out.index k emitted x → x.takes.items ≡ takes
    → k ≡ out.acks.base.number + suc out.acks.sent → IsResumed out.job.now out.edge out.index size start gate shows taking out.output (sent_by out.acks.pass) takes
    → MaySend (opening_of out.acks.snapshots.now) (task_of out.acks.pass) (sent_by out.acks.pass) x
may_send out k emitted x takes size start gate shows taking own of takes_is number at =
    let base : out.acks.base.number ≡ (start_at out).number = ap (λ (s : Stored). s.number) own.passes.base_is in
    let many = own.passes.sent_is in
    record {
      task_is = of.task ∙ sym own.task;
      number_is = of.number ∙ number ∙ omega (arith, base, many);
      fits = subst (λ (job : Job). FitsTask job x) (sym own.job_is) (fits out.job.now out.edge out.index k emitted x of (subst (AreRuns out.job.now out.edge out.index) (sym takes_is) at.takes_are.are_runs));
      at_end = λ first. absurd (let stage : suc out.edge ≡ 0 = ap (λ (t : TaskId). t.stage) (sym own.task) ∙ first in omega (arith, stage));
    }

-- its passes are those of its task, where it has seen more and sent no more
pub own_later : WaitedStays → (out : StageOutput) (o : Output) (acks : Acks) → HasPasses acks → IsSameTask out.acks acks → sent_by acks.pass ≡ sent_by out.acks.pass → HasOwnPasses out → HasOwnPasses (record out { output = o; acks = acks })
own_later stays out o acks has same kept own = record {
  edge = own.edge;
  passes = has;
  task = same.task ∙ own.task;
  job_is = ap (λ (s : Bor SnapshotChannel). (opening_of s.now).job) same.snapshots ∙ own.job_is;
  waited = subst (λ (s : Start). HasWaited (base_of s) (length (sent_by acks.pass)) (seen acks.last_pass)) (sym (same_start out.acks acks same))
      (subst (λ (sent : List Snapshot). HasWaited (base_at out) (length sent) (seen acks.last_pass)) (sym kept) (stays (base_at out) (length (sent_by out.acks.pass)) (seen out.acks.last_pass) (seen acks.last_pass) same.later own.waited));
}

-- ---- it ended before its snapshot was sent

pub unacknowledged : BarrierIsLeftAside → (job : Job) (e b size : ℕ) (start : Start) (every : Option ℕ) (gate : Account) (shows : ℕ → Cut → Type 0) (taking : Taking) (out : Output) (sent : List Snapshot) (history : List (ℕ × Stored)) (takes : List TakeRun) (cause : Cause)
    → IsResumed job e b size start gate shows taking out sent takes → cause ≢ causes.Done → ((groups : List (List (ℕ × List ℕ))) (rest : List (ℕ × List ℕ)) → IsTakerEnd (base_of start) every history gate groups rest cause)
    → StageAccount job e b size start every gate shows out.writer.passes sent history takes cause
unacknowledged aside job e b size start every gate shows taking out sent history takes cause at other ends =
    let from = (from_of job start (suc e) b).emitted in
    let made = applied job e at.took in
    ended_account job e b size start every gate shows out sent history takes cause at.groups at.took made []
    (resumed_is_given job e b gate shows taking at.groups at.took at.taken)
    at.snapshots at.takes_are
    (begun_where ⊤ (EachTold gate (suc (length at.groups))) ⊥ (MayEnd (base_of start) every history at.groups at.took) (λ mark. resumed_is_told job e b gate shows taking at.groups at.took at.taken at.closed) (λ never. absurd never) from job (suc e) b size out (all_applied job e at.groups) made [] (aside from job (suc e) b size out (all_applied job e at.groups) made at.was))
    (all_front_of made)
    other (ends at.groups at.took)

-- ---- it has acknowledged it

known_last : (base base' : Stored) (every : Option ℕ) (history history' : List (ℕ × Stored)) (n m : ℕ) (last : Bool) → base' ≡ base → history' ≡ history → m ≡ suc n → KnowsLast base every history n last → LastIs base' every history' m last
known_last base base' every history history' n m last same later many known =
    subst (λ i. LastIs base' every history' i last) (sym many)
    (subst (λ (s : Stored). KnowsLast s every history' n last) (sym same) (subst (λ (h : List (ℕ × Stored)). KnowsLast base every h n last) (sym later) known))

goes_on : (gate : Account) (shows : ℕ → Cut → Type 0) (taking : Taking) (out : StageOutput) (groups : List (List (ℕ × List ℕ))) (last : Bool) → HasApplied gate shows taking out groups [] → LastIs (base_at out) out.every (seen out.acks.last_pass) (length groups) last → HasAcknowledged gate shows taking out last
goes_on gate shows taking out groups true has is = record { groups = groups; applied_them = has; last = is }
goes_on gate shows taking out groups false has is = record { groups = groups; took = []; applied_them = has; not_last = is }

pub acknowledged : CountedInParts → (gate : Account) (shows : ℕ → Cut → Type 0) (taking : Taking) (out : StageOutput) (before : Output) (acks : Acks) (k size : ℕ) (takes : List TakeRun) (x : Snapshot) (last : Bool)
    (at : IsResumed out.job.now out.edge out.index size (start_at out) gate shows taking before (sent_by acks.pass) takes)
    → HasPasses acks → HasPasses out.acks → IsSameTask acks out.acks → out.acks.last_pass ≡ acks.last_pass → k ≡ acks.base.number + suc acks.sent
    → HasSentNoMore before out.output → IsSnapshotOf out.edge out.index k before.emitted x → x.takes.items ≡ takes → sent_by out.acks.pass ≡ sent_by acks.pass ++ x ∷ [] → KnowsLast acks.base out.every (seen acks.last_pass) acks.sent last
    → HasAcknowledged gate shows taking out last
acknowledged count gate shows taking out before acks k size takes x last at had has same last_is number no_more of takes_is sent_is known =
    let job = out.job.now in
    let e = out.edge in
    let b = out.index in
    let groups = at.groups in
    let took = at.took in
    let from = from_at out in
    let all = all_applied job e groups ++ applied job e took ∷ [] in
    let was = no_more.still from.emitted job (suc e) b size all [] at.was in
    let base : base_at out ≡ acks.base = sym has.base_is ∙ same.base in
    let first : (start_at out).number ≡ acks.base.number = ap (λ (s : Stored). s.number) base in
    let sent : acks.sent ≡ length groups = had.sent_is ∙ as_many job e b from.number from.emitted groups (sent_by acks.pass) at.snapshots in
    let many : length (groups ++ took ∷ []) ≡ suc acks.sent = length-append groups (took ∷ []) ∙ (let z : length groups + 1 ≡ suc acks.sent = omega (arith, sent) in z) in
    let is : IsSnapshotAt job e b (suc (from.number + length groups)) (count_behind from.emitted all) took x = record {
      is = record {
        task = of.task;
        number = of.number ∙ number ∙ (let z : acks.base.number + suc acks.sent ≡ suc ((start_at out).number + length groups) = omega (arith, first, sent) in z);
        emitted_is = of.emitted_is ∙ at.was.counted;
        no_table = of.no_table;
        no_offset = of.no_offset;
        not_ended = of.not_ended;
        none_in = of.none_in;
        none_out = of.none_out;
      };
      takes = subst (λ l. RunsTake job e b l took) (sym takes_is) at.takes_are;
    } in
    let grown = snapshots_more count job e b took x from.number from.emitted groups (sent_by acks.pass) at.snapshots is in
    goes_on gate shows taking out (groups ++ took ∷ []) last
    (record {
      taken = at.taken;
      sent = subst (λ l. HasSent from.emitted job (suc e) b out.output.writer.size out.output l []) (sym (applied_more job e groups took))
          (subst (λ s. HasSent from.emitted job (suc e) b s out.output all []) (sym was.writes_for.size_is) was);
      snapshots = subst (AreSnapshots job e b from.number from.emitted (groups ++ took ∷ [])) (sym sent_is) grown;
    })
    (known_last acks.base (base_at out) out.every (seen acks.last_pass) (seen out.acks.last_pass) acks.sent (length (groups ++ took ∷ [])) last base (ap seen last_is) many known)

-- it has seen the image of the checkpoint before, and sent one snapshot more
pub own_acknowledged : (mid : StageOutput) (o : Output) (acks : Acks) (x : Snapshot) → HasOwnPasses mid → HasWaited mid.acks.base (suc mid.acks.sent) (seen mid.acks.last_pass) → HasPasses acks → IsSameTask mid.acks acks → acks.last_pass ≡ mid.acks.last_pass
    → sent_by acks.pass ≡ sent_by mid.acks.pass ++ x ∷ [] → HasOwnPasses (record mid { output = o; acks = acks })
own_acknowledged mid o acks x own waited has same last_is sent_is =
    let base : base_of (opening_of acks.snapshots.now).start ≡ mid.acks.base = sym has.base_is ∙ same.base in
    let sent = own.passes.sent_is in
    let many : length (sent_by acks.pass) ≡ suc mid.acks.sent = ap (λ (l : List Snapshot). length l) sent_is ∙ length-append (sent_by mid.acks.pass) (x ∷ []) ∙ (let z : length (sent_by mid.acks.pass) + 1 ≡ suc mid.acks.sent = omega (arith, sent) in z) in
    record {
      edge = own.edge;
      passes = has;
      task = same.task ∙ own.task;
      job_is = ap (λ (s : Bor SnapshotChannel). (opening_of s.now).job) same.snapshots ∙ own.job_is;
      waited = subst (λ (s : Stored). HasWaited s (length (sent_by acks.pass)) (seen acks.last_pass)) (sym base)
          (subst (λ n. HasWaited mid.acks.base n (seen acks.last_pass)) (sym many) (subst (λ (history : List (ℕ × Stored)). HasWaited mid.acks.base (suc mid.acks.sent) history) (sym (ap seen last_is)) waited));
    }
