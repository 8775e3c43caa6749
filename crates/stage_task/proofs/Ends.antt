-- Where a stage takes no more.
use Rattle.std.proofs.Common.{◌≡◌, ◌≢◌, ◌⊎◌, ℕ, suc, false, List, [], ◌∷◌, ◌++◌, length, Option, refl, sym, ap, subst, ◌∙◌, inl, inr, append-nil, append_assoc}
use Rattle.std.specs.Prelude.{⊤}
use Rattle.std.proofs.lemmas.List.{length-map}
use Rattle.turn_cell.specs.History.{StartsWith}
use Rattle.turn_cell.specs.Passes.{seen}
use Rattle.flow_defs.specs.declared.cause.Cause.{Cause}
use Rattle.flow_defs.specs.declared.cause.Cause.TheVariants as causes
use Rattle.flow_defs.specs.declared.cause.PeerFault.TheVariants as peers
use Rattle.flow_defs.specs.declared.image.Snapshot.{Snapshot}
use Rattle.flow_defs.specs.declared.image.TakeRun.{TakeRun}
use Rattle.flow_defs.specs.declared.job.Job.{Job}
use Rattle.plain_machine.specs.Emitting.{apply_behind}
use Rattle.checkpoint_laws.specs.Chapters.{RunsTake, applied}
use Rattle.job_start.specs.declared.start.Start.{Start}
use Rattle.job_start.specs.Starts.{from_of}
use Rattle.outside.specs.declared.last_image.Stored.{Stored}
use Rattle.record_writer.specs.Writers.{SendPass, IsNextBarrier, HasSeenFault}
use Rattle.channel_cut.specs.Cuts.{Cut}
use Rattle.gate_account.specs.Accounts.{Account, AllOver}
use Rattle.snapshot_channel.specs.Passes.{sent_by}
use Rattle.task_taking.specs.Steps.{IsTakerCause}
use Rattle.task_taking.specs.Takings.{Taking, Gave, HasTaken, HadTaken, IsAtBarrier}
use Rattle.task_output.specs.Acking.{base_of}
use Rattle.task_output.specs.Waiting.{LastIs, MayEnd}
use Rattle.task_output.proofs.Begun.{begun_where}
use Rattle.task_taking.specs.Endings.{EachTold, IsTakerEnd}
use Rattle.task_taking.proofs.Groups.{had_taken}
use Rattle.task_taking.proofs.Giving.{barrier_is_given, barrier_is_told}
use Rattle.task_output.specs.Outputs.{Output, HasSent, HasBegun, HasStopped, HasFinished}
use Rattle.task_output.specs.Laws.{SentIsBegun, FinishedIsBegun}
use Rattle.stage_task.specs.declared.checkpoints.StageOutput.{StageOutput}
use Rattle.stage_task.specs.declared.checkpoints.TakerEnd.{TakerEnd}
use Rattle.stage_task.specs.Snapshots.{AreSnapshots, all_applied}
use Rattle.stage_task.specs.Stages.{StageAccount}
use Rattle.stage_task.specs.Applying.{start_at, base_at, from_at, HasApplied, IsStageUnderWay, IsBehindLast, IsMarked, EndedAmong, IsEndOf}
use Rattle.stage_task.proofs.Records.{applied_line}

-- it took nothing
abbrev none_took : List (ℕ × List ℕ)
none_took = []

-- what was begun is put
pub ended_account : (job : Job) (e b size : ℕ) (start : Start) (every : Option ℕ) (gate : Account) (shows : ℕ → Cut → Type 0) (out : Output) (sent : List Snapshot) (history : List (ℕ × Stored)) (takes : List TakeRun) (cause : Cause)
    (groups : List (List (ℕ × List ℕ))) (rest : List (ℕ × List ℕ)) (records begun : List (List ℕ))
    → Gave job e b gate shows groups rest → AreSnapshots job e b (from_of job start (suc e) b).number (from_of job start (suc e) b).emitted groups sent → RunsTake job e b takes rest → HasBegun (from_of job start (suc e) b).emitted job (suc e) b size out (all_applied job e groups) records begun (EachTold gate (suc (length groups))) (MayEnd (base_of start) every history groups rest)
    → StartsWith (applied job e rest) (records ++ begun) → cause ≢ causes.Done → IsTakerEnd (base_of start) every history gate groups rest cause
    → StageAccount job e b size start every gate shows out.writer.passes sent history takes cause
ended_account job e b size start every gate shows out sent history takes cause groups rest records begun given snapshots takes_are begun_them front other cause_is = record {
  groups = groups;
  rest = rest;
  more = records ++ begun;
  given = given;
  snapshots = snapshots;
  takes_are = takes_are;
  front = front;
  put = begun_them.each;
  done = λ is. absurd (other is);
  cause_is = cause_is;
}

pub stopped_not_done : causes.Stopped ≢ causes.Done
stopped_not_done = λ is. cc

pub memory_not_done : causes.Memory ≢ causes.Done
memory_not_done = λ is. cc

memory_not_stopped : causes.Memory ≢ causes.Stopped
memory_not_stopped = λ is. cc

barrier_not_done : causes.Peer peers.Barrier ≢ causes.Done
barrier_not_done = λ is. cc

-- all of it is a front of it
pub all_front : (xs : List (List ℕ)) → StartsWith xs xs
all_front xs = ([], sym (append-nil xs))

-- and of it with nothing behind
pub all_front_of : (xs : List (List ℕ)) → StartsWith xs (xs ++ [])
all_front_of xs = subst (StartsWith xs) (sym (append-nil xs)) (all_front xs)

-- a cause of the gate is one of the task
pub taker_end : (base : Stored) (every : Option ℕ) (history : List (ℕ × Stored)) (gate : Account) (groups : List (List (ℕ × List ℕ))) (rest : List (ℕ × List ℕ)) (cause : Cause) → IsTakerCause gate cause → cause ≢ causes.Done → IsTakerEnd base every history gate groups rest cause
taker_end base every history gate groups rest causes.Done is other = absurd (other refl)
taker_end base every history gate groups rest causes.Stopped is other = tt
taker_end base every history gate groups rest (causes.Input source) is other = absurd is
taker_end base every history gate groups rest causes.Keeper is other = absurd is
taker_end base every history gate groups rest causes.Link is other = absurd is
taker_end base every history gate groups rest (causes.LongLine source) is other = absurd is
taker_end base every history gate groups rest (causes.BigSource source) is other = absurd is
taker_end base every history gate groups rest causes.BigImage is other = absurd is
taker_end base every history gate groups rest (causes.OverCredit channel received announced) is other = absurd is
taker_end base every history gate groups rest (causes.Peer peers.BadFrame) is other = absurd is
taker_end base every history gate groups rest (causes.Peer peers.Sequence) is other = absurd is
taker_end base every history gate groups rest (causes.Peer peers.Barrier) is other = inl is
taker_end base every history gate groups rest (causes.Peer peers.Size) is other = absurd is
taker_end base every history gate groups rest (causes.Peer peers.AfterEnd) is other = absurd is
taker_end base every history gate groups rest (causes.Peer peers.Channel) is other = absurd is
taker_end base every history gate groups rest (causes.Peer peers.Credit) is other = absurd is
taker_end base every history gate groups rest (causes.Peer peers.Resume) is other = absurd is
taker_end base every history gate groups rest (causes.Peer peers.Left) is other = is
taker_end base every history gate groups rest (causes.Peer peers.Cut) is other = absurd is
taker_end base every history gate groups rest (causes.Peer peers.Refused) is other = absurd is
taker_end base every history gate groups rest causes.Memory is other = tt

-- ---- where it was stopped

pub among_stopped : (saw : Type 0) (from : ℕ) (job : Job) (e a size : ℕ) (out : Output) (groups : List (List (List ℕ))) (records given : List (List ℕ)) (cause cause' : Cause) → EndedAmong from job e a size out groups records given cause → cause' ≡ cause → cause' ≡ causes.Stopped → saw ⊎ HasSeenFault out.writer
among_stopped saw from job e a size out groups records given cause cause' among same is =
    elim among.cause_is [ inl full ↦ absurd (memory_not_stopped (sym full ∙ sym same ∙ is)) | inr stopped ↦ inr stopped.1 ]

-- ---- by other names

pub named : (job : Job) (e b size : ℕ) (start : Start) (every : Option ℕ) (gate : Account) (shows : ℕ → Cut → Type 0) (passes : List SendPass) (sent : List Snapshot) (history : List (ℕ × Stored)) (takes takes' : List TakeRun) (cause cause' : Cause) → takes' ≡ takes → cause' ≡ cause
    → StageAccount job e b size start every gate shows passes sent history takes cause → StageAccount job e b size start every gate shows passes sent history takes' cause'
named job e b size start every gate shows passes sent history takes takes' cause cause' one two was =
    subst (λ (l : List TakeRun). StageAccount job e b size start every gate shows passes sent history l cause') (sym one) (subst (StageAccount job e b size start every gate shows passes sent history takes) (sym two) was)

-- by the names of the end that it answers
pub ends_so : (gate : Account) (shows : ℕ → Cut → Type 0) (out : StageOutput) (end : TakerEnd) {takes : List TakeRun} {cause : Cause} → (end.takes.items ≡ takes) × (end.cause ≡ cause)
    → StageAccount out.job.now out.edge out.index out.output.writer.size (start_at out) out.every gate shows out.output.writer.passes (sent_by out.acks.pass) (seen out.acks.last_pass) takes cause → IsEndOf gate shows out end
ends_so gate shows out end {takes} {cause} is was =
    named out.job.now out.edge out.index out.output.writer.size (start_at out) out.every gate shows out.output.writer.passes (sent_by out.acks.pass) (seen out.acks.last_pass) takes end.takes.items cause end.cause is.0 is.1 was

-- ---- where it takes on

module _ (out : StageOutput) where
  abbrev job : Job
  job = out.job.now

  abbrev size : ℕ
  size = out.output.writer.size

  -- the account where it ends with another output
  abbrev Ended : Account → (ℕ → Cut → Type 0) → Output → List TakeRun → Cause → Type 0
  Ended gate shows o takes cause = StageAccount job out.edge out.index o.writer.size (start_at out) out.every gate shows o.writer.passes (sent_by out.acks.pass) (seen out.acks.last_pass) takes cause

  module _ (before gate : Account) (showed shows : ℕ → Cut → Type 0) (t t' : Taking) (groups : List (List (ℕ × List ℕ))) (took : List (ℕ × List ℕ)) (was : HasApplied before showed t out groups took) where
    abbrev made : List (List ℕ)
    made = applied job out.edge took

    -- it took nothing more
    module _ (sent_law : SentIsBegun) (taken : HadTaken job out.edge out.index gate shows t' groups took) where
      still_ended : (cause : Cause) → cause ≢ causes.Done → IsTakerEnd (base_at out) out.every (seen out.acks.last_pass) gate groups took cause → Ended gate shows out.output t'.runs cause
      still_ended cause other is = ended_account job out.edge out.index size (start_at out) out.every gate shows out.output (sent_by out.acks.pass) (seen out.acks.last_pass) t'.runs cause groups took made [] taken.given was.snapshots taken.takes
          (begun_where ⊥ (EachTold gate (suc (length groups))) ⊥ (MayEnd (base_at out) out.every (seen out.acks.last_pass) groups took) (λ never. absurd never) (λ never. absurd never) (from_at out).emitted job (suc out.edge) out.index size out.output (all_applied job out.edge groups) made [] (sent_law (from_at out).emitted job (suc out.edge) out.index size out.output (all_applied job out.edge groups) made was.sent)) (all_front_of made) other is

      -- its gate gave nothing more
      pub gate_ended : (cause : Cause) → IsTakerCause gate cause → cause ≢ causes.Done → Ended gate shows out.output t'.runs cause
      gate_ended cause is other = still_ended cause other (taker_end (base_at out) out.every (seen out.acks.last_pass) gate groups took cause is other)

      -- all channels ended before the last checkpoint
      pub ended_early : LastIs (base_at out) out.every (seen out.acks.last_pass) (length groups) false → AllOver gate → Ended gate shows out.output t'.runs (causes.Peer peers.Barrier)
      ended_early not_last over = still_ended (causes.Peer peers.Barrier) barrier_not_done (inr (inl (not_last, over)))

    -- it took a line
    module _ (sender : ℕ) (line : List ℕ) (given : List (List ℕ)) (taken : HasTaken job out.edge out.index gate shows t' groups (took ++ (sender, line) ∷ [])) (gives : given ≡ apply_behind job out.edge line) where
      abbrev more : List (ℕ × List ℕ)
      more = took ++ (sender, line) ∷ []

      more_is : applied job out.edge more ≡ made ++ given
      more_is = applied_line job out.edge took sender line ∙ ap (λ l. made ++ l) (sym gives)

      pub line_applied : (o : Output) → LastIs (base_at out) out.every (seen out.acks.last_pass) (length groups) false → HasSent (from_at out).emitted job (suc out.edge) out.index size o (all_applied job out.edge groups) (made ++ given) → IsStageUnderWay gate shows t' (record out { output = o })
      line_applied o not_last sent = record {
        groups = groups;
        took = more;
        applied_them = record {
          taken = taken;
          sent = subst (HasSent (from_at out).emitted job (suc out.edge) out.index o.writer.size o (all_applied job out.edge groups)) (sym more_is)
              (subst (λ n. HasSent (from_at out).emitted job (suc out.edge) out.index n o (all_applied job out.edge groups) (made ++ given)) (sym sent.writes_for.size_is) sent);
          snapshots = was.snapshots;
        };
        not_last = not_last;
      }

      pub line_ended : (o : Output) (cause : Cause) → o.writer.size ≡ size → EndedAmong (from_at out).emitted job (suc out.edge) out.index size o (all_applied job out.edge groups) made given cause → Ended gate shows o t'.runs cause
      line_ended o cause same among = ended_account job out.edge out.index o.writer.size (start_at out) out.every gate shows o (sent_by out.acks.pass) (seen out.acks.last_pass) t'.runs cause groups more (made ++ among.done) among.begun (had_taken job out.edge out.index gate shows t' groups more taken).given was.snapshots taken.takes
          (begun_where ⊥ (EachTold gate (suc (length groups))) ⊥ (MayEnd (base_at out) out.every (seen out.acks.last_pass) groups more) (λ never. absurd never) (λ never. absurd never) (from_at out).emitted job (suc out.edge) out.index o.writer.size o (all_applied job out.edge groups) (made ++ among.done) among.begun (subst (λ n. HasBegun (from_at out).emitted job (suc out.edge) out.index n o (all_applied job out.edge groups) (made ++ among.done) among.begun ⊥ ⊥) (sym same) among.begun_them))
          (among.rest, more_is ∙ ap (λ l. made ++ l) among.parts ∙ sym (append_assoc made among.done (among.begun ++ among.rest)) ∙ sym (append_assoc (made ++ among.done) among.begun among.rest))
          (λ is. elim among.cause_is [ inl full ↦ memory_not_done (sym full ∙ is) | inr stopped ↦ stopped_not_done (sym stopped.0 ∙ is) ])
          (elim among.cause_is [ inl full ↦ subst (IsTakerEnd (base_at out) out.every (seen out.acks.last_pass) gate groups more) (sym full) tt | inr stopped ↦ subst (IsTakerEnd (base_at out) out.every (seen out.acks.last_pass) gate groups more) (sym stopped.0) tt ])

    -- it is at a barrier
    module _ (at : IsAtBarrier job out.edge out.index gate shows t' groups took) where
      pub marked : (o : Output) → LastIs (base_at out) out.every (seen out.acks.last_pass) (length groups) false → HasSent (from_at out).emitted job (suc out.edge) out.index size o (all_applied job out.edge groups ++ made ∷ []) [] → IsMarked gate shows t' (record out { output = o })
      marked o not_last sent = record {
        groups = groups;
        took = took;
        at = at;
        sent = subst (λ n. HasSent (from_at out).emitted job (suc out.edge) out.index n o (all_applied job out.edge groups ++ made ∷ []) []) (sym sent.writes_for.size_is) sent;
        snapshots = was.snapshots;
        not_last = not_last;
      }

      pub mark_ended : (o : Output) → o.writer.size ≡ size → HasStopped (from_at out).emitted job (suc out.edge) out.index size o (all_applied job out.edge groups) made [] ⊤ ⊥ → Ended gate shows o t'.runs causes.Stopped
      mark_ended o same stopped = ended_account job out.edge out.index o.writer.size (start_at out) out.every gate shows o (sent_by out.acks.pass) (seen out.acks.last_pass) t'.runs causes.Stopped groups took made [] (barrier_is_given job out.edge out.index gate shows t' groups took at) was.snapshots at.takes
          (begun_where ⊤ (EachTold gate (suc (length groups))) ⊥ (MayEnd (base_at out) out.every (seen out.acks.last_pass) groups took) (λ mark. barrier_is_told job out.edge out.index gate shows t' groups took at) (λ never. absurd never) (from_at out).emitted job (suc out.edge) out.index o.writer.size o (all_applied job out.edge groups) made [] (subst (λ n. HasBegun (from_at out).emitted job (suc out.edge) out.index n o (all_applied job out.edge groups) made [] ⊤ ⊥) (sym same) stopped.begun_them)) (all_front_of made) stopped_not_done tt

-- ---- behind the last checkpoint

module _ (before gate : Account) (showed shows : ℕ → Cut → Type 0) (t t' : Taking) (out : StageOutput) (behind : IsBehindLast before showed t out) where
  abbrev job_of : Job
  job_of = out.job.now

  pub ended_behind : SentIsBegun → (cause : Cause) → HadTaken job_of out.edge out.index gate shows t' behind.groups [] → IsTakerCause gate cause → cause ≢ causes.Done → Ended out gate shows out.output t'.runs cause
  ended_behind sent_law cause taken is other = gate_ended out before gate showed shows t t' behind.groups [] behind.applied_them sent_law taken cause is other

  -- it took a line more
  pub line_behind : SentIsBegun → (sender : ℕ) (line : List ℕ) → HasTaken job_of out.edge out.index gate shows t' behind.groups ((sender, line) ∷ []) → Ended out gate shows out.output t'.runs (causes.Peer peers.Barrier)
  line_behind sent_law sender line taken = ended_account job_of out.edge out.index out.output.writer.size (start_at out) out.every gate shows out.output (sent_by out.acks.pass) (seen out.acks.last_pass) t'.runs (causes.Peer peers.Barrier) behind.groups ((sender, line) ∷ []) [] []
      (had_taken job_of out.edge out.index gate shows t' behind.groups ((sender, line) ∷ []) taken).given behind.applied_them.snapshots taken.takes
      (begun_where ⊥ (EachTold gate (suc (length behind.groups))) ⊥ (MayEnd (base_at out) out.every (seen out.acks.last_pass) behind.groups ((sender, line) ∷ [])) (λ never. absurd never) (λ never. absurd never) (from_at out).emitted job_of (suc out.edge) out.index out.output.writer.size out.output (all_applied job_of out.edge behind.groups) [] [] (sent_law (from_at out).emitted job_of (suc out.edge) out.index out.output.writer.size out.output (all_applied job_of out.edge behind.groups) [] behind.applied_them.sent)) (applied job_of out.edge ((sender, line) ∷ []), refl)
      barrier_not_done (inr (inr (behind.last, inl (λ is. cc))))

  -- a barrier came on all channels
  pub barrier_behind : SentIsBegun → IsAtBarrier job_of out.edge out.index gate shows t' behind.groups [] → Ended out gate shows out.output t'.runs (causes.Peer peers.Barrier)
  barrier_behind sent_law at = ended_account job_of out.edge out.index out.output.writer.size (start_at out) out.every gate shows out.output (sent_by out.acks.pass) (seen out.acks.last_pass) t'.runs (causes.Peer peers.Barrier) behind.groups [] [] []
      (barrier_is_given job_of out.edge out.index gate shows t' behind.groups [] at) behind.applied_them.snapshots at.takes
      (begun_where ⊥ (EachTold gate (suc (length behind.groups))) ⊥ (MayEnd (base_at out) out.every (seen out.acks.last_pass) behind.groups none_took) (λ never. absurd never) (λ never. absurd never) (from_at out).emitted job_of (suc out.edge) out.index out.output.writer.size out.output (all_applied job_of out.edge behind.groups) [] [] (sent_law (from_at out).emitted job_of (suc out.edge) out.index out.output.writer.size out.output (all_applied job_of out.edge behind.groups) [] behind.applied_them.sent)) ([], refl)
      barrier_not_done (inr (inr (behind.last, inr (barrier_is_told job_of out.edge out.index gate shows t' behind.groups [] at))))

  -- all channels ended, and it ends its own
  module _ (taken : HasTaken job_of out.edge out.index gate shows t' behind.groups []) (o : Output) (same : o.writer.size ≡ out.output.writer.size) where
    pub finish_ended : HasStopped (from_at out).emitted job_of (suc out.edge) out.index out.output.writer.size o (all_applied job_of out.edge behind.groups) [] [] ⊥ ⊤ → Ended out gate shows o t'.runs causes.Stopped
    finish_ended stopped = ended_account job_of out.edge out.index o.writer.size (start_at out) out.every gate shows o (sent_by out.acks.pass) (seen out.acks.last_pass) t'.runs causes.Stopped behind.groups [] [] []
        (had_taken job_of out.edge out.index gate shows t' behind.groups [] taken).given behind.applied_them.snapshots taken.takes
        (begun_where ⊥ (EachTold gate (suc (length behind.groups))) ⊤ (MayEnd (base_at out) out.every (seen out.acks.last_pass) behind.groups none_took) (λ never. absurd never) (λ all. (behind.last, refl)) (from_at out).emitted job_of (suc out.edge) out.index o.writer.size o (all_applied job_of out.edge behind.groups) [] [] (subst (λ n. HasBegun (from_at out).emitted job_of (suc out.edge) out.index n o (all_applied job_of out.edge behind.groups) [] [] ⊥ ⊤) (sym same) stopped.begun_them)) ([], refl) stopped_not_done tt

    pub finished : FinishedIsBegun → AllOver gate → HasFinished (from_at out).emitted job_of (suc out.edge) out.index out.output.writer.size o (all_applied job_of out.edge behind.groups) [] → Ended out gate shows o t'.runs causes.Done
    finished law over has =
        let all = subst (λ n. HasFinished (from_at out).emitted job_of (suc out.edge) out.index n o (all_applied job_of out.edge behind.groups) []) (sym same) has in
        record {
          groups = behind.groups;
          rest = [];
          more = [];
          given = (had_taken job_of out.edge out.index gate shows t' behind.groups [] taken).given;
          snapshots = behind.applied_them.snapshots;
          takes_are = taken.takes;
          front = ([], refl);
          put = (begun_where ⊥ (EachTold gate (suc (length behind.groups))) ⊤ (MayEnd (base_at out) out.every (seen out.acks.last_pass) behind.groups none_took) (λ never. absurd never) (λ all. (behind.last, refl)) (from_at out).emitted job_of (suc out.edge) out.index o.writer.size o (all_applied job_of out.edge behind.groups) [] [] (law (from_at out).emitted job_of (suc out.edge) out.index o.writer.size o (all_applied job_of out.edge behind.groups) [] all)).each;
          done = λ is. (refl, all.each);
          cause_is = (over, refl, behind.last);
        }

-- the next barrier has the number of the checkpoint
pub next_mark : (out : StageOutput) (before : Account) (showed : ℕ → Cut → Type 0) (t : Taking) (groups : List (List (ℕ × List ℕ))) (took : List (ℕ × List ℕ)) → HasApplied before showed t out groups took → (k : ℕ) → k ≡ suc (length groups) → IsNextBarrier out.output.writer k
next_mark out before showed t groups took was k number =
    subst (IsNextBarrier out.output.writer) (ap suc (length-map groups (applied out.job.now out.edge)) ∙ sym number) was.sent.next
