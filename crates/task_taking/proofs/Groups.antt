-- What was taken, as a gate gives more.
use Rattle.std.proofs.Common.{◌≡◌, ◌≢◌, ℕ, suc, ◌<◌, ◌≤◌, Bool, true, false, IsTrue, List, [], ◌∷◌, ◌++◌, refl, sym, subst, ◌∙◌, inl, inr}
use Rattle.flow_defs.specs.declared.image.TakeRun.{TakeRun}
use Rattle.flow_defs.specs.declared.job.Job.{Job}
use Rattle.flow_defs.specs.declared.cause.Cause.TheVariants as causes
use Rattle.flow_defs.specs.declared.cause.PeerFault.TheVariants as peers
use Rattle.flow_defs.specs.declared.task.BarrierKind.TheVariants.{Inline, Front}
use Rattle.flow_defs.specs.Jobs.{IsJob, last_edge, tasks, exchange, is_channel}
use Rattle.flow_defs.specs.Records.{IsShort}
use Rattle.plain_machine.specs.Histories.{run_senders}
use Rattle.plain_machine.specs.Images.{AreRuns}
use Rattle.checkpoint_laws.specs.Chapters.{RunsTake}
use Rattle.checkpoint_laws.specs.Growing.{OneIsTaken}
use Rattle.barriers.specs.Alignments.{Alignment, alignment_next, barrier, is_last, is_open, unaligned}
use Rattle.record_writer.specs.Writers.{ways_into}
use Rattle.channel_cut.specs.Cuts.{Cut}
use Rattle.gate_account.specs.Accounts.{Account, IsNew, Keeps, GaveNothing, GaveOf, GaveBarrier, ResumedAll}
use Rattle.gate_account.specs.Aligning as aligning
use Rattle.gate_account.specs.Aligning.{gave_at}
use Rattle.gate_account.specs.Taking.{AreApart, IsTaking, IsAtSnapshot}
use Rattle.gate_account.proofs.InStep.{new_are_in_step}
use Rattle.gate_account.proofs.Takings.{has_at_barrier, new_is_taking, takes_nothing, takes_line, takes_barrier, takes_last_barrier, goes_on_aligned}
use Rattle.input_gate.specs.Gates.{Ended}
use Rattle.input_gate.specs.declared.gate.GateEnd.{GateEnd}
use Rattle.input_gate.specs.declared.gate.GateEnd.TheVariants as ends
use Rattle.task_taking.specs.Takings.{Taking, IsSame, IsInStep, start_of, untaken, TakesFor, Gave, HasTaken, HadTaken, IsAtBarrier}
use Rattle.task_taking.specs.Steps.{IsTakerCause, cause_of}
use Rattle.task_taking.proofs.Senders.{apart_at, leads_here}

-- ---- before the first item

-- of a new gate nothing was taken
pub taken_none : (job : Job) (e b : ℕ) (gate : Account) (shows : ℕ → Cut → Type 0) (t : Taking) → IsJob job → e ≤ last_edge job → b < tasks job (suc e) → IsNew (λ c. []) gate → gate.channels ≡ ways_into job e → t ≡ untaken job e b
    → HasTaken job e b gate shows t [] []
taken_none job e b gate shows t is_job edge within new channels is = subst (λ (x : Taking). HasTaken job e b gate shows x [] []) (sym is) (record {
  takes_for = record {
    is_job = is_job;
    edge = edge;
    within = within;
    exchange_is = refl;
    index_is = refl;
    channels = channels;
  };
  taking = subst (λ n. IsTaking gate shows (start_of job e b) (unaligned n) [] []) channels (new_is_taking (λ c. []) gate shows (start_of job e b) new);
  takes = record { senders_are = refl; are_runs = tt; short = tt };
})

-- and it is in step
pub step_none : (job : Job) (e b : ℕ) (gate : Account) (t : Taking) → IsNew (λ c. []) gate → gate.channels ≡ ways_into job e → t ≡ untaken job e b → IsInStep gate t
step_none job e b gate t new channels is = subst (λ (x : Taking). IsInStep gate x) (sym is) (record {
  channels = channels;
  step = subst (λ n. aligning.IsInStep gate (unaligned n)) channels (new_are_in_step (λ c. []) gate new);
})

-- ---- what was given where a task ends

module _ (job : Job) (e b : ℕ) (gate : Account) (shows : ℕ → Cut → Type 0) (t : Taking) (groups : List (List (ℕ × List ℕ))) (took : List (ℕ × List ℕ)) where
  pub taken_is_given : HasTaken job e b gate shows t groups took → Gave job e b gate shows groups took
  taken_is_given has c inside = (gave_at t.alignment c, has.taking.has c (subst (λ n. c < n) (sym has.takes_for.channels) inside))

  pub had_taken : HasTaken job e b gate shows t groups took → HadTaken job e b gate shows t groups took
  had_taken has = record { given = taken_is_given has; takes = has.takes }

-- ---- at an item

for_same : (job : Job) (e b : ℕ) (before after : Account) (t t' : Taking) → after.channels ≡ before.channels → IsSame t t' → TakesFor job e b before t → TakesFor job e b after t'
for_same job e b before after t t' channels same was = record {
  is_job = was.is_job;
  edge = was.edge;
  within = was.within;
  exchange_is = same.exchange ∙ was.exchange_is;
  index_is = same.index ∙ was.index_is;
  channels = channels ∙ was.channels;
}

module _ (job : Job) (e b : ℕ) (before after : Account) (shows shown : ℕ → Cut → Type 0) (kept : Keeps shows shown) (t t' : Taking) (groups : List (List (ℕ × List ℕ))) (took : List (ℕ × List ℕ))
    (channels : after.channels ≡ before.channels) (same : IsSame t t') (was : HasTaken job e b before shows t groups took) where
  abbrev start : ℕ → ℕ
  start c = start_of job e b c

  takes_same : t'.runs ≡ t.runs → RunsTake job e b t'.runs took
  takes_same runs = subst (λ (runs : List TakeRun). RunsTake job e b runs took) (sym runs) was.takes

  apart : AreApart before.channels start
  apart c d low other ne same =
      let inside = λ (x : ℕ) (h : x < before.channels). subst (λ n. x < n) was.takes_for.channels h in
      ne (apart_at (exchange job e) b (tasks job e) c d (inside c low) (inside d other) same)

  -- nothing was taken
  pub taken_same : GaveNothing before after → t'.alignment ≡ t.alignment → t'.runs ≡ t.runs → HasTaken job e b after shown t' groups took
  taken_same gave aligned runs = record {
    takes_for = for_same job e b before after t t' channels same was.takes_for;
    taking = subst (λ (a : Alignment). IsTaking after shown start a groups took) (sym aligned) (takes_nothing before after shows shown kept channels start t.alignment groups took was.taking gave);
    takes = takes_same runs;
  }

  -- a line was taken and noted
  pub taken_line : (c : ℕ) (line : List ℕ) → GaveOf before after c (line ∷ []) [] → t'.alignment ≡ t.alignment → OneIsTaken → IsShort line → run_senders t'.runs ≡ run_senders t.runs ++ start c ∷ []
      → (IsTrue (is_channel job e (start c) b) → AreRuns job e b t.runs → AreRuns job e b t'.runs) → HasTaken job e b after shown t' groups (took ++ (start c, line) ∷ [])
  taken_line c line gave aligned law short noted are =
      let inside = subst (λ n. c < n) was.takes_for.channels gave.within in
      record {
        takes_for = for_same job e b before after t t' channels same was.takes_for;
        taking = subst (λ (a : Alignment). IsTaking after shown start a groups (took ++ (start c, line) ∷ [])) (sym aligned) (takes_line before after shows shown kept channels start t.alignment groups took was.taking c line apart gave);
        takes = law job e b (start c) line t.runs t'.runs took was.takes short noted (are (leads_here job e b c was.takes_for.is_job was.takes_for.edge was.takes_for.within inside) was.takes.are_runs);
      }

  -- ---- a barrier

  module _ (c k : ℕ) (answer : GaveBarrier before after shown (is_open t.alignment) c k Inline) (now : t'.alignment ≡ alignment_next t.alignment (barrier c k Inline)) (runs : t'.runs ≡ t.runs) where
    -- others of its checkpoint are to come
    pub taken_block : is_last t.alignment (barrier c k Inline) ≡ false → HasTaken job e b after shown t' groups took
    taken_block others = record {
      takes_for = for_same job e b before after t t' channels same was.takes_for;
      taking = subst (λ (a : Alignment). IsTaking after shown start a groups took) (sym now) (takes_barrier before after shows shown kept channels start t.alignment groups took was.taking c k answer others);
      takes = takes_same runs;
    }

    -- it is the last one of its checkpoint
    pub at_barrier : is_last t.alignment (barrier c k Inline) ≡ true → IsAtBarrier job e b after shown t' groups took
    at_barrier last = record {
      takes_for = for_same job e b before after t t' channels same was.takes_for;
      at = subst (λ (a : Alignment). IsAtSnapshot after shown start a (groups ++ took ∷ [])) (sym now) (takes_last_barrier before after shows shown kept channels start t.alignment groups took was.taking c k answer last);
      takes = takes_same runs;
    }

  -- a front one ends the task
  pub had_at_front : (hold : Bool) (c k : ℕ) → GaveBarrier before after shown hold c k Front → t'.runs ≡ t.runs → HadTaken job e b after shown t' groups took
  had_at_front hold c k answer runs =
      let has = has_at_barrier before after shows shown kept channels start groups took (gave_at t.alignment) was.taking.has c ((k, Front) ∷ []) answer.1 in
      record { given = λ d inside. (gave_at t.alignment d, has d (subst (λ n. d < n) (sym (channels ∙ was.takes_for.channels)) inside)); takes = takes_same runs }

-- ---- at a resumption

pub taken_resumed : (job : Job) (e b : ℕ) (before after : Account) (shows shown : ℕ → Cut → Type 0) → Keeps shows shown → (t t' : Taking) (groups : List (List (ℕ × List ℕ))) (took : List (ℕ × List ℕ)) → after.channels ≡ before.channels → IsSame t t'
    → t'.alignment ≡ t.alignment → t'.runs ≡ [] → ResumedAll before after → IsAtBarrier job e b before shows t groups took → HasTaken job e b after shown t' (groups ++ took ∷ []) []
taken_resumed job e b before after shows shown kept t t' groups took channels same aligned runs resumed was = record {
  takes_for = for_same job e b before after t t' channels same was.takes_for;
  taking = subst (λ (a : Alignment). IsTaking after shown (start_of job e b) a (groups ++ took ∷ []) []) (sym aligned)
      (goes_on_aligned before after shows shown kept channels (start_of job e b) t.alignment (groups ++ took ∷ []) was.at resumed);
  takes = subst (λ (runs : List TakeRun). RunsTake job e b runs []) (sym runs) (record { senders_are = refl; are_runs = tt; short = tt });
}

-- ---- causes

-- a gate that gives nothing more gives a cause
pub end_cause : (before after : Account) (end : GateEnd) → after.channels ≡ before.channels → Ended before after end → IsTakerCause after (cause_of end) × (cause_of end ≢ causes.Done)
end_cause before after ends.Stopped same ended = (tt, λ is. cc)
end_cause before after ends.Memory same ended = (tt, λ is. cc)
end_cause before after (ends.TooLong c len) same ended = ((c, subst (λ n. c < n) (sym same) ended.0, inl (len, ended.1)), λ is. cc)
end_cause before after (ends.Left c len) same ended = ((c, subst (λ n. c < n) (sym same) ended.0, inr (ended.1, subst (λ n. 0 < n) (sym ended.2) ended.3)), λ is. cc)

-- a front barrier was given
pub front_cause : (before after : Account) (shows : ℕ → Cut → Type 0) (hold : Bool) (c k : ℕ) → after.channels ≡ before.channels → GaveBarrier before after shows hold c k Front → IsTakerCause after (causes.Peer peers.Barrier) × (causes.Peer peers.Barrier ≢ causes.Done)
front_cause before after shows hold c k same gave = ((c, k, before.barriers c, subst (λ n. c < n) (sym same) gave.1.within, gave.1.barriers_here), λ is. cc)
