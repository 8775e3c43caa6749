-- How an aggregate task begins and ends.
use Rattle.std.proofs.Common.{◌≡◌, ◌≢◌, ◌⊎◌, ℕ, suc, ◌<◌, arith, false, List, [], ◌∷◌, ◌++◌, Option, refl, sym, ap, subst, ◌∙◌, inl, inr}
use Rattle.turn_cell.specs.History.{StartsWith}
use Rattle.turn_cell.specs.Passes.{IsSamePass, seen}
use Rattle.flow_defs.specs.declared.cause.Cause.{Cause}
use Rattle.flow_defs.specs.declared.cause.Cause.TheVariants as causes
use Rattle.flow_defs.specs.declared.image.Snapshot.{Snapshot}
use Rattle.flow_defs.specs.declared.image.TakeRun.{TakeRun}
use Rattle.flow_defs.specs.declared.job.Job.{Job}
use Rattle.flow_defs.specs.Jobs.{IsJob, last_edge, tasks}
use Rattle.job_start.specs.declared.start.Start.{Start}
use Rattle.outside.specs.declared.last_image.Stored.{Stored}
use Rattle.outside.specs.Stops.{told_of}
use Rattle.conn_parts.specs.Stopping.{StopCell, StopPass}
use Rattle.record_writer.specs.Writers.{ways_into}
use Rattle.channel_cut.specs.Cuts.{Cut}
use Rattle.channel_cut.specs.Takings.{TakenOn}
use Rattle.channel_cut.proofs.Taking.{taken_begins}
use Rattle.gate_account.specs.Accounts.{Account, IsNew}
use Rattle.task_taking.proofs.Groups.{taken_none, step_none}
use Rattle.snapshot_channel.specs.Passes.{sent_by}
use Rattle.task_output.specs.Acking.{base_of}
use Rattle.task_output.specs.Ending.{EndsAs, ToldAtEnd}
use Rattle.task_taking.specs.Takings.{Taking, HasTaken, IsInStep, start_of, untaken}
use Rattle.task_taking.specs.Endings.{IsTakerEnd, ToldStop}
use Rattle.aggregate_task.specs.declared.checkpoint.AggregateOutput.{AggregateOutput}
use Rattle.aggregate_task.specs.declared.checkpoint.Ending.{Ending}
use Rattle.aggregate_task.specs.Acknowledging.{IsSame, start_at}
use Rattle.aggregate_task.specs.Aggregates.{AggregateAccount, HasAccount}
use Rattle.aggregate_task.proofs.Acknowledging.{moved_back}

-- before it takes anything it takes behind the last edge
pub begins_behind : (job : Job) (b : ℕ) (gate : Account) (shows : ℕ → Cut → Type 0) (taking : Taking) (edge : ℕ) → taking ≡ untaken job edge b → edge ≡ last_edge job → IsJob job → b < tasks job (suc (last_edge job))
    → IsNew (λ c. []) gate → gate.channels ≡ ways_into job (last_edge job) → HasTaken job (last_edge job) b gate shows taking [] [] × IsInStep gate taking
begins_behind job b gate shows taking edge none is is_job within new channels =
    let at : taking ≡ untaken job (last_edge job) b = none ∙ ap (λ e. untaken job e b) is in
    (taken_none job (last_edge job) b gate shows taking is_job (omega arith) within new channels at, step_none job (last_edge job) b gate taking new channels at)

-- it found no memory at its start
pub account_unsent : (job : Job) (b : ℕ) (start : Start) (every : Option ℕ) (gate : Account) (shows : ℕ → Cut → Type 0) (sent : List Snapshot) (history : List (ℕ × Stored)) (end : Ending) → IsNew (λ c. []) gate → sent ≡ [] → (end.cause ≡ causes.Memory) × (end.takes.items ≡ []) → AggregateAccount job b start every gate shows sent history end.takes.items end.cause
account_unsent job b start every gate shows sent history end new unsent none = record {
  groups = [];
  rest = [];
  given = λ c within. (false, subst (λ ls. TakenOn (shows c) ls (start_of job (last_edge job) b c) [] [] false) (sym (new.lines c)) (taken_begins (shows c) (start_of job (last_edge job) b c)));
  snapshots = rw unsent tt;
  takes_are = rw none.1 (record { senders_are = refl; are_runs = tt; short = tt });
  waited = rw unsent tt;
  cause_is = subst (IsTakerEnd (base_of start) every history gate [] []) (sym none.0) tt;
}

-- what was done may end as stopped
pub account_ended : (job : Job) (b : ℕ) (start : Start) (every : Option ℕ) (gate : Account) (shows : ℕ → Cut → Type 0) (sent : List Snapshot) (history : List (ℕ × Stored)) (takes : List TakeRun) (cause told : Cause) → EndsAs cause told → AggregateAccount job b start every gate shows sent history takes cause → AggregateAccount job b start every gate shows sent history takes told
account_ended job b start every gate shows sent history takes cause told ends was = record {
  groups = was.groups;
  rest = was.rest;
  given = was.given;
  snapshots = was.snapshots;
  takes_are = was.takes_are;
  waited = was.waited;
  cause_is = elim ends [
    | inl same ↦ subst (IsTakerEnd (base_of start) every history gate was.groups was.rest) (sym same) was.cause_is
    | inr stopped ↦ subst (IsTakerEnd (base_of start) every history gate was.groups was.rest) (sym stopped.1) tt
  ];
}

-- the account of what the task hands back is the same
pub account_of_same : (out out' : AggregateOutput) (gate : Account) (shows : ℕ → Cut → Type 0) (sent : List Snapshot) (history : List (ℕ × Stored)) (takes : List TakeRun) (end : Ending) → IsSame out out' → sent ≡ sent_by out'.acks.pass → history ≡ seen out'.acks.last_pass → takes ≡ end.takes.items
    → HasAccount gate shows out' end → AggregateAccount out.job.now out.index (start_at out) out.every gate shows sent history takes end.cause
account_of_same out out' gate shows sent history takes end same sent_is history_is takes_are was =
    moved_back out out' same (λ j b s e. AggregateAccount j b s e gate shows sent history takes end.cause)
    (subst (λ (l : List Snapshot). AggregateAccount out'.job.now out'.index (start_at out') out'.every gate shows l history takes end.cause) (sym sent_is)
    (subst (λ (l : List (ℕ × Stored)). AggregateAccount out'.job.now out'.index (start_at out') out'.every gate shows (sent_by out'.acks.pass) l takes end.cause) (sym history_is)
    (subst (λ (l : List TakeRun). AggregateAccount out'.job.now out'.index (start_at out') out'.every gate shows (sent_by out'.acks.pass) (seen out'.acks.last_pass) l end.cause) (sym takes_are) was)))

seen_later : {X : Type 0} (xs ys : List X) → StartsWith xs ys → ys ≢ [] → xs ≢ []
seen_later xs [] more some = absurd (some refl)
seen_later xs (y ∷ ys) more some = λ none. (let e : (y ∷ ys) ++ more.0 ≡ [] = sym more.1 ∙ none in absurd (cc))

-- the stop cell was told, and the task was stopped for what it or its gate saw
pub told_stop : (cell : StopCell) (saw : Type 0) (cause told : Cause) (before mid after : StopPass) → IsSamePass before mid → (cause ≡ causes.Stopped → saw ⊎ (seen mid ≢ [])) → ToldAtEnd cell cause told mid after → ToldStop cell saw told before after
told_stop cell saw cause told before mid after same why was = record {
  pass = was.pass;
  number_is = was.number_is ∙ same.0;
  told = was.told ∙ ap (λ l. l ++ told_of told) same.1;
  stopped = λ is. elim (was.stopped is) [
    | inl before_it ↦ elim (why before_it) [
      | inl gate ↦ inl gate
      | inr some ↦ inr (seen_later (seen after) (seen mid) was.later some)
    ]
    | inr some ↦ inr some
  ];
  done = was.done;
}
