-- A checkpoint of an aggregate task.
use Rattle.std.proofs.Common.{◌≡◌, ℕ, zero, suc, ◌+◌, Bool, false, List, [], ◌∷◌, ◌++◌, length, Option, Some, None, refl, sym, ap, subst, ◌∙◌, inl, inr, append-nil, arith}
use Rattle.std.proofs.lemmas.List.{length-append}
use Rattle.turn_cell.specs.Passes.{seen}
use Rattle.flow_defs.specs.declared.cause.Cause.{Cause}
use Rattle.flow_defs.specs.declared.image.TakeRun.{TakeRun}
use Rattle.flow_defs.specs.Jobs.{last_edge}
use Rattle.flow_defs.specs.Tables.{Values}
use Rattle.checkpoint_laws.specs.Chapters.{RunsTake}
use Rattle.job_start.specs.Starts.{from_of}
use Rattle.outside.specs.declared.last_image.Stored.{Stored}
use Rattle.channel_cut.specs.Cuts.{Cut}
use Rattle.gate_account.specs.Accounts.{Account}
use Rattle.snapshot_channel.specs.Passes.{sent_by}
use Rattle.task_output.specs.Acking.{base_of}
use Rattle.task_output.specs.Waiting.{LastIs, KnowsLast, HasWaited, SeenIsWaited, WaitedStays}
use Rattle.task_taking.specs.Takings.{Taking, HasTaken, IsInStep}
use Rattle.task_taking.specs.Endings.{IsTakerEnd}
use Rattle.task_taking.proofs.Giving.{resumed_is_given}
use Rattle.aggregate_task.specs.declared.checkpoint.AggregateOutput.{AggregateOutput}
use Rattle.aggregate_task.specs.Snapshots.{AreSnapshots, SentSnapshot, all_taken, table_with}
use Rattle.aggregate_task.specs.Acknowledging.{IsSame, IsCountUnderWay, IsAtCheckpoint, BreaksFor, start_at, from_at, next_number}
use Rattle.aggregate_task.specs.Aggregates.{AggregateAccount}
use Rattle.aggregate_task.proofs.Acknowledging.{moved}
use Rattle.aggregate_task.proofs.Snapshots.{as_many, with_group, snapshots_more, all_more}

-- it waited for the image of the checkpoint before
waited_one : SeenIsWaited → (base : Stored) (every : Option ℕ) (history earlier : List (ℕ × Stored)) (before : ℕ) (last : Bool) → LastIs base every earlier before false → KnowsLast base every history before last → HasWaited base (suc before) history
waited_one law base every history earlier zero last not_last knows = tt
waited_one law base None history earlier (suc before) last not_last knows = absurd (cc)
waited_one law base (Some n) history earlier (suc before) last not_last knows = law base history (suc before) last knows

-- a task breaks off so at any time
pub broke_end : (base : Stored) (every : Option ℕ) (history : List (ℕ × Stored)) (gate : Account) (groups : List (List (ℕ × List ℕ))) (rest : List (ℕ × List ℕ)) (out : AggregateOutput) (cause : Cause) → BreaksFor out cause → IsTakerEnd base every history gate groups rest cause
broke_end base every history gate groups rest out cause breaks = elim breaks [
  | inl memory ↦ subst (IsTakerEnd base every history gate groups rest) (sym memory) tt
  | inr stopped ↦ subst (IsTakerEnd base every history gate groups rest) (sym stopped.0) tt
]

module _ (waits : SeenIsWaited) (stays : WaitedStays) (gate gate' : Account) (shows shows' : ℕ → Cut → Type 0) (taking taking' : Taking) (counts : Values) (out out' : AggregateOutput) (at : IsAtCheckpoint gate shows taking counts out) (same : IsSame out out') where
  many : length (sent_by out.acks.pass) ≡ length at.groups
  many = as_many out.job.now out.index (from_at out).number (from_at out).table at.groups (sent_by out.acks.pass) at.counted.snapshots

  -- the channels are resumed, and the runs are those of what was taken
  module _ (runs : List TakeRun) (takes : RunsTake out.job.now (last_edge out.job.now) out.index runs at.took) (taken : HasTaken out.job.now (last_edge out.job.now) out.index gate' shows' taking' (at.groups ++ at.took ∷ []) []) where
    pub goes_on : (last : Bool) → IsInStep gate' taking' → SentSnapshot out.job.now out.index (next_number out) counts runs (sent_by out.acks.pass) (sent_by out'.acks.pass) → KnowsLast (base_of (start_at out)) out.every (seen out'.acks.last_pass) (length (sent_by out.acks.pass)) last → IsCountUnderWay gate' shows' taking' counts out' last
    goes_on last in_step sent knows =
        let job = out.job.now in
        let from = from_at out in
        let base = base_of (start_at out) in
        let longer : length (at.groups ++ at.took ∷ []) ≡ suc (length at.groups) = length-append at.groups (at.took ∷ []) ∙ omega arith in
        let history = seen out'.acks.last_pass in
        let knows_it : KnowsLast base out.every history (length at.groups) last = subst (λ n. KnowsLast base out.every history n last) many knows in
        record {
          groups = at.groups ++ at.took ∷ [];
          took = [];
          taken = moved out out' same (λ j b s e. HasTaken j (last_edge j) b gate' shows' taking' (at.groups ++ at.took ∷ []) []) taken;
          in_step = in_step;
          counted = record {
            counted = moved out out' same (λ j b s e. counts ≡ table_with j (from_of j s (suc (last_edge j)) b).table (all_taken (at.groups ++ at.took ∷ []) ++ []))
                (at.counted.counted ∙ ap (table_with job from.table) (sym (append-nil (all_taken (at.groups ++ at.took ∷ [])) ∙ all_more at.groups at.took)));
            keys = at.counted.keys;
            snapshots = moved out out' same (λ j b s e. AreSnapshots j b (from_of j s (suc (last_edge j)) b).number (from_of j s (suc (last_edge j)) b).table (at.groups ++ at.took ∷ []) (sent_by out'.acks.pass))
                (subst (AreSnapshots job out.index from.number from.table (at.groups ++ at.took ∷ [])) (sym sent.sent)
                (snapshots_more job out.index from.number from.table at.groups (sent_by out.acks.pass) at.took sent.snapshot at.counted.snapshots
                (with_group job out.index (next_number out) (suc (from.number + length at.groups)) (table_with job from.table (all_taken at.groups ++ at.took)) counts runs at.took sent.snapshot sent.is_with
                (ap (λ n. suc (from.number + n)) many) at.counted.counted takes)));
            waited = moved out out' same (λ j b s e. HasWaited (base_of s) (length (at.groups ++ at.took ∷ [])) history)
                (subst (λ n. HasWaited base n history) (sym longer) (waited_one waits base out.every history (seen out.acks.last_pass) (length at.groups) last at.not_last knows_it));
          };
          last_is = moved out out' same (λ j b s e. LastIs (base_of s) e history (length (at.groups ++ at.took ∷ [])) last) (subst (λ n. LastIs base out.every history n last) (sym longer) knows_it);
          none_behind = λ is. refl;
        }

    pub breaks_off : (left : List TakeRun) (cause : Cause) → left ≡ runs → sent_by out'.acks.pass ≡ sent_by out.acks.pass → BreaksFor out' cause → AggregateAccount out'.job.now out'.index (start_at out') out'.every gate' shows' (sent_by out'.acks.pass) (seen out'.acks.last_pass) left cause
    breaks_off left cause are unsent breaks = moved out out' same (λ j b s e. AggregateAccount j b s e gate' shows' (sent_by out'.acks.pass) (seen out'.acks.last_pass) left cause) (record {
      groups = at.groups;
      rest = at.took;
      given = resumed_is_given out.job.now (last_edge out.job.now) out.index gate' shows' taking' at.groups at.took taken;
      snapshots = subst (AreSnapshots out.job.now out.index (from_at out).number (from_at out).table at.groups) (sym unsent) at.counted.snapshots;
      takes_are = subst (λ l. RunsTake out.job.now (last_edge out.job.now) out.index l at.took) (sym are) takes;
      waited = stays (base_of (start_at out)) (length (sent_by out'.acks.pass)) (seen out.acks.last_pass) (seen out'.acks.last_pass) same.acks.later
          (subst (λ n. HasWaited (base_of (start_at out)) n (seen out.acks.last_pass)) (sym (ap length unsent ∙ many)) at.counted.waited);
      cause_is = broke_end (base_of (start_at out)) out.every (seen out'.acks.last_pass) gate' at.groups at.took out' cause breaks;
    })
