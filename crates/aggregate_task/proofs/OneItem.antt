-- An aggregate task takes and counts.
use Rattle.std.proofs.Common.{◌≡◌, ◌≢◌, ◌⊎◌, ℕ, zero, suc, Bool, Result, true, false, List, [], ◌∷◌, ◌++◌, length, refl, sym, ap, subst, ◌∙◌, inl, inr, append_assoc, Ok, Err}
use Rattle.std.specs.Prelude.{All, slice_get, unwrap_or}
use Rattle.std.specs.List.{AllByRecursion}
use Rattle.std.specs.FinMap.{empty}
use Rattle.plain_machine.proofs.KeySums.{entries-empty}
use Rattle.std.proofs.lemmas.List.Elements.{All-nil, recursion_from_All}
use Rattle.turn_cell.specs.Passes.{seen}
use Rattle.flow_defs.specs.Items.{Items}
use Rattle.flow_defs.specs.declared.cause.Cause.{Cause}
use Rattle.flow_defs.specs.declared.cause.Cause.TheVariants as causes
use Rattle.flow_defs.specs.declared.cause.PeerFault.TheVariants as peers
use Rattle.flow_defs.specs.Jobs.{last_edge}
use Rattle.flow_defs.specs.Records.{IsShort}
use Rattle.flow_defs.specs.Tables.{Values, add}
use Rattle.plain_machine.specs.Images.{HasShortKeys}
use Rattle.channel_cut.specs.Cuts.{Cut}
use Rattle.gate_account.specs.Accounts.{Account}
use Rattle.snapshot_channel.specs.Passes.{sent_by}
use Rattle.task_output.specs.Acking.{base_of}
use Rattle.task_output.specs.Waiting.{LastIs, HasWaited}
use Rattle.task_taking.specs.declared.taking.Taken.{Taken}
use Rattle.task_taking.specs.declared.taking.Taken.TheVariants as taken
use Rattle.task_taking.specs.Takings.{Taking, HasTaken, HadTaken, IsInStep}
use Rattle.task_taking.specs.Steps.{TookNext, TakingGoesOn, IsTakerCause}
use Rattle.task_taking.specs.Endings.{IsTakerEnd}
use Rattle.task_taking.proofs.Groups.{had_taken}
use Rattle.task_taking.proofs.Giving.{barrier_is_given, barrier_is_told}
use Rattle.aggregate_task.specs.declared.checkpoint.AggregateOutput.{AggregateOutput}
use Rattle.aggregate_task.specs.Snapshots.{all_taken, table_with}
use Rattle.aggregate_task.specs.Acknowledging.{IsAcking, IsCountUnderWay, IsAtCheckpoint, start_at, from_at}
use Rattle.aggregate_task.specs.declared.checkpoint.Ending.{Ending}
use Rattle.aggregate_task.specs.Aggregates.{HasAccount}
use Rattle.checkpoint_laws.proofs.Keys.{added_keys}
use Rattle.aggregate_task.proofs.Snapshots.{as_many, with_more}

no_keys : HasShortKeys empty
no_keys = subst (All (λ (row : List ℕ × ℕ). IsShort row.0)) (sym entries-empty) (All-nil (λ (row : List ℕ × ℕ). IsShort row.0))

some_behind : {X : Type 0} (xs : List X) (x : X) → xs ++ x ∷ [] ≢ []
some_behind [] x = λ e. cc
some_behind (y ∷ xs) x = λ e. cc

-- the keys of each table of a start are short
short_at : (tables : List Values) (b : ℕ) → AllByRecursion HasShortKeys tables → HasShortKeys (unwrap_or (slice_get tables b) empty)
short_at [] b all = no_keys
short_at (t ∷ tables) zero all = all.0
short_at (t ∷ tables) (suc b) all = short_at tables b all.1

-- it begins
pub begins : (gate : Account) (shows : ℕ → Cut → Type 0) (taking : Taking) (out : AggregateOutput) (counts : Values) → IsAcking out → counts ≡ (from_at out).table → sent_by out.acks.pass ≡ [] → HasTaken out.job.now (last_edge out.job.now) out.index gate shows taking [] [] → IsInStep gate taking → IsCountUnderWay gate shows taking counts out false
begins gate shows taking out counts own from unsent taken in_step = record {
  groups = [];
  took = [];
  taken = taken;
  in_step = in_step;
  counted = record {
    counted = from;
    keys = subst HasShortKeys (sym from) (short_at (start_at out).tables.items out.index (recursion_from_All HasShortKeys (start_at out).tables.items own.start.keys));
    snapshots = rw unsent tt;
    waited = tt;
  };
  last_is = refl;
  none_behind = λ is. absurd (cc);
}

-- The gate answered so, and the task took it behind what it had counted.
pub record Gave (gate gate' : Account) (shows shows' : ℕ → Cut → Type 0) (taking taking' : Taking) (counts : Values) (out : AggregateOutput) (last : Bool) (answer : Result Taken Cause) : Type 0 where
  pub way : IsCountUnderWay gate shows taking counts out last
  pub took : TookNext out.job.now (last_edge out.job.now) out.index gate' shows' taking' way.groups way.took answer
  pub goes_on : TakingGoesOn gate' taking taking' answer

-- ---- it ends

-- it has seen the image before the last snapshot that it sent
waited_so : (gate : Account) (shows : ℕ → Cut → Type 0) (taking : Taking) (counts : Values) (out : AggregateOutput) (last : Bool) (way : IsCountUnderWay gate shows taking counts out last) → HasWaited (base_of (start_at out)) (length (sent_by out.acks.pass)) (seen out.acks.last_pass)
waited_so gate shows taking counts out last way =
    subst (λ n. HasWaited (base_of (start_at out)) n (seen out.acks.last_pass)) (sym (as_many out.job.now out.index (from_at out).number (from_at out).table way.groups (sent_by out.acks.pass) way.counted.snapshots)) way.counted.waited

module _ {gate : Account} (gate' : Account) {shows : ℕ → Cut → Type 0} (shows' : ℕ → Cut → Type 0) {taking : Taking} (taking' : Taking) {counts : Values} {out : AggregateOutput} {last : Bool} (way : IsCountUnderWay gate shows taking counts out last) where
  ended : (took : List (ℕ × List ℕ)) (end : Ending) → end.takes.items ≡ taking'.runs
      → HadTaken out.job.now (last_edge out.job.now) out.index gate' shows' taking' way.groups took → IsTakerEnd (base_of (start_at out)) out.every (seen out.acks.last_pass) gate' way.groups took end.cause
      → HasAccount gate' shows' out end
  ended took end are has cause_is = record {
    groups = way.groups;
    rest = took;
    given = has.given;
    snapshots = way.counted.snapshots;
    takes_are = rw are has.takes;
    waited = waited_so gate shows taking counts out last way;
    cause_is = cause_is;
  }

  taker_end : (cause : Cause) → IsTakerCause gate' cause → cause ≢ causes.Done → IsTakerEnd (base_of (start_at out)) out.every (seen out.acks.last_pass) gate' way.groups way.took cause
  taker_end causes.Done is other = absurd (other refl)
  taker_end causes.Stopped is other = tt
  taker_end (causes.Peer peers.Left) is other = is
  taker_end (causes.Peer peers.Barrier) is other = inl is
  taker_end causes.Memory is other = tt
  taker_end cause is other = absurd is

module _ {gate gate' : Account} {shows shows' : ℕ → Cut → Type 0} {taking taking' : Taking} {counts : Values} {out : AggregateOutput} {last : Bool} where
  -- it took a record
  pub line_ended : {line : Items ℕ} → Gave gate gate' shows shows' taking taking' counts out last (Ok (taken.Line line)) → (end : Ending) → end.takes.items ≡ taking'.runs
      → (end.cause ≡ causes.Memory) ⊎ ((last ≡ true) × (end.cause ≡ causes.Peer peers.Barrier)) → HasAccount gate' shows' out end
  line_ended {line} gave end are why =
      let way = gave.way in
      let took = way.took ++ (gave.took.1.0, line.items) ∷ [] in
      ended gate' shows' taking' way took end are (had_taken _ _ _ gate' shows' taking' way.groups took gave.took.1.1) (elim why [
        | inl memory ↦ subst (IsTakerEnd (base_of (start_at out)) out.every (seen out.acks.last_pass) gate' way.groups took) (sym memory) tt
        | inr behind ↦ subst (IsTakerEnd (base_of (start_at out)) out.every (seen out.acks.last_pass) gate' way.groups took) (sym behind.1)
            (inr (inr (subst (LastIs (base_of (start_at out)) out.every (seen out.acks.last_pass) (length way.groups)) behind.0 way.last_is, inl (some_behind way.took (gave.took.1.0, line.items)))))
      ])

  -- its channels ended
  pub all_ended : Gave gate gate' shows shows' taking taking' counts out last (Ok taken.AllEnded) → (end : Ending) → end.takes.items ≡ taking'.runs
      → ((last ≡ true) × (end.cause ≡ causes.Done)) ⊎ ((last ≡ false) × (end.cause ≡ causes.Peer peers.Barrier)) → HasAccount gate' shows' out end
  all_ended gave end are why =
      let way = gave.way in
      ended gate' shows' taking' way way.took end are (had_taken _ _ _ gate' shows' taking' way.groups way.took gave.took.0) (elim why [
        | inl done ↦ subst (IsTakerEnd (base_of (start_at out)) out.every (seen out.acks.last_pass) gate' way.groups way.took) (sym done.1)
            (gave.took.1, way.none_behind done.0, subst (LastIs (base_of (start_at out)) out.every (seen out.acks.last_pass) (length way.groups)) done.0 way.last_is)
        | inr early ↦ subst (IsTakerEnd (base_of (start_at out)) out.every (seen out.acks.last_pass) gate' way.groups way.took) (sym early.1)
            (inr (inl (subst (LastIs (base_of (start_at out)) out.every (seen out.acks.last_pass) (length way.groups)) early.0 way.last_is, gave.took.1)))
      ])

  -- the gate gave nothing more
  pub gate_ended : {cause : Cause} → Gave gate gate' shows shows' taking taking' counts out last (Err cause) → (end : Ending) → end.takes.items ≡ taking'.runs → end.cause ≡ cause → HasAccount gate' shows' out end
  gate_ended {cause} gave end are same =
      let way = gave.way in
      ended gate' shows' taking' way way.took end are gave.took.0 (subst (IsTakerEnd (base_of (start_at out)) out.every (seen out.acks.last_pass) gate' way.groups way.took) (sym same) (taker_end gate' shows' taking' way cause gave.took.1 gave.took.2))

  -- it came to the barriers of a checkpoint behind the last one
  pub barrier_ended : {k : ℕ} → Gave gate gate' shows shows' taking taking' counts out last (Ok (taken.Checkpoint k)) → (end : Ending) → end.takes.items ≡ taking'.runs
      → last ≡ true → end.cause ≡ causes.Peer peers.Barrier → HasAccount gate' shows' out end
  barrier_ended gave end are is cause_is =
      let way = gave.way in
      let at = gave.took.0 in
      record {
        groups = way.groups;
        rest = way.took;
        given = barrier_is_given out.job.now (last_edge out.job.now) out.index gate' shows' taking' way.groups way.took at;
        snapshots = way.counted.snapshots;
        takes_are = rw are at.takes;
        waited = waited_so gate shows taking counts out last way;
        cause_is = subst (IsTakerEnd (base_of (start_at out)) out.every (seen out.acks.last_pass) gate' way.groups way.took) (sym cause_is) (inr (inr (
          subst (LastIs (base_of (start_at out)) out.every (seen out.acks.last_pass) (length way.groups)) is way.last_is,
          inr (barrier_is_told out.job.now (last_edge out.job.now) out.index gate' shows' taking' way.groups way.took at),
        )));
      }

  -- ---- it goes on

  pub counts_line : {line : Items ℕ} → Gave gate gate' shows shows' taking taking' counts out last (Ok (taken.Line line)) → (counts' : Values)
      → last ≡ false → counts' ≡ add out.job.now.agg counts line.items → IsCountUnderWay gate' shows' taking' counts' out last
  counts_line {line} gave counts' going counted =
      let way = gave.way in
      record {
        groups = way.groups;
        took = way.took ++ (gave.took.1.0, line.items) ∷ [];
        taken = gave.took.1.1;
        in_step = gave.goes_on.0;
        counted = record {
          counted = counted ∙ ap (λ t. add out.job.now.agg t line.items) way.counted.counted ∙ sym (with_more out.job.now (from_at out).table (all_taken way.groups ++ way.took) ((gave.took.1.0, line.items) ∷ []))
              ∙ ap (table_with out.job.now (from_at out).table) (append_assoc (all_taken way.groups) way.took ((gave.took.1.0, line.items) ∷ []));
          keys = subst HasShortKeys (sym counted) (added_keys out.job.now.agg counts line.items way.counted.keys gave.took.0);
          snapshots = way.counted.snapshots;
          waited = way.counted.waited;
        };
        last_is = way.last_is;
        none_behind = λ is. absurd (cc);
      }

  pub comes_to : {k : ℕ} → Gave gate gate' shows shows' taking taking' counts out last (Ok (taken.Checkpoint k)) → last ≡ false → IsAtCheckpoint gate' shows' taking' counts out
  comes_to gave going = record {
    groups = gave.way.groups;
    took = gave.way.took;
    at_barrier = gave.took.0;
    blocked = gave.goes_on.0;
    counted = gave.way.counted;
    not_last = subst (LastIs (base_of (start_at out)) out.every (seen out.acks.last_pass) (length gave.way.groups)) going gave.way.last_is;
  }
