-- Where the workers are done, the last image has in its tables what the image is worth from which they went on.
use Rattle.std.proofs.Common.{◌≡◌, ℕ, ◌<◌, ◌≤◌, Bool, true, false, List, [], ◌∷◌, ◌++◌, length, Option, Some, None, refl, sym, ap, subst, ◌∙◌, arith, inl, inr}
use Rattle.std.specs.Prelude.{IsSome, IsSomeAnd, drop, slice_get, slice_index, unwrap_or}
use Rattle.std.specs.List.{AllByRecursion, last_or}
use Rattle.std.proofs.lemmas.List.{append-nil}
use Rattle.std.proofs.lemmas.Option.{same_Some}
use Rattle.flow_defs.specs.Lines.{lines}
use Rattle.flow_defs.specs.Records.{IsShort}
use Rattle.flow_defs.specs.Tables.{join}
use Rattle.flow_defs.specs.declared.cause.Cause.TheVariants.{Done}
use Rattle.flow_defs.specs.declared.image.Image.{Image}
use Rattle.flow_defs.specs.Jobs.{tasks}
use Rattle.plain_machine.specs.Chains.{last_of}
use Rattle.plain_machine.specs.Images.{cut_of}
use Rattle.plain_machine.specs.Worth.{worth}
use Rattle.job_start.specs.Starts.{was_ended}
use Rattle.task_output.specs.Outputs.{all_of}
use Rattle.collecting_worker.specs.declared.world.CollectEnd.{CollectEnd}
use Rattle.collecting_worker.specs.Laws.{StoredAreCollected}
use Rattle.job_plan.specs.Limits.{HasLongLine, source_max}
use Rattle.job_chain.specs.Ran.{RanEndsInWorth}
use Rattle.job_workers.specs.declared.collecting.CollectTask.{CollectTask}
use Rattle.job_workers.specs.declared.place.Place.{Place}
use Rattle.job_workers.specs.declared.place.Place.TheVariants.{Ended}
use Rattle.job_ends.specs.Ended.{snapshots_at}
use Rattle.job_outcome.specs.Outcomes.{AllDone, AreTold, AreWithinFrom, StandsAt, cause_of_collector}
use Rattle.snapshot_channel.specs.Snapshots.{has_ended}
use Rattle.job_outcome.specs.Theorems.{HaveRun, Run, start_of, bases_of, AreSettledWith, DoneWorkersHaveWorth, DoneCollectorHasLast}
use Rattle.job_outcome.specs.Words.{WorldWords}
use Rattle.job_outcome.proofs.Running.{source_at}
use Rattle.job_outcome.proofs.Jobs.{tasks_ran, source_did}
use Rattle.job_outcome.proofs.Chaining.{account_of, interval_of, job_ran}

-- ---- lines and images

-- No line is too long where all are short.
none_long : (ls : List (List ℕ)) → AllByRecursion IsShort ls → HasLongLine ls → ⊥
none_long [] short long = long
none_long (l ∷ ls) short (inl first) = let low = short.0 in omega (arith, low, first)
none_long (l ∷ ls) short (inr later) = none_long ls short.1 later

-- The last one of some images, whatever is before the first.
last_from : (base image : Image) (images : List Image) → last_or (Some base) images ≡ Some image → last_of base images ≡ image
last_from base image [] is = same_Some base image is
last_from base image (x ∷ images) is = last_from x image images is

last_is : (base image : Image) (images : List Image) → last_or None images ≡ Some image → last_of base images ≡ image
last_is base image [] is = absurd (cc)
last_is base image (x ∷ images) is = last_from x image images is

some_with : {X : Type 0} (P : X → Type 0) (o : Option X) → IsSomeAnd o P → IsSome o
some_with P None h = absurd h
some_with P (Some x) h = refl

-- ---- a run in which the worker that collects is done

module _ {S O I L N : Type 0} {words : WorldWords S O I L N} {run : Run S O I} (ran : HaveRun words run) where
  open run use {job, every, snapshots, inputs, rows, loops, collected}

  -- Where all are done, no source is over a limit from where it went on.
  source_within : (bytes : ℕ → List ℕ) (base : Image) → AreTold words.left inputs bytes → bases_of run bytes base → AllDone rows loops collected →
      (a : ℕ) → a < tasks job 0 → unwrap_or (slice_get base.ended.items a) false ≡ false →
      (length (bytes a) ≤ source_max) × AllByRecursion IsShort (drop (slice_index base.offsets.items a) (lines (bytes a)))
  source_within bytes base told may done a low unended =
      let s = source_at ran a low in
      let did = source_did ran bytes told a low in
      let account = did.0.account in
      let stands : StandsAt rows 0 a (Ended s.end.left) = record { row = s.end.row; row_is = s.end.row_is; place_is = s.end.left_is } in
      let is_done = did.1 ∙ same_Some s.end.left.cause Done (done.by_tasks 0 a (Ended s.end.left) stands) in
      let at = may.is_base.at in
      let begins : was_ended (start_of snapshots) a ≡ false = ap (λ (xs : List Bool). unwrap_or (slice_get xs a) false) at.ended ∙ unended in
      let ended = (account.done is_done).0 in
      let none = account.at_end ended in
      let whole = account.whole (subst (λ (b : Bool). has_ended b (snapshots_at rows 0 a) ≡ true) begins ended) begins in
      let all : all_of account.groups ++ (account.rest ++ account.begun) ≡ drop (slice_index base.offsets.items a) (lines (bytes a)) =
      ap (λ (l : List (List ℕ)). all_of account.groups ++ l) none ∙ append-nil (all_of account.groups) ∙ sym whole
      ∙ ap (λ (xs : List ℕ). drop (slice_index xs a) (lines (bytes a))) at.offsets in
      (account.within is_done begins, subst (λ (l : List (List ℕ)). AllByRecursion IsShort l) all account.short)

  within : (bytes : ℕ → List ℕ) (base : Image) → AreTold words.left inputs bytes → bases_of run bytes base → AllDone rows loops collected → AreWithinFrom job base bytes
  within bytes base told may done a low unended =
      let both = source_within bytes base told may done a low unended in
      (both.0, none_long (drop (slice_index base.offsets.items a) (lines (bytes a))) both.1)

  -- The worker that collects is done where all are.
  collector_done : (end : CollectEnd) → collected ≡ Ended end → AllDone rows loops collected → end.cause ≡ Done
  collector_done end is done =
      same_Some end.cause Done (ap (λ (place : Place CollectTask CollectEnd). cause_of_collector place) (sym is) ∙ done.by_collector)

  module _ (end : CollectEnd) (is : collected ≡ Ended end) (is_done : end.cause ≡ Done) where
    pub has_last : IsSome end.last
    has_last = some_with (λ (image : Image). image.final_one ≡ true) end.last ((account_of ran end is).done is_done)

    module _ (image : Image) (last : end.last ≡ Some image) where
      final : image.final_one ≡ true
      final = subst (λ (o : Option Image). IsSomeAnd o (λ (x : Image). x.final_one ≡ true)) last ((account_of ran end is).done is_done)

      last_stored : (base : Image) → last_of base (account_of ran end is).images ≡ image
      last_stored base = last_is base image (account_of ran end is).images (sym (account_of ran end is).last_is ∙ last)

  module _ (collects : StoredAreCollected) (worths : RanEndsInWorth) where
    worth_is : {end : CollectEnd} {image : Image} (is : collected ≡ Ended end) → end.cause ≡ Done → end.last ≡ Some image → (bytes : ℕ → List ℕ) (base : Image) →
        AreTold words.left inputs bytes → bases_of run bytes base → AreSettledWith job rows end → join job.agg image.tables.items ≡ worth job (λ a. lines (bytes a)) (cut_of job base)
    worth_is {end = end} {image = image} is is_done last bytes base told may settled =
        let same = last_stored end is is_done image last base in
        let did_behind = job_ran ran end is bytes told settled collects in
        let did = did_behind base may in
        let worth_of = worths (tasks_ran run bytes) base (account_of ran end is).images ran.is_job (interval_of every ran.interval) may did in
        subst (λ (x : Image). join job.agg x.tables.items ≡ worth job (λ a. lines (bytes a)) (cut_of job base)) same
        (worth_of (subst (λ (x : Image). x.final_one ≡ true) (sym same) (final end is is_done image last)))

    pub worth_by : (end : CollectEnd) (bytes : ℕ → List ℕ) (base image : Image) → bases_of run bytes base → collected ≡ Ended end →
        end.last ≡ Some image → AllDone rows loops collected → AreTold words.left inputs bytes → AreSettledWith job rows end →
        (join job.agg image.tables.items ≡ worth job (λ a. lines (bytes a)) (cut_of job base)) × AreWithinFrom job base bytes
    worth_by end bytes base image may is last done told settled =
        (worth_is is (collector_done end is done) last bytes base told may settled, within bytes base told may done)

-- ---- the laws

module _ {S O I L N : Type 0} (words : WorldWords S O I L N) where
  pub done_workers_have_worth : StoredAreCollected → RanEndsInWorth → DoneWorkersHaveWorth words
  done_workers_have_worth collects worths run end bytes base image ran = worth_by ran collects worths end bytes base image

  pub done_collector_has_last : DoneCollectorHasLast words
  done_collector_has_last run end ran is done = has_last ran end is done
