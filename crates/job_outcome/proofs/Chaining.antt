-- The images that were stored in a run are a chain with nothing in flight.
use Rattle.std.proofs.Common.{◌≡◌, ℕ, zero, suc, ◌<◌, ◌≤◌, List, [], ◌∷◌, ◌++◌, length, Option, ap, subst, ◌∙◌, arith, inl, inr}
use Rattle.std.specs.Prelude.{IfSome, None, slice_index_or}
use Rattle.std.specs.List.{AllByRecursion, last_or}
use Rattle.std.proofs.lemmas.Bool.{cases_lt}
use Rattle.turn_cell.specs.Passes.{mine, seen}
use Rattle.flow_defs.specs.Lines.{lines}
use Rattle.flow_defs.specs.declared.cause.Cause.{Cause}
use Rattle.flow_defs.specs.declared.image.Image.{Image}
use Rattle.flow_defs.specs.declared.image.Saved.{Saved}
use Rattle.flow_defs.specs.declared.image.Snapshot.{Snapshot}
use Rattle.flow_defs.specs.declared.job.Job.{Job}
use Rattle.flow_defs.specs.Jobs.{last_edge, tasks}
use Rattle.plain_machine.specs.Chains.{Chain}
use Rattle.plain_machine.proofs.Channels.{ends_of}
use Rattle.plain_machine.specs.Spelling.{CanSpell}
use Rattle.outside.specs.declared.stop.StopEntry.{StopEntry}
use Rattle.job_start.specs.declared.start.Start.{Start}
use Rattle.checkpoint_laws.specs.Chapters.{task_at}
use Rattle.checkpoint_laws.specs.Collecting.{Collected, piece}
use Rattle.checkpoint_laws.specs.Runs.{IsInterval}
use Rattle.snapshot_channel.specs.Passes.{received_by}
use Rattle.snapshot_channel.specs.Snapshots.{IsBeginning, snapshots_of}
use Rattle.collector.specs.Faults.{IsNothingSaved}
use Rattle.collecting_worker.specs.declared.world.CollectEnd.{CollectEnd}
use Rattle.collecting_worker.specs.Accounts.{CollectAccount}
use Rattle.collecting_worker.specs.Images.{IsMadeFrom, IsNext}
use Rattle.collecting_worker.specs.Laws.{AreCollected, StoredAreCollected}
use Rattle.collecting_worker.proofs.Going.{all_more, linked_more}
use Rattle.collecting_worker.proofs.Told.{made_are_collected, sent_it}
use Rattle.job_chain.specs.Ran.{TasksRan, JobRan, RanIsChain, HasNoneInFlight}
use Rattle.job_chain.proofs.Tasks.{contained, source_none, stage_none, aggregate_none}
use Rattle.job_workers.specs.declared.collecting.CollectTask.{CollectTask}
use Rattle.job_workers.specs.declared.place.Place.{Place}
use Rattle.job_workers.specs.declared.place.Place.TheVariants.{Ended}
use Rattle.job_ends.specs.Ended.{snapshots_at}
use Rattle.job_outcome.specs.Outcomes.{AreTold}
use Rattle.job_outcome.specs.Storing.{StoredFrom, TooLargeFrom}
use Rattle.job_outcome.specs.Theorems.{HaveRun, Run, start_of, bases_of, AreSettledWith, StoredImagesAreChain, KeeperGotImages}
use Rattle.job_outcome.specs.Words.{WorldWords}
use Rattle.job_outcome.proofs.Jobs.{tasks_ran, source_did, stage_did, aggregate_did}

-- ---- nothing is in flight

-- What holds at each place of a list holds of all its elements.
all_by_places : {X : Type 0} (P : X → Type 0) (xs : List X) (d : X) →
    ((k : ℕ) → k < length xs → P (slice_index_or xs k d)) → AllByRecursion P xs
all_by_places P [] d at = tt
all_by_places P (x ∷ xs) d at = (at 0 (omega arith), all_by_places P xs d (λ k low. at (suc k) (omega (arith, low))))

none_of_both : (xs ys : List ℕ) → xs ≡ [] → ys ≡ [] → xs ++ ys ≡ []
none_of_both xs ys e f = ap (λ (l : List ℕ). l ++ ys) e ∙ f

-- A snapshot with nothing in flight.
abbrev NoneIn : Snapshot → Type 0
NoneIn x = (x.saved_in.items ≡ []) × (x.saved_out.items ≡ [])

module _ {all : TasksRan} {base : Image} {images : List Image} (ran : JobRan all base images) where
  open all use {job, every, sent}

  -- Each task sent snapshots with nothing in flight,
  none_behind : (e b : ℕ) → e ≤ last_edge job → b < tasks job (suc e) → AllByRecursion NoneIn (sent (suc e) b)
  none_behind e b low inside = elim (cases_lt e (last_edge job)) [
    | inl before ↦
        let did = ran.stages e b before inside in
        stage_none job e b _ _ did.account.groups (sent (suc e) b) did.account.snapshots
    | inr behind ↦
        let is : last_edge job ≡ e = omega (arith, low, behind) in
        subst (λ (k : ℕ). b < tasks job (suc k) → AllByRecursion NoneIn (sent (suc k) b)) is
        (λ within. let did = ran.aggregates b within in
        aggregate_none job b _ _ did.account.groups (sent (suc (last_edge job)) b) did.account.snapshots) inside
  ]

  none_sent : (i a : ℕ) → i ≤ suc (last_edge job) → a < tasks job i → AllByRecursion NoneIn (sent i a)
  none_sent zero a low inside =
      let did = ran.sources a inside in
      source_none a every _ _ _ did.account.groups (sent 0 a) did.account.snapshots
  none_sent (suc e) b low inside = none_behind e b (omega (arith, low)) inside

  -- and of such each image was made.
  none_acknowledged : (k i a : ℕ) → k < length images → i ≤ suc (last_edge job) → a < tasks job i → NoneIn (ran.snapshot k i a)
  none_acknowledged k i a low stage inside =
      contained NoneIn (sent i a) (ran.snapshot k i a) (none_sent i a stage inside) (ran.collected.acknowledged k i a low stage inside).0

  none_at : (k : ℕ) → k < length images → HasNoneInFlight job (slice_index_or images k base)
  none_at k low = λ e a b channel.
      let ends = ends_of job e a b channel in
      let made = ran.collected.made k low in
      let came = none_acknowledged k (suc e) b low (omega (arith, ends.edge)) ends.receiver in
      let went = none_acknowledged k e a low (omega (arith, ends.edge)) ends.sender in
      none_of_both _ _
      (made.saved_in e a b channel ∙ ap (λ (l : List Saved). piece e a b l) came.0)
      (made.saved_out e a b channel ∙ ap (λ (l : List Saved). piece e a b l) went.1)

  still : AllByRecursion (HasNoneInFlight job) images
  still = all_by_places (HasNoneInFlight job) images base none_at

-- ---- a run

-- An interval has at least one line.
pub interval_of : (every : Option ℕ) → IfSome every (λ (n : ℕ). 1 ≤ n) → IsInterval every
interval_of every h n is = subst (λ (o : Option ℕ). IfSome o (λ (m : ℕ). 1 ≤ m)) is h

pub same_end : (place : Place CollectTask CollectEnd) (x y : CollectEnd) → place ≡ Ended x → place ≡ Ended y → x ≡ y
same_end place x y e f = cc

module _ {S O I L N : Type 0} {words : WorldWords S O I L N} {run : Run S O I} (ran : HaveRun words run) where
  open run use {job, every, snapshots, inputs, before, after, fell, rose, rows, collected}

  module _ (end : CollectEnd) (is : collected ≡ Ended end) where
    -- What the worker that collected tells of itself, of this job and interval, by the faults that it counted, what it met and its cause.
    abbrev TellsOf : Job → Start → Option ℕ → CollectEnd → ℕ → ℕ → List (ℕ × StopEntry) → Cause → Type 0
    TellsOf j s n x = CollectAccount j s n (received_by x.collecting) before after (mine x.last_pass) x.last

    -- Its account.
    abbrev AccountOf : Job → Start → Option ℕ → CollectEnd → Type 0
    AccountOf j s n x = TellsOf j s n x fell rose (seen x.stop_pass) x.cause

    pub account_of : AccountOf job (start_of snapshots) every end
    account_of =
        subst (λ (x : CollectEnd). AccountOf job (start_of snapshots) every x) (same_end collected ran.end end ran.end_is is)
        (subst (λ (s : Start). AccountOf job s every ran.end) ran.task_is.3
        (subst (λ (n : Option ℕ). AccountOf job ran.task.start.now n ran.end) ran.task_is.1
        (subst (λ (j : Job). AccountOf j ran.task.start.now ran.task.every ran.end) ran.task_is.0
        ran.collector.account)))

    module _ (bytes : ℕ → List ℕ) (told : AreTold words.left inputs bytes) (settled : AreSettledWith job rows end) where
      -- The snapshots of each task that were received are a beginning of those that it sent.
      beginnings : (i a : ℕ) → i ≤ suc (last_edge job) → a < tasks job i → IsBeginning (snapshots_of (task_at i a) (received_by end.collecting)) (snapshots_at rows i a)
      beginnings i a stage low = settled.received i a (omega (arith, stage)) low

      -- From here the run may go on.
      abbrev Bases : Image → Type 0
      Bases = bases_of run bytes

      -- All workers ran so, where these images are collected behind one.
      ran_behind : (base : Image) (images : List Image) →
          ((snapshot : ℕ → ℕ → ℕ → Snapshot) × AreCollected job every base images (snapshots_at rows) snapshot) → JobRan (tasks_ran run bytes) base images
      ran_behind base images c = record {
        sources = λ a low. (source_did ran bytes told a low).0;
        stages = stage_did ran bytes;
        aggregates = aggregate_did ran bytes;
        channels = λ e a b channel. settled.edges e (ends_of job e a b channel).edge a b channel;
        snapshot = c.0;
        collected = c.1;
      }

      -- So the images are a chain.
      chain_of : RanIsChain → (base : Image) (images : List Image) → Bases base → JobRan (tasks_ran run bytes) base images → Chain job (λ a. lines (bytes a)) every base images
      chain_of chains base images may did = chains (tasks_ran run bytes) base images (interval_of every ran.interval) may did

      module _ (collects : StoredAreCollected) where
        -- What all workers did.
        pub job_ran : (base : Image) → Bases base → JobRan (tasks_ran run bytes) base account_of.images
        job_ran base may =
            let collected_by = collects job (start_of snapshots) every base (received_by end.collecting) before after in
            let collected_are = collected_by (mine end.last_pass) account_of.images (snapshots_at rows) may.is_base account_of.stored beginnings in
            ran_behind base account_of.images collected_are

        has_stored : RanIsChain → (base : Image) → Bases base → StoredFrom Bases job (λ a. lines (bytes a)) every before after
        has_stored chains base may = record {
          images = account_of.images;
          kept = account_of.stored.kept;
          chain = λ first first_may. chain_of chains first account_of.images first_may (job_ran first first_may);
          still = still (job_ran base may);
          spelled = account_of.stored.spelled;
          readable = account_of.stored.readable;
        }

        -- The image that is next behind those that were stored is of the chain with them.
        module _ (image : Image) (next : IsNext job (start_of snapshots) every (received_by end.collecting) account_of.images image) where
          none_of_task : (base : Image) → Bases base → (i a : ℕ) → i ≤ suc (last_edge job) → a < tasks job i → NoneIn (next.made.snapshot i a)
          none_of_task base may i a stage low =
              contained NoneIn (snapshots_at rows i a) (next.made.snapshot i a) (none_sent (job_ran base may) i a stage low)
              (sent_it (received_by end.collecting) (snapshots_at rows i a) i a image.number (next.made.snapshot i a) (beginnings i a stage low) (next.made.each i a stage low))

          nothing_saved : (base : Image) → Bases base → IsNothingSaved job image
          nothing_saved base may = λ e a b channel.
              let ends = ends_of job e a b channel in
              let made = next.made.made in
              let came = none_of_task base may (suc e) b (omega (arith, ends.edge)) ends.receiver in
              let went = none_of_task base may e a (omega (arith, ends.edge)) ends.sender in
              none_of_both _ _
              (made.saved_in e a b channel ∙ ap (λ (l : List Saved). piece e a b l) came.0)
              (made.saved_out e a b channel ∙ ap (λ (l : List Saved). piece e a b l) went.1)

          -- All of them.
          abbrev with_next : List Image
          with_next = account_of.images ++ image ∷ []

          next_collected : (base : Image) → Bases base →
              (snapshot : ℕ → ℕ → ℕ → Snapshot) × AreCollected job every base with_next (snapshots_at rows) snapshot
          next_collected base may =
              let collected_are = made_are_collected job every base (received_by end.collecting) with_next (snapshots_at rows) in
              collected_are
              (all_more (IsMadeFrom job (received_by end.collecting)) account_of.images image account_of.stored.made next.made)
              (linked_more (Collected job every) base image account_of.images (account_of.stored.collected base may.is_base)
              (next.collected (λ final. nothing_saved base may) base may.is_base)) beginnings

          pub too_large : RanIsChain → (CanSpell image → ⊥) → TooLargeFrom Bases job (λ a. lines (bytes a)) every before after
          too_large chains large = record {
            images = account_of.images;
            kept = account_of.stored.kept;
            image = image;
            chain = λ base may. chain_of chains base with_next may (ran_behind base with_next (next_collected base may));
            large = large;
          }

  -- The images that were stored, of which the worker that collected left the last one.
  pub stored_by : StoredAreCollected → RanIsChain → (end : CollectEnd) (bytes : ℕ → List ℕ) (base : Image) → bases_of run bytes base → collected ≡ Ended end →
      AreTold words.left inputs bytes → AreSettledWith job rows end →
      (stored : StoredFrom (bases_of run bytes) job (λ a. lines (bytes a)) every before after) × (end.last ≡ last_or None stored.images)
  unfolding has_stored
  stored_by collects chains end bytes base may is told settled =
      let stored = has_stored end is bytes told settled in
      (stored collects chains base may, (account_of end is).last_is)

-- ---- the laws

module _ {S O I L N : Type 0} (words : WorldWords S O I L N) where
  pub stored_images_are_chain : StoredAreCollected → RanIsChain → StoredImagesAreChain words
  stored_images_are_chain collects chains run end bytes base ran = stored_by ran collects chains end bytes base

  pub keeper_got_images : KeeperGotImages words
  keeper_got_images run ran = ((ran.collector.account.images, ran.collector.account.stored.kept), ran.collector.account.never_falls)
