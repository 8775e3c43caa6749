-- A run is told by its workers.
use Rattle.std.specs.Prelude.{slice_range, slice_index, slice_get, unwrap_or}
use Rattle.std.specs.FinMap.{empty}
use Rattle.std.proofs.Common.{◌≡◌, ◌+◌, ℕ, zero, suc, ◌<◌, ◌≤◌, List, [], ◌∷◌, ◌++◌, length, take, flat_map, Option, refl, sym, ap, subst, ◌∙◌, append-nil, arith}
use Rattle.std.specs.List.{AllByRecursion, slice_index_or}
use Rattle.std.proofs.lemmas.List.Concat.{flat_map-append}
use Rattle.std.proofs.lemmas.List.Elements.{All-from_recursion}
use Rattle.turn_cell.specs.History.{by}
use Rattle.flow_defs.specs.declared.job.Job.{Job}
use Rattle.flow_defs.specs.declared.image.Snapshot.{Snapshot}
use Rattle.flow_defs.specs.declared.image.Image.{Image}
use Rattle.flow_defs.specs.declared.parcel.Parcel.{Parcel}
use Rattle.flow_defs.specs.Jobs.{last_edge, tasks}
use Rattle.flow_defs.specs.Records.{encoded, all_encoded}
use Rattle.flow_defs.specs.Tables.{add_all}
use Rattle.plain_machine.specs.Places.{sender_place}
use Rattle.plain_machine.specs.Images.{saved, AreSpans, Fits}
use Rattle.plain_machine.specs.Histories.{of_sender, records}
use Rattle.plain_machine.proofs.Channels.{ends_of}
use Rattle.checkpoint_laws.specs.Puts.{stretches}
use Rattle.checkpoint_laws.specs.Chapters.{Chapter, Linked, OffsetGoesOn, Emits, applied, Step, shown, opening}
use Rattle.checkpoint_laws.specs.Collecting.{piece}
use Rattle.checkpoint_laws.specs.Runs.{took_before, AreWorkers, IsToldRun}
use Rattle.checkpoint_laws.specs.Theorems as checkpoints
use Rattle.checkpoint_laws.proofs.Lists.{short_both}
use Rattle.subpartition.specs.declared.entry.SendEntry.{SendEntry}
use Rattle.subpartition.specs.Sending.{parcels_put}
use Rattle.input_channel.specs.declared.entry.ReceiveEntry.{ReceiveEntry}
use Rattle.channel_cut.specs.Ends.{EndsAreCut}
use Rattle.channel_cut.specs.Runs.{HasNoFlight, opened, IsFrom, StartIsFrom, JobRan, RanIsTold, RanIsChain, RanEndsInWorth, RanEndsInTally}

-- ---- where a task goes on from

pub start_is_from : StartIsFrom
start_is_from job image start i a at = record {
  number = at.number;
  offset = λ source. ap (λ (l : List ℕ). slice_index l a) at.offsets;
  emitted = λ low. ap (λ (l : List ℕ). slice_index l (sender_place job i a)) at.emitted;
  table = λ last. ap (λ l. unwrap_or (slice_get l a) empty) at.tables;
}

step_from : (job : Job) (lines : ℕ → List (List ℕ)) (every : Option ℕ) (base : Image) (i a : ℕ) («from» : Snapshot) (next : Chapter) →
    IsFrom job base i a «from» → Step job lines every i a (opened «from») next → Step job lines every i a (opening job base i a) next
step_from job lines every base zero a «from» next is step = record {
  task = step.task;
  number = step.number ∙ ap (λ n. n + 1) is.number;
  goes = subst (λ o. OffsetGoesOn every (length (lines a)) o next.snapshot.offset next.snapshot.ended) (is.offset refl) step.goes;
  emits =
      subst (λ o. Emits job 0 a (shown job base 0 a).emitted next.snapshot.emitted (slice_range (lines a) o next.snapshot.offset) next.put) (is.offset refl)
      (subst (λ n. Emits job 0 a n next.snapshot.emitted (slice_range (lines a) «from».offset next.snapshot.offset) next.put) (is.emitted (omega arith)) step.emits);
}
step_from job lines every base (suc e) b «from» next is step = record {
  task = step.task;
  number = step.number ∙ ap (λ n. n + 1) is.number;
  takes = step.takes;
  emits = λ low. subst (λ n. Emits job (suc e) b n next.snapshot.emitted (applied job e next.took) next.put) (is.emitted low) (step.emits low);
  counts = λ last. step.counts last ∙ ap (λ t. add_all job.agg t (records next.took)) (is.table (ap suc last));
}

linked_from : (job : Job) (lines : ℕ → List (List ℕ)) (every : Option ℕ) (base : Image) (i a : ℕ) («from» : Snapshot) (chapters : List Chapter) →
    IsFrom job base i a «from» → Linked (Step job lines every i a) (opened «from») chapters → Linked (Step job lines every i a) (opening job base i a) chapters
linked_from job lines every base i a «from» [] is linked = tt
linked_from job lines every base i a «from» (c ∷ chapters) is linked = (step_from job lines every base i a «from» c is linked.0, linked.1)

-- ---- the cut of each channel

-- records end to end are records
joined_spans : (xs : List (List ℕ)) → AllByRecursion AreSpans xs → AreSpans (flat_map (λ (x : List ℕ). x) xs)
joined_spans [] all = ([], record { whole = refl; short = tt })
joined_spans (x ∷ xs) all =
    let rest = joined_spans xs all.1 in (
      all.0.0 ++ rest.0,
      record {
        whole = flat_map-append encoded all.0.0 rest.0 ∙ ap (λ z. z ++ all_encoded rest.0) all.0.1.whole ∙ ap (λ z. x ++ z) rest.1.whole;
        short = short_both all.0.0 rest.0 all.0.1.short rest.1.short;
      },
    )

-- nothing is in flight in a snapshot that was sent
no_flight_of : (acks : List Snapshot) (x : Snapshot) (k : ℕ) → AllByRecursion HasNoFlight acks → k < length acks → slice_index_or acks k x ≡ x → HasNoFlight x
no_flight_of acks x k none low is = subst HasNoFlight is (All-from_recursion HasNoFlight acks none k x low)

-- The laws of checkpoints and of the ends of a channel that are used.
pub record Laws : Type 0 where
  pub records : checkpoints.StretchesAreRecords
  pub snapshots : checkpoints.SnapshotEndsChapter
  pub chain : checkpoints.ToldIsChain
  pub worth : checkpoints.ToldEndsInWorth
  pub tally : checkpoints.ToldEndsInTally
  pub cut : EndsAreCut

module _ (laws : Laws) (job : Job) (lines : ℕ → List (List ℕ)) (every : Option ℕ) (base : Image) (images : List Image)
    (acks : ℕ → ℕ → List Snapshot) (sends : ℕ → ℕ → ℕ → List (ℕ × SendEntry)) (takes : ℕ → ℕ → ℕ → List (ℕ × ReceiveEntry))
    (fits : Fits job base) (ran : JobRan job lines every base images acks sends takes) where
  abbrev parcels : ℕ → ℕ → ℕ → List Parcel
  parcels i a b = parcels_put (by 0 (sends i a b))

  workers : AreWorkers job lines every base images ran.chapters acks parcels ran.more ran.snapshot
  workers = record {
    accounts = λ i a h there.
        let did = ran.did i a h there in
        record { steps = linked_from job lines every base i a (ran.start i a) (ran.chapters i a) (ran.starts i a h there) did.steps; snapshots = did.snapshots; puts = did.puts };
    acknowledged = ran.acknowledged;
    made = ran.made;
    collected = ran.collected;
  }

  no_flight : (k i a : ℕ) → k < length images → i ≤ suc (last_edge job) → a < tasks job i → HasNoFlight (ran.snapshot k i a)
  no_flight k i a low h there =
      let sent = (ran.acknowledged k i a low h there).0 in
      no_flight_of (acks i a) (ran.snapshot k i a) sent.0 (ran.did i a h there).no_flight sent.1 sent.2

  told : IsToldRun job lines every base images ran.chapters acks parcels ran.more ran.snapshot
  told = record {
    workers = workers;
    cuts = λ e a b k on low.
        let at = ends_of job e a b on in
        let sender_below : e ≤ suc (last_edge job) = omega (arith, at.edge) in
        let taker_below : suc e ≤ suc (last_edge job) = omega (arith, at.edge) in
        let from_here = laws.snapshots job lines every base images ran.chapters acks parcels ran.more ran.snapshot workers k e a low sender_below at.sender in
        let to_here = laws.snapshots job lines every base images ran.chapters acks parcels ran.more ran.snapshot workers k (suc e) b low taker_below at.receiver in
        let whole = laws.records job lines every base e a (ran.chapters e a) (acks e a) (parcels e a) (ran.more e a) (workers.accounts e a sender_below at.sender) b (suc k) on (omega (arith, from_here.0)) in
        let mine = of_sender a (took_before (suc k) (ran.chapters (suc e) b)) in
        let came_in = piece e a b (ran.snapshot k (suc e) b).saved_in.items in
        laws.cut (sends e a b) (takes e a b) (ran.sent e a b) (ran.received e a b) (saved job base e a b) k mine (ran.channels e a b on) (fits.spans e a b on)
        (joined_spans (take (suc k) (stretches (parcels e a b))) whole) ((ran.did (suc e) b taker_below at.receiver).cuts e a k refl on to_here.0)
        ∙ sym (append-nil (all_encoded mine))
        ∙ ap (λ l. all_encoded mine ++ (piece e a b l ++ [])) (sym (no_flight k (suc e) b low taker_below at.receiver).0)
        ∙ ap (λ l. all_encoded mine ++ (came_in ++ piece e a b l)) (sym (no_flight k e a low sender_below at.sender).1);
  }

pub ran_is_told : Laws → RanIsTold
ran_is_told laws job lines every base images acks sends takes fits ran = told laws job lines every base images acks sends takes fits ran

-- ---- what comes of it

pub ran_is_chain : Laws → RanIsChain
ran_is_chain laws job lines every base images acks sends takes positive fits same ran =
    laws.chain job lines every base images ran.chapters acks (λ i a b. parcels_put (by 0 (sends i a b))) ran.more ran.snapshot positive fits same
    (ran_is_told laws job lines every base images acks sends takes fits ran)

pub ran_ends_in_worth : Laws → RanEndsInWorth
ran_ends_in_worth laws job lines every base images acks sends takes is positive fits same ran last =
    laws.worth job lines every base images ran.chapters acks (λ i a b. parcels_put (by 0 (sends i a b))) ran.more ran.snapshot is positive fits same
    (ran_is_told laws job lines every base images acks sends takes fits ran) last

pub ran_ends_in_tally : Laws → RanEndsInTally
ran_ends_in_tally laws job lines every base images acks sends takes is positive start ran last =
    laws.tally job lines every base images ran.chapters acks (λ i a b. parcels_put (by 0 (sends i a b))) ran.more ran.snapshot is positive start
    (ran_is_told laws job lines every base images acks sends takes start.fits ran) last
