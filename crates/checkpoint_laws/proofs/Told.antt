-- From what the workers of a run say to the chain of its images.
use Rattle.std.proofs.Common.{◌≡◌, ℕ, zero, suc, ◌+◌, ◌<◌, ◌≤◌, ◌&&◌, Bool, true, false, cond, eqb, leb, ltb, List, [], ◌∷◌, ◌++◌, map, length, get_or, take, Option, Some, None, refl, sym, ap, subst, ◌∙◌, arith, append-nil}
use Rattle.std.specs.Prelude.{◌==◌, if◌then◌else◌, All, replicate, flat_map, slice_index, slice_get, slice_range, unwrap_or}
use Rattle.std.specs.List.{AllByRecursion}
use Rattle.std.specs.FinMap.{empty}
use Rattle.std.proofs.lemmas.Bool.{and_parts, leb-true, ltb-true, lt-ltb, eqb-true}
use Rattle.std.proofs.lemmas.List.Concat.{flat_map-append}
use Rattle.std.proofs.lemmas.List.Elements.{All-get_or, All-from_get_or}
use Rattle.std.proofs.lemmas.Option.{same_Some}
use Rattle.flow_defs.specs.declared.parcel.Parcel.{Parcel}
use Rattle.flow_defs.specs.declared.job.Job.{Job}
use Rattle.flow_defs.specs.declared.job.AggKind.{AggKind}
use Rattle.flow_defs.specs.declared.image.TakeRun.{TakeRun}
use Rattle.flow_defs.specs.declared.image.Snapshot.{Snapshot}
use Rattle.flow_defs.specs.declared.image.Image.{Image}
use Rattle.flow_defs.specs.Records.{IsShort, encoded, all_encoded}
use Rattle.flow_defs.specs.Jobs.{last_edge, tasks, exchange, joins, is_channel}
use Rattle.flow_defs.specs.Tables.{Values, add, add_all}
use Rattle.plain_machine.specs.Places.{channel_place}
use Rattle.plain_machine.specs.Worth.{concat_below}
use Rattle.plain_machine.specs.Images.{items_at, saved, cut_of, takes_of, AreSpans, AreRuns, HasShortKeys, AllEnded, Fits, IsStart}
use Rattle.plain_machine.specs.Chains.{Goes, Follows, IsUnchanged}
use Rattle.plain_machine.specs.Histories.{run_senders, senders, records, of_sender}
use Rattle.plain_machine.specs.Recorded.{put_on, Recorded}
use Rattle.plain_machine.specs.Theorems as machine
use Rattle.checkpoint_laws.specs.Puts.{put_before}
use Rattle.checkpoint_laws.specs.Chapters.{Linked, OffsetGoesOn, Emits, RunsTake, applied, Chapter, shown, opening, Step}
use Rattle.checkpoint_laws.specs.Collecting.{piece, IsLast}
use Rattle.checkpoint_laws.specs.Runs.{IsInterval, image_at, took_before, AreWorkers, IsToldRun}
use Rattle.checkpoint_laws.specs.Theorems.{StretchesAreRecords, SnapshotEndsChapter, ToldIsChain, ToldEndsInWorth, ToldEndsInTally}
use Rattle.checkpoint_laws.proofs.Keys.{added_keys}
use Rattle.checkpoint_laws.proofs.Lists.{linked_at, flat_map-take, joined_take, of_sender-append, of_sender-short}

-- The laws of the plain machine that are used.
pub record Laws : Type 0 where
  pub between : machine.CutBetween
  pub successor : machine.RecordedIsSuccessor
  pub steps : machine.StepsMakeChain
  pub start : machine.StartIsStart
  pub worth : machine.ChainEndsInWorth
  pub tally : machine.ChainEndsInTally

-- ---- channels

pub record Ends (job : Job) (e a b : ℕ) : Type 0 where
  pub edge : e ≤ last_edge job
  pub sender : a < tasks job e
  pub receiver : b < tasks job (suc e)

pub ends : (job : Job) (e a b : ℕ) → is_channel job e a b ≡ true → Ends job e a b
ends job e a b is =
    let all = and_parts (leb e (last_edge job) && ltb a (tasks job e) && ltb b (tasks job (suc e))) (joins (exchange job e) a b) is in
    let both = and_parts (leb e (last_edge job) && ltb a (tasks job e)) (ltb b (tasks job (suc e))) all.0 in
    let first = and_parts (leb e (last_edge job)) (ltb a (tasks job e)) both.0 in
    record { edge = leb-true _ _ first.0; sender = ltb-true _ _ first.1; receiver = ltb-true _ _ both.1 }

-- A task takes of senders alone that have a channel to it.

all_replicated : (P : ℕ → Type 0) (n a : ℕ) (rest : List ℕ) → P a → AllByRecursion P rest → AllByRecursion P (replicate n a ++ rest)
all_replicated P zero a rest p ps = ps
all_replicated P (suc n) a rest p ps = (p, all_replicated P n a rest p ps)

all_senders : (job : Job) (e b : ℕ) (runs : List TakeRun) → AreRuns job e b runs → AllByRecursion (λ a. is_channel job e a b ≡ true) (run_senders runs)
all_senders job e b [] are = tt
all_senders job e b (run ∷ []) are = all_replicated (λ a. is_channel job e a b ≡ true) run.count run.from [] are.0 tt
all_senders job e b (run ∷ other ∷ runs) are = all_replicated (λ a. is_channel job e a b ≡ true) run.count run.from (run_senders (other ∷ runs)) are.0 (all_senders job e b (other ∷ runs) are.3)

none_of : (job : Job) (e a b : ℕ) (took : List (ℕ × List ℕ)) → AllByRecursion (λ x. is_channel job e x b ≡ true) (senders took) → is_channel job e a b ≡ false → of_sender a took ≡ []
none_of job e a b [] all isnt = refl
none_of job e a b (t ∷ took) all isnt =
    elim (eqb t.0 a) as (λ x. eqb t.0 a ≡ x → cond x (t.1 ∷ of_sender a took) (of_sender a took) ≡ []) [
      | true ↦ λ h. absurd (let z : true ≡ false = sym all.0 ∙ ap (λ x. is_channel job e x b) (eqb-true t.0 a h) ∙ isnt in cc)
      | false ↦ λ h. none_of job e a b took all.1 isnt
    ] refl

none_from : (job : Job) (e a b : ℕ) (runs : List TakeRun) (took : List (ℕ × List ℕ)) → RunsTake job e b runs took → is_channel job e a b ≡ false → of_sender a took ≡ []
none_from job e a b runs took is isnt = none_of job e a b took (subst (AllByRecursion (λ x. is_channel job e x b ≡ true)) is.senders_are (all_senders job e b runs is.are_runs)) isnt

-- ---- how far the sources go

goes_within : (every : Option ℕ) (all old new : ℕ) (ended : Bool) → OffsetGoesOn every all old new ended → old ≤ all → (old ≤ new) × (new ≤ all)
goes_within None all old new ended goes low = (omega arith, omega arith)
goes_within (Some interval) all old new ended goes low = (omega arith, omega arith)

-- One that was ended is ended again.
ended_again : (every : Option ℕ) (all old new : ℕ) (ended : Bool) → OffsetGoesOn every all old new ended → IsInterval every → old ≡ all → ended ≡ true
ended_again None all old new ended goes positive at = goes.1
ended_again (Some interval) all old new ended goes positive at = let some : 1 ≤ interval = positive interval refl in goes.1 ∙ lt-ltb all (old + interval) (omega arith)

-- One that is ended is at its end.
ended_at : (every : Option ℕ) (all old new : ℕ) (ended : Bool) → OffsetGoesOn every all old new ended → ended ≡ true → new ≡ all
ended_at None all old new ended goes is = goes.0
ended_at (Some interval) all old new ended goes is = let past : all < old + interval = ltb-true all (old + interval) (sym goes.1 ∙ is) in omega (arith, goes.0, past)

-- ---- items of lists

get_at : {X : Type 0} (xs : List X) (i : ℕ) (d : X) → i < length xs → slice_get xs i ≡ Some (get_or xs i d)
get_at [] i d low = absurd (omega arith)
get_at (x ∷ xs) zero d low = refl
get_at (x ∷ xs) (suc i) d low = get_at xs i d (omega arith)

or_at : {X : Type 0} (xs : List X) (i : ℕ) (d e : X) → i < length xs → get_or xs i d ≡ unwrap_or (slice_get xs i) e
or_at xs i d e low = sym (ap (λ o. unwrap_or o e) (get_at xs i d low))

-- ---- keys of tables

added_short : (agg : AggKind) (table : Values) (rs : List (List ℕ)) → HasShortKeys table → AllByRecursion IsShort rs → HasShortKeys (add_all agg table rs)
added_short agg table [] keys short = keys
added_short agg table (r ∷ rs) keys short = added_short agg (add agg table r) rs (added_keys agg table r keys short.0) short.1

-- ---- snapshots by number

at_snapshot : (chapters : List Chapter) (sent : List Snapshot) (k : ℕ) (s : Snapshot) (d : Chapter) → map (λ (c : Chapter). c.snapshot) chapters ≡ sent → k < length sent → get_or sent k s ≡ s →
    (k < length chapters) × ((get_or chapters k d).snapshot ≡ s)
at_snapshot [] [] k s d e low found = absurd (omega arith)
at_snapshot [] (x ∷ sent) k s d e low found = absurd (let z : 0 ≡ 1 + length sent = ap length e ∙ omega arith in omega arith)
at_snapshot (c ∷ chapters) [] k s d e low found = absurd (omega arith)
at_snapshot (c ∷ chapters) (x ∷ sent) zero s d e low found = (omega arith, (let z : c.snapshot ≡ s = cc in z))
at_snapshot (c ∷ chapters) (x ∷ sent) (suc k) s d e low found =
    let deep = at_snapshot chapters sent k s d (let z : map (λ (c : Chapter). c.snapshot) chapters ≡ sent = cc in z) (omega arith) found in
    (omega (arith, deep.0), deep.1)

numbered : (R : Chapter → Chapter → Type 0) → ((old new : Chapter) → R old new → new.snapshot.number ≡ old.snapshot.number + 1) →
    (x : Chapter) (xs : List Chapter) (k : ℕ) (d : Chapter) → Linked R x xs → k < length xs → (get_or xs k d).snapshot.number ≡ x.snapshot.number + suc k
numbered R next x [] k d linked low = absurd (omega arith)
numbered R next x (y ∷ ys) zero d linked low = next x y linked.0
numbered R next x (y ∷ ys) (suc k) d linked low = let first = next x y linked.0 in let later = numbered R next y ys k d linked.1 (omega arith) in omega (arith, first, later)

step_number : (job : Job) (lines : ℕ → List (List ℕ)) (every : Option ℕ) (i a : ℕ) (old new : Chapter) → Step job lines every i a old new → new.snapshot.number ≡ old.snapshot.number + 1
step_number job lines every zero a old new step = step.number
step_number job lines every (suc e) b old new step = step.number

emits_same : (job : Job) (e a old now new later : ℕ) (rs same : List (List ℕ)) (put : ℕ → List ℕ) → old ≡ now → new ≡ later → rs ≡ same → Emits job e a old new rs put → Emits job e a now later same put
emits_same job e a old now new later rs same put p q r emits =
    subst (λ x. Emits job e a x later same put) p (subst (λ x. Emits job e a old x same put) q (subst (λ x. Emits job e a old new x put) r emits))

-- ---- what a task put are records

step_records : (job : Job) (lines : ℕ → List (List ℕ)) (every : Option ℕ) (i a b : ℕ) (old new : Chapter) → is_channel job i a b ≡ true → Step job lines every i a old new → AreSpans (new.put b)
step_records job lines every zero a b old new on step = (_, step.emits.puts b on)
step_records job lines every (suc e) a b old new on step = (_, (step.emits (ends job (suc e) a b on).edge).puts b on)

steps_records : (job : Job) (lines : ℕ → List (List ℕ)) (every : Option ℕ) (i a b : ℕ) (more : List (List ℕ)) (k : ℕ) → is_channel job i a b ≡ true →
    (x : Chapter) (xs : List Chapter) → Linked (Step job lines every i a) x xs → k ≤ length xs → AllByRecursion AreSpans (take k (map (λ (c : Chapter). c.put b) xs ++ more))
steps_records job lines every i a b more zero on x xs linked low = tt
steps_records job lines every i a b more (suc k) on x [] linked low = absurd (omega arith)
steps_records job lines every i a b more (suc k) on x (y ∷ ys) linked low =
    (step_records job lines every i a b x y on linked.0, steps_records job lines every i a b more k on y ys linked.1 (omega arith))

pub stretches_are_records : StretchesAreRecords
stretches_are_records job lines every base i a chapters sent parcels more account b k on low =
    subst (λ ss. AllByRecursion AreSpans (take k ss)) (sym (account.puts b on)) (steps_records job lines every i a b (more b) k on (opening job base i a) chapters account.steps low)

-- ---- a run

module _ (job : Job) (lines : ℕ → List (List ℕ)) (every : Option ℕ) (base : Image) (images : List Image)
    (chapters : ℕ → ℕ → List Chapter) (sends : ℕ → ℕ → List Snapshot) (parcels : ℕ → ℕ → ℕ → List Parcel) (more : ℕ → ℕ → ℕ → List (List ℕ)) (snapshot : ℕ → ℕ → ℕ → Snapshot)
    (workers : AreWorkers job lines every base images chapters sends parcels more snapshot) where
  number_of : (k : ℕ) → k ≤ length images → (image_at base images k).number ≡ base.number + k
  number_of zero low = omega arith
  number_of (suc k) low = let before = number_of k (omega arith) in let one = (workers.collected k low).number in omega (arith, before, one)

  ends_chapter : (k i a : ℕ) → k < length images → i ≤ suc (last_edge job) → a < tasks job i →
      (k < length (chapters i a)) × ((get_or (chapters i a) k (opening job base i a)).snapshot ≡ snapshot k i a)
  ends_chapter k i a low h there =
      let mine = workers.accounts i a h there in
      let found = workers.acknowledged k i a low h there in
      let j = found.0.0 in
      let got = at_snapshot (chapters i a) (sends i a) j (snapshot k i a) (opening job base i a) mine.snapshots found.0.1 found.0.2 in
      let number = numbered (Step job lines every i a) (step_number job lines every i a) (opening job base i a) (chapters i a) j (opening job base i a) mine.steps got.0 in
      let same : j ≡ k = omega (arith, number, ap (λ (s : Snapshot). s.number) got.1, found.1, number_of (suc k) low) in
      subst (λ x. (x < length (chapters i a)) × ((get_or (chapters i a) x (opening job base i a)).snapshot ≡ snapshot k i a)) same got

pub snapshot_ends_chapter : SnapshotEndsChapter
snapshot_ends_chapter = ends_chapter

module _ (laws : Laws) (job : Job) (lines : ℕ → List (List ℕ)) (every : Option ℕ) (base : Image) (images : List Image)
    (chapters : ℕ → ℕ → List Chapter) (sends : ℕ → ℕ → List Snapshot) (parcels : ℕ → ℕ → ℕ → List Parcel) (more : ℕ → ℕ → ℕ → List (List ℕ)) (snapshot : ℕ → ℕ → ℕ → Snapshot)
    (told : IsToldRun job lines every base images chapters sends parcels more snapshot) where
  abbrev n : ℕ
  n = length images

  abbrev image : ℕ → Image
  image k = image_at base images k

  -- the chapter of a task that leads to image k + 1, and what it stands at by image k
  abbrev chapter : ℕ → ℕ → ℕ → Chapter
  chapter i a k = get_or (chapters i a) k (opening job base i a)

  abbrev at : ℕ → ℕ → ℕ → Snapshot
  at i a k = (get_or (opening job base i a ∷ chapters i a) k (opening job base i a)).snapshot

  here : (i a k : ℕ) → i ≤ suc (last_edge job) → a < tasks job i → k < n → (k < length (chapters i a)) × ((chapter i a k).snapshot ≡ snapshot k i a)
  here i a k h there low = ends_chapter job lines every base images chapters sends parcels more snapshot told.workers k i a low h there

  -- an image shows what the snapshots say
  shows : {X : Type 0} (i a : ℕ) (field : Snapshot → X) (of : ℕ → X) → i ≤ suc (last_edge job) → a < tasks job i → field (shown job base i a) ≡ of 0 → ((k : ℕ) → k < n → of (suc k) ≡ field (snapshot k i a)) →
      (k : ℕ) → k ≤ n → field (at i a k) ≡ of k
  shows i a field of h there start each zero low = start
  shows i a field of h there start each (suc k) low = ap field (here i a k h there low).1 ∙ sym (each k low)

  offsets : (a : ℕ) → a < tasks job 0 → (k : ℕ) → k ≤ n → (at 0 a k).offset ≡ slice_index (image k).offsets.items a
  offsets a h = shows 0 a (λ (s : Snapshot). s.offset) (λ k. slice_index (image k).offsets.items a) (omega arith) h refl (λ k low. (told.workers.made k low).offsets a h)

  counts : (i a : ℕ) → i ≤ last_edge job → a < tasks job i → (k : ℕ) → k ≤ n → (at i a k).emitted ≡ (cut_of job (image k)).emitted i a
  counts i a h there = shows i a (λ (s : Snapshot). s.emitted) (λ k. (cut_of job (image k)).emitted i a) (omega arith) there refl (λ k low. (told.workers.made k low).emitted i a h there)

  tables : (b : ℕ) → b < tasks job (suc (last_edge job)) → (k : ℕ) → k ≤ n → (at (suc (last_edge job)) b k).table ≡ (cut_of job (image k)).tables b
  tables b h = shows (suc (last_edge job)) b (λ (s : Snapshot). s.table) (λ k. (cut_of job (image k)).tables b) (omega arith) h refl (λ k low. (told.workers.made k low).tables b h)

  -- ---- what the tasks did up to an image

  abbrev took : ℕ → ℕ → ℕ → List (ℕ × List ℕ)
  took k e b = (chapter (suc e) b k).took

  abbrev gave : ℕ → ℕ → ℕ → List (List ℕ)
  gave k zero a = slice_range (lines a) (slice_index (image k).offsets.items a) (slice_index (image (suc k)).offsets.items a)
  gave k (suc e) b = applied job e (took k e b)

  step : (i a k : ℕ) → i ≤ suc (last_edge job) → a < tasks job i → k < n → Step job lines every i a (get_or (opening job base i a ∷ chapters i a) k (opening job base i a)) (chapter i a k)
  step i a k h there low = linked_at (Step job lines every i a) (opening job base i a) (chapters i a) k (opening job base i a) (told.workers.accounts i a h there).steps (here i a k h there low).0

  goes : (k a : ℕ) → k < n → a < tasks job 0 → OffsetGoesOn every (length (lines a)) (slice_index (image k).offsets.items a) (slice_index (image (suc k)).offsets.items a) (snapshot k 0 a).ended
  goes k a low h =
      subst (λ x. OffsetGoesOn every (length (lines a)) x (slice_index (image (suc k)).offsets.items a) (snapshot k 0 a).ended) (offsets a h k (omega arith))
      (subst (λ x. OffsetGoesOn every (length (lines a)) (at 0 a k).offset x (snapshot k 0 a).ended) (offsets a h (suc k) low)
      (subst (λ (x : Bool). OffsetGoesOn every (length (lines a)) (at 0 a k).offset (at 0 a (suc k)).offset x) (ap (λ (s : Snapshot). s.ended) (here 0 a k (omega arith) h low).1) (step 0 a k (omega arith) h low).goes))

  all_emit : (k e a : ℕ) → k < n → e ≤ last_edge job → a < tasks job e → Emits job e a ((cut_of job (image k)).emitted e a) ((cut_of job (image (suc k))).emitted e a) (gave k e a) (chapter e a k).put
  all_emit k zero a low h there =
      emits_same job 0 a _ _ _ _ _ _ (chapter 0 a k).put (counts 0 a h there k (omega arith)) (counts 0 a h there (suc k) low)
      (ap (λ x. slice_range (lines a) x (at 0 a (suc k)).offset) (offsets a there k (omega arith)) ∙ ap (slice_range (lines a) (slice_index (image k).offsets.items a)) (offsets a there (suc k) low))
      (step 0 a k (omega arith) there low).emits
  all_emit k (suc e) b low h there =
      emits_same job (suc e) b _ _ _ _ _ _ (chapter (suc e) b k).put (counts (suc e) b h there k (omega arith)) (counts (suc e) b h there (suc k) low) refl ((step (suc e) b k (omega arith) there low).emits h)

  all_take : (k e b : ℕ) → k < n → e ≤ last_edge job → b < tasks job (suc e) → RunsTake job e b (takes_of job (image (suc k)) (suc e) b) (took k e b)
  all_take k e b low h there =
      subst (λ x. RunsTake job e b x (took k e b)) (ap (λ (s : Snapshot). s.takes.items) (here (suc e) b k (omega arith) there low).1 ∙ sym ((told.workers.made k low).takes e b h there)) (step (suc e) b k (omega arith) there low).takes

  all_count : (k b : ℕ) → k < n → b < tasks job (suc (last_edge job)) → (cut_of job (image (suc k))).tables b ≡ add_all job.agg ((cut_of job (image k)).tables b) (records (took k (last_edge job) b))
  all_count k b low h =
      sym (tables b h (suc k) low) ∙ (step (suc (last_edge job)) b k (omega arith) h low).counts refl ∙ ap (λ t. add_all job.agg t (records (took k (last_edge job) b))) (tables b h k (omega arith))

  -- ---- the channels up to an image

  -- the records that were put on a channel up to an image, and those that were taken of it
  abbrev puts : ℕ → ℕ → ℕ → ℕ → List (List ℕ)
  puts k e a b = concat_below k (λ j. put_on job (image j) e a b (gave j e a))

  abbrev tooks : ℕ → ℕ → ℕ → ℕ → List (List ℕ)
  tooks k e a b = of_sender a (took_before k (chapters (suc e) b))

  put_is : (e a b : ℕ) → is_channel job e a b ≡ true → (k : ℕ) → k ≤ n → flat_map (λ (c : Chapter). c.put b) (take k (chapters e a)) ≡ all_encoded (puts k e a b)
  put_is e a b on zero low = refl
  put_is e a b on (suc k) low =
      let at_ends = ends job e a b on in
      flat_map-take (λ (c : Chapter). c.put b) (chapters e a) k (opening job base e a) (here e a k (omega (arith, at_ends.edge)) at_ends.sender low).0
      ∙ ap (λ bytes. bytes ++ (chapter e a k).put b) (put_is e a b on k (omega arith))
      ∙ ap (λ bytes. all_encoded (puts k e a b) ++ bytes) (sym ((all_emit k e a low at_ends.edge at_ends.sender).puts b on).whole)
      ∙ sym (flat_map-append encoded (puts k e a b) (put_on job (image k) e a b (gave k e a)))

  put_before_is : (e a b : ℕ) → is_channel job e a b ≡ true → (k : ℕ) → k < n → put_before (suc k) (parcels e a b) ≡ all_encoded (puts (suc k) e a b)
  put_before_is e a b on k low =
      let at_ends = ends job e a b on in
      ap (λ ss. flat_map (λ s. s) (take (suc k) ss)) ((told.workers.accounts e a (omega (arith, at_ends.edge)) at_ends.sender).puts b on)
      ∙ joined_take (λ (c : Chapter). c.put b) (chapters e a) (more e a b) (suc k) (here e a k (omega (arith, at_ends.edge)) at_ends.sender low).0
      ∙ put_is e a b on (suc k) low

  -- the cut of a channel at an image, from the base on
  cut_at : (e a b : ℕ) → is_channel job e a b ≡ true → (k : ℕ) → k ≤ n → saved job base e a b ++ all_encoded (puts k e a b) ≡ all_encoded (tooks k e a b) ++ saved job (image k) e a b
  cut_at e a b on zero low = append-nil (saved job base e a b)
  cut_at e a b on (suc k) low =
      let made = told.workers.made k low in
      let lines = all_encoded (tooks (suc k) e a b) in
      ap (λ bytes. saved job base e a b ++ bytes) (sym (put_before_is e a b on k low))
      ∙ told.cuts e a b k on low
      ∙ ap (λ x. lines ++ (x ++ piece e a b (snapshot k e a).saved_out.items)) (sym (made.saved_in e a b on))
      ∙ ap (λ x. lines ++ (items_at (image (suc k)).saved_in.items (channel_place job e a b) ++ x)) (sym (made.saved_out e a b on))

  tooks_are : (k e a b : ℕ) → k < n → is_channel job e a b ≡ true → tooks (suc k) e a b ≡ tooks k e a b ++ of_sender a (took k e b)
  tooks_are k e a b low on =
      let at_ends = ends job e a b on in
      ap (of_sender a) (flat_map-take (λ (c : Chapter). c.took) (chapters (suc e) b) k (opening job base (suc e) b) (here (suc e) b k (omega (arith, at_ends.edge)) at_ends.receiver low).0)
      ∙ of_sender-append a (took_before k (chapters (suc e) b)) (took k e b)

  one_cut : (k e a b : ℕ) → k < n → is_channel job e a b ≡ true →
      saved job (image k) e a b ++ all_encoded (put_on job (image k) e a b (gave k e a)) ≡ all_encoded (of_sender a (took k e b)) ++ saved job (image (suc k)) e a b
  one_cut k e a b low on =
      laws.between (saved job base e a b) (saved job (image k) e a b) (saved job (image (suc k)) e a b)
      (puts k e a b) (put_on job (image k) e a b (gave k e a)) (tooks k e a b) (of_sender a (took k e b))
      (cut_at e a b on k (omega arith))
      (cut_at e a b on (suc k) low ∙ ap (λ rs. all_encoded rs ++ saved job (image (suc k)) e a b) (tooks_are k e a b low on))

  -- ---- from an image to the next

  module _ (k : ℕ) (low : k < n) (fits : Fits job (image k)) (same : IsUnchanged job lines (image k)) where
    recorded : Recorded job lines (image k) (image (suc k)) (took k) (gave k)
    recorded = record {
      rise = λ a h. (goes_within every (length (lines a)) _ _ _ (goes k a low h) (same.read a h)).0;
      within = λ a h. (goes_within every (length (lines a)) _ _ _ (goes k a low h) (same.read a h)).1;
      sources = λ a h. refl;
      stages = λ e b h there. refl;
      counts = λ i a h there. (all_emit k i a low h there).count;
      runs = λ e b h there. (all_take k e b low h there).senders_are;
      tables = λ b h. all_count k b low h;
      cut = λ e a b on. one_cut k e a b low on;
      apart = λ e a b h there isnt. none_from job e a b _ (took k e b) (all_take k e b low h there) isnt;
      short = λ e a b on.
          let at_ends = ends job e a b on in
          (((all_emit k e a low at_ends.edge at_ends.sender).puts b on).short, of_sender-short a (took k e b) (all_take k e b low at_ends.edge at_ends.receiver).short);
    }

    -- the source's flag in the new image
    flag : (a : ℕ) → a < tasks job 0 → slice_get (image (suc k)).ended.items a ≡ Some (snapshot k 0 a).ended
    flag a h = (told.workers.made k low).ended a h

    flag_at : (a : ℕ) → a < tasks job 0 → get_or (image (suc k)).ended.items a false ≡ (snapshot k 0 a).ended
    flag_at a h = same_Some _ _ (sym (get_at (image (suc k)).ended.items a false (let many = (told.workers.collected k low).ended in omega (arith, many, h))) ∙ flag a h)

    abbrev EachGoes : Option ℕ → Type 0
    EachGoes x = (a : ℕ) → a < tasks job 0 → OffsetGoesOn x (length (lines a)) (slice_index (image k).offsets.items a) (slice_index (image (suc k)).offsets.items a) (snapshot k 0 a).ended

    all_flags : ((a : ℕ) → a < tasks job 0 → (snapshot k 0 a).ended ≡ true) → AllEnded (image (suc k))
    all_flags each =
        All-from_get_or (λ (t : Bool). t ≡ true) (image (suc k)).ended.items false (λ a h.
        let there : a < tasks job 0 = (let many = (told.workers.collected k low).ended in omega (arith, many, h)) in flag_at a there ∙ each a there)

    all_ended : (x : Option ℕ) → IsInterval x → EachGoes x → IsLast x (image k) (image (suc k)) → (image (suc k)).final_one ≡ true → AllEnded (image (suc k))
    all_ended None positive each last is = all_flags (λ a h. (each a h).1)
    all_ended (Some interval) positive each last is =
        all_flags (λ a h.
        let before : a < length (image k).ended.items = omega (arith, fits.ended) in
        ended_again (Some interval) (length (lines a)) _ _ _ (each a h) positive
        (same.ended a h (get_at (image k).ended.items a false before ∙ ap Some (All-get_or (λ (t : Bool). t ≡ true) (image k).ended.items a false before (last.0 is)))))

    goes_as : (x : Option ℕ) → EachGoes x → IsLast x (image k) (image (suc k)) → Goes job lines x (image k) (image (suc k))
    goes_as None each last = record { offsets = λ a h. (each a h).0; ended = all_flags (λ a h. (each a h).1); last = last }
    goes_as (Some interval) each last = record { offsets = λ a h. (each a h).0; ended = λ a h. flag a h ∙ ap Some (each a h).1; last = last }

    keys : All HasShortKeys (image (suc k)).tables.items
    keys =
        All-from_get_or HasShortKeys (image (suc k)).tables.items empty (λ b h.
        let there : b < tasks job (suc (last_edge job)) = (let many = (told.workers.collected k low).tables in omega (arith, many, h)) in
        let before : b < length (image k).tables.items = omega (arith, fits.tables, there) in
        subst HasShortKeys (sym (or_at (image (suc k)).tables.items b empty empty h ∙ all_count k b low there))
        (added_short job.agg ((cut_of job (image k)).tables b) (records (took k (last_edge job) b))
        (subst HasShortKeys (or_at (image k).tables.items b empty empty before) (All-get_or HasShortKeys (image k).tables.items b empty before fits.keys))
        (all_take k (last_edge job) b low (omega arith) there).short))

    unchanged : IsUnchanged job lines (image (suc k))
    unchanged = record {
      read = λ a h. (goes_within every (length (lines a)) _ _ _ (goes k a low h) (same.read a h)).1;
      ended = λ a h is. ended_at every (length (lines a)) _ _ _ (goes k a low h) (same_Some _ _ (sym (flag a h) ∙ is));
    }

    follows : IsInterval every → Follows job lines every (image k) (image (suc k))
    follows positive =
        let c = told.workers.collected k low in
        let is = laws.successor job lines (image k) (image (suc k)) (took k) (gave k) fits recorded in
        record {
          number = c.number;
          text = c.text;
          not_last = c.not_last;
          fits = record {
            offsets = c.offsets;
            ended = c.ended;
            emitted = c.emitted;
            tables = c.tables;
            takes = c.takes;
            saved_in = c.saved_in;
            saved_out = c.saved_out;
            keys = keys;
            runs = λ e b h there. (all_take k e b low h there).are_runs;
            spans = is.spans;
            last_is_ended = all_ended every positive (λ a h. goes k a low h) c.last;
            last_is_empty = c.last_is_empty;
          };
          defined = is.defined;
          same = is.same;
          goes = goes_as every (λ a h. goes k a low h) c.last;
        }

  module _ (positive : IsInterval every) (fits : Fits job base) (same : IsUnchanged job lines base) where
    known : (k : ℕ) → k ≤ n → Fits job (image k) × IsUnchanged job lines (image k)
    known zero low = (fits, same)
    known (suc k) low =
        let before = known k (omega arith) in
        ((follows k low before.0 before.1 positive).fits, unchanged k low before.0 before.1)

    pub each_follows : (k : ℕ) → k < n → Follows job lines every (image k) (image (suc k))
    each_follows k low = let before = known k (omega arith) in follows k low before.0 before.1 positive

pub told_is_chain : Laws → ToldIsChain
told_is_chain laws job lines every base images chapters sent parcels more snapshot positive fits same told =
    laws.steps job lines every base images (each_follows laws job lines every base images chapters sent parcels more snapshot told positive fits same)

pub told_ends_in_worth : Laws → ToldEndsInWorth
told_ends_in_worth laws job lines every base images chapters sent parcels more snapshot is positive fits same told last =
    laws.worth job lines every base images is fits same (told_is_chain laws job lines every base images chapters sent parcels more snapshot positive fits same told) last

-- At the start no source is at its end, and none has gone past it.
pub unchanged_at_start : Laws → (job : Job) (lines : ℕ → List (List ℕ)) (base : Image) → IsStart job base → IsUnchanged job lines base
unchanged_at_start laws job lines base begins = record {
  read = λ a h. let none = (laws.start job base begins).offsets a h in omega (arith, none);
  ended = λ a h is.
      let low : a < length base.ended.items = omega (arith, begins.fits.ended) in
      absurd (let z : false ≡ true = same_Some _ _ (sym (get_at base.ended.items a false low ∙ ap Some (All-get_or (λ (t : Bool). t ≡ false) base.ended.items a false low begins.ended)) ∙ is) in cc);
}

pub told_ends_in_tally : Laws → ToldEndsInTally
told_ends_in_tally laws job lines every base images chapters sent parcels more snapshot is positive begins told last =
    laws.tally job lines every base images is begins
    (told_is_chain laws job lines every base images chapters sent parcels more snapshot positive begins.fits (unchanged_at_start laws job lines base begins) told) last
