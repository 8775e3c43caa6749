-- From what the loop of a task keeps to its account by chapters.
use Rattle.std.proofs.Common.{◌≡◌, ◌+◌, ◌<◌, ◌≤◌, ℕ, zero, suc, List, [], ◌∷◌, ◌++◌, length, map, Option, refl, sym, ap, subst, ◌∙◌, arith}
use Rattle.std.proofs.lemmas.List.{length-map}
use Rattle.std.specs.Prelude.{slice_range}
use Rattle.std.specs.List.{AllByRecursion, slice_index_or}
use Rattle.turn_cell.specs.History.{entries_of}
use Rattle.flow_defs.specs.declared.job.Job.{Job}
use Rattle.flow_defs.specs.declared.image.Snapshot.{Snapshot}
use Rattle.flow_defs.specs.Jobs.{last_edge}
use Rattle.flow_defs.specs.Records.{IsShort, all_encoded, IsSpans}
use Rattle.plain_machine.specs.Emitting.{receiver_on, emit, count_after}
use Rattle.plain_machine.specs.Histories.{of_sender}
use Rattle.plain_machine.specs.Theorems.{EmittedAreShort}
use Rattle.checkpoint_laws.specs.Chapters.{Chapter, Linked, Step, applied}
use Rattle.checkpoint_laws.specs.Runs.{took_before}
use Rattle.channel_cut.specs.Cuts.{InLine, Shows}
use Rattle.channel_cut.specs.Takings.{taken_to}
use Rattle.channel_cut.specs.Runs.{opened, NumbersGoOn}
use Rattle.channel_cut.specs.Works.{Work, WorkStep, AreWorks, groups_of, emitted_of, brought, WorkedIsDid}

-- ---- chapters

module _ (short_law : EmittedAreShort) (job : Job) (lines : ℕ → List (List ℕ)) (every : Option ℕ) where
  abbrev chapter : ℕ → ℕ → ℕ → Work → Snapshot → Chapter
  chapter i a n work x = record { took = work.took; put = λ b. all_encoded (emit (receiver_on job i a) n work.emitted b); snapshot = x }

  abbrev chapters_of : ℕ → ℕ → ℕ → List Work → List Snapshot → List Chapter
  chapters_of i a n [] xs = []
  chapters_of i a n (work ∷ works) [] = []
  chapters_of i a n (work ∷ works) (x ∷ xs) = chapter i a n work x ∷ chapters_of i a (count_after n work.emitted) works xs

  spans_at : (i a n now : ℕ) (emitted made : List (List ℕ)) (b : ℕ) → now ≡ n → emitted ≡ made → AllByRecursion IsShort emitted →
      IsSpans (all_encoded (emit (receiver_on job i a) n emitted b)) (emit (receiver_on job i a) now made b)
  spans_at i a n now emitted made b same are short =
      let to = receiver_on job i a in
      subst (λ rs. IsSpans (all_encoded (emit to n emitted b)) (emit to now rs b)) are
      (subst (λ m. IsSpans (all_encoded (emit to m emitted b)) (emit to now emitted b)) same (record { whole = refl; short = short_law to now emitted b short }))

  one_step : (i a n : ℕ) (old : Chapter) (work : Work) (x : Snapshot) → (i ≤ last_edge job → old.snapshot.emitted ≡ n) → WorkStep job lines every i a old.snapshot work x → Step job lines every i a old (chapter i a n work x)
  one_step zero a n old work x same step = record {
    task = step.task;
    number = step.number;
    goes = step.goes;
    emits = record {
      count = step.count ∙ ap (count_after old.snapshot.emitted) step.emits;
      puts = λ b on. spans_at 0 a n old.snapshot.emitted work.emitted (slice_range (lines a) old.snapshot.offset x.offset) b (same (omega arith)) step.emits step.short;
    };
  }
  one_step (suc e) b n old work x same step = record {
    task = step.task;
    number = step.number;
    takes = step.takes;
    emits = λ low. record {
      count = step.count low ∙ ap (count_after old.snapshot.emitted) (step.emits low);
      puts = λ c on. spans_at (suc e) b n old.snapshot.emitted work.emitted (applied job e work.took) c (same low) (step.emits low) step.short;
    };
    counts = step.counts;
  }

  next_count : (i a n : ℕ) (old : Snapshot) (work : Work) (x : Snapshot) → (i ≤ last_edge job → old.emitted ≡ n) → WorkStep job lines every i a old work x → i ≤ last_edge job → x.emitted ≡ count_after n work.emitted
  next_count zero a n old work x same step low = step.count ∙ ap (λ m. count_after m work.emitted) (same low)
  next_count (suc e) b n old work x same step low = step.count low ∙ ap (λ m. count_after m work.emitted) (same low)

  steps_of : (i a n : ℕ) (old : Chapter) (works : List Work) (xs : List Snapshot) → (i ≤ last_edge job → old.snapshot.emitted ≡ n) → AreWorks job lines every i a old.snapshot works xs →
      Linked (Step job lines every i a) old (chapters_of i a n works xs)
  steps_of i a n old [] [] same are = tt
  steps_of i a n old [] (x ∷ xs) same are = absurd are
  steps_of i a n old (work ∷ works) [] same are = absurd are
  steps_of i a n old (work ∷ works) (x ∷ xs) same are =
      (one_step i a n old work x same are.0, steps_of i a (count_after n work.emitted) (chapter i a n work x) works xs (next_count i a n old.snapshot work x same are.0) are.1)

  sent_are : (i a n : ℕ) (old : Snapshot) (works : List Work) (xs : List Snapshot) → AreWorks job lines every i a old works xs → map (λ (c : Chapter). c.snapshot) (chapters_of i a n works xs) ≡ xs
  sent_are i a n old [] [] are = refl
  sent_are i a n old [] (x ∷ xs) are = absurd are
  sent_are i a n old (work ∷ works) [] are = absurd are
  sent_are i a n old (work ∷ works) (x ∷ xs) are = ap (λ l. x ∷ l) (sent_are i a (count_after n work.emitted) x works xs are.1)

  puts_are : (i a n b : ℕ) (old : Snapshot) (works : List Work) (xs : List Snapshot) → AreWorks job lines every i a old works xs →
      map (λ (c : Chapter). c.put b) (chapters_of i a n works xs) ≡ brought (receiver_on job i a) n (emitted_of works) b
  puts_are i a n b old [] [] are = refl
  puts_are i a n b old [] (x ∷ xs) are = absurd are
  puts_are i a n b old (work ∷ works) [] are = absurd are
  puts_are i a n b old (work ∷ works) (x ∷ xs) are = ap (λ l. all_encoded (emit (receiver_on job i a) n work.emitted b) ∷ l) (puts_are i a (count_after n work.emitted) b x works xs are.1)

  took_are : (i a n k : ℕ) (old : Snapshot) (works : List Work) (xs : List Snapshot) → AreWorks job lines every i a old works xs → taken_to k (groups_of works) ≡ took_before k (chapters_of i a n works xs)
  took_are i a n zero old works xs are = refl
  took_are i a n (suc k) old [] [] are = refl
  took_are i a n (suc k) old [] (x ∷ xs) are = absurd are
  took_are i a n (suc k) old (work ∷ works) [] are = absurd are
  took_are i a n (suc k) old (work ∷ works) (x ∷ xs) are = ap (λ l. work.took ++ l) (took_are i a (count_after n work.emitted) k x works xs are.1)

pub worked_is_did : EmittedAreShort → WorkedIsDid
worked_is_did short_law job lines every «from» flight i a works acks sends takes more worked =
    let n = «from».emitted in
    let are = worked.are_works in
    let chapters = chapters_of short_law job lines every i a n works acks in
    let snapshots = sent_are short_law job lines every i a n «from» works acks are in
    let many : length chapters ≡ length acks = sym (length-map chapters (λ (d : Chapter). d.snapshot)) ∙ ap length snapshots in (
      chapters,
      record {
        steps = steps_of short_law job lines every i a n (opened «from») works acks (λ low. refl) are;
        snapshots = snapshots;
        no_flight = worked.no_flight;
        puts = λ b on. worked.puts b on ∙ ap (λ l. l ++ more b) (sym (puts_are short_law job lines every i a n b «from» works acks are));
        cuts = λ e s k is on low.
            subst (λ g. Shows (flight e s) (entries_of (takes e s)) (InLine (suc k) (of_sender s g))) (took_are short_law job lines every i a n (suc k) «from» works acks are)
            (worked.cuts e s k is on (omega (arith, low, many)));
      },
    )

-- ---- the numbers of its snapshots

step_number : (job : Job) (lines : ℕ → List (List ℕ)) (every : Option ℕ) (i a : ℕ) (old new : Chapter) → Step job lines every i a old new → new.snapshot.number ≡ old.snapshot.number + 1
step_number job lines every zero a old new step = step.number
step_number job lines every (suc e) b old new step = step.number

numbers_from : (job : Job) (lines : ℕ → List (List ℕ)) (every : Option ℕ) (i a : ℕ) (x : Chapter) (xs : List Chapter) (k : ℕ) (d : Chapter) →
    Linked (Step job lines every i a) x xs → k < length xs → (slice_index_or xs k d).snapshot.number ≡ x.snapshot.number + suc k
numbers_from job lines every i a x [] k d linked low = absurd (omega (arith, low))
numbers_from job lines every i a x (y ∷ ys) zero d linked low = step_number job lines every i a x y linked.0
numbers_from job lines every i a x (y ∷ ys) (suc k) d linked low =
    let first = step_number job lines every i a x y linked.0 in
    let later = numbers_from job lines every i a y ys k d linked.1 (omega (arith, low)) in
    omega (arith, first, later)

pub numbers_go_on : NumbersGoOn
numbers_go_on job lines every «from» flight i a chapters acks sends takes more did k low = numbers_from job lines every i a (opened «from») chapters k (opened «from») did.steps low
