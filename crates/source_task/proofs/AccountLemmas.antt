-- What a source did, told by chapters.
use Rattle.std.proofs.Common.{◌≡◌, ℕ, zero, suc, ◌+◌, ◌-◌, ◌<◌, ◌≤◌, Bool, true, false, List, [], ◌∷◌, ◌++◌, length, map, take, drop, Option, Some, None, unwrap_or, refl, sym, ap, subst, ◌∙◌, append_assoc, arith}
use Rattle.std.specs.Prelude.{slice_index, slice_get, slice_range}
use Rattle.std.specs.List.{AllByRecursion}
use Rattle.std.proofs.Math.Nat.{min-eq_left, min_comm}
use Rattle.std.proofs.lemmas.Bool.{and_parts, ltb-true, lt-ltb, le-ltb, eqb-true}
use Rattle.std.proofs.lemmas.List.{length-append, length-take-le, take-append-drop, drop_all}
use Rattle.flow_defs.specs.declared.image.Snapshot.{Snapshot}
use Rattle.flow_defs.specs.declared.job.Exchange.{Exchange}
use Rattle.flow_defs.specs.declared.job.Exchange.TheVariants.{Hash, Rebalance, Forward}
use Rattle.flow_defs.specs.declared.job.Job.{Job}
use Rattle.flow_defs.specs.Jobs.{exchange, tasks, joins}
use Rattle.flow_defs.specs.Lines.{lines}
use Rattle.flow_defs.specs.Records.{IsShort, all_encoded}
use Rattle.plain_machine.specs.Emitting.{receiver_on, emit, count_after}
use Rattle.plain_machine.specs.Places.{sender_place}
use Rattle.plain_machine.specs.Theorems.{EmittedAreShort}
use Rattle.checkpoint_laws.specs.Puts.{stretches}
use Rattle.checkpoint_laws.specs.Chapters.{Linked, OffsetGoesOn, Chapter, opening, Step}
use Rattle.job_start.specs.Starts.{from_of, was_ended}
use Rattle.record_writer.specs.Writers.{ways, receiver_at}
use Rattle.snapshot_channel.specs.Snapshots.{has_ended}
use Rattle.task_output.specs.Outputs.{brought, all_of, place_to, parcels_to}
use Rattle.source_task.specs.Emitting.{IsInterval, AreSnapshots}
use Rattle.source_task.specs.Accounts.{SourceHasAccount}
use Rattle.source_task.proofs.Snapshots.{or_first, or_second}

-- ---- lists

drop_front : {A : Type 0} (xs ys : List A) (n : ℕ) → n ≡ length xs → drop n (xs ++ ys) ≡ ys
drop_front [] ys n is = ap (λ m. drop m ys) is
drop_front (x ∷ xs) ys zero is = absurd (omega (arith, is))
drop_front (x ∷ xs) ys (suc n) is = drop_front xs ys n (omega (arith, is))

take_front : {A : Type 0} (xs ys : List A) (n : ℕ) → n ≡ length xs → take n (xs ++ ys) ≡ xs
take_front [] ys n is = ap (λ m. take m ys) is
take_front (x ∷ xs) ys zero is = absurd (omega (arith, is))
take_front (x ∷ xs) ys (suc n) is = ap (λ l. x ∷ l) (take_front xs ys n (omega (arith, is)))

all_first : {A : Type 0} (P : A → Type 0) (xs ys : List A) → AllByRecursion P (xs ++ ys) → AllByRecursion P xs
all_first P [] ys all = tt
all_first P (x ∷ xs) ys all = (all.0, all_first P xs ys all.1)

all_second : {A : Type 0} (P : A → Type 0) (xs ys : List A) → AllByRecursion P (xs ++ ys) → AllByRecursion P ys
all_second P [] ys all = all
all_second P (x ∷ xs) ys all = all_second P xs ys all.1

none_last : (xs ys : List (List ℕ)) → xs ++ ys ≡ [] → ys ≡ []
none_last [] ys e = e
none_last (x ∷ xs) ys e = absurd (cc)

same_tail : (xs ys : List (List ℕ)) → xs ++ ys ≡ xs → ys ≡ []
same_tail [] ys e = e
same_tail (x ∷ xs) ys e = same_tail xs ys (cc)

is_there : (told : Option Bool) → unwrap_or told false ≡ true → told ≡ Some true
is_there None is = absurd (cc)
is_there (Some b) is = ap (λ (b : Bool). Some b) is

-- ---- the chapters

module _ (job : Job) (a : ℕ) where
  chapters_of : ℕ → List (List (List ℕ)) → List Snapshot → List Chapter
  chapters_of n [] xs = []
  chapters_of n (group ∷ groups) [] = []
  chapters_of n (group ∷ groups) (x ∷ xs) = record { took = []; put = λ b. all_encoded (emit (receiver_on job 0 a) n group b); snapshot = x } ∷ chapters_of (count_after n group) groups xs

  module _ (every : Option ℕ) where
    sent_are : (k offset n : ℕ) (groups : List (List (List ℕ))) (xs : List Snapshot) → AreSnapshots a every k offset n groups xs → map (λ (c : Chapter). c.snapshot) (chapters_of n groups xs) ≡ xs
    unfolding chapters_of
    sent_are k offset n [] [] are = refl
    sent_are k offset n [] (x ∷ xs) are = absurd are
    sent_are k offset n (g ∷ groups) [] are = absurd are
    sent_are k offset n (g ∷ groups) (x ∷ xs) are = ap (λ l. x ∷ l) (sent_are (suc k) (offset + length g) (count_after n g) groups xs are.3)

    puts_are : (b k offset n : ℕ) (groups : List (List (List ℕ))) (xs : List Snapshot) → AreSnapshots a every k offset n groups xs → map (λ (c : Chapter). c.put b) (chapters_of n groups xs) ≡ brought (receiver_on job 0 a) n groups b
    unfolding chapters_of
    puts_are b k offset n [] [] are = refl
    puts_are b k offset n [] (x ∷ xs) are = absurd are
    puts_are b k offset n (g ∷ groups) [] are = absurd are
    puts_are b k offset n (g ∷ groups) (x ∷ xs) are = ap (λ l. all_encoded (emit (receiver_on job 0 a) n g b) ∷ l) (puts_are b (suc k) (offset + length g) (count_after n g) groups xs are.3)

  many_brought : (to : ℕ → List ℕ → ℕ) (n : ℕ) (groups : List (List (List ℕ))) (b : ℕ) → length groups ≡ length (brought to n groups b)
  many_brought to n [] b = refl
  many_brought to n (g ∷ groups) b = ap suc (many_brought to (count_after n g) groups b)

-- ---- one chapter behind another

-- how far it goes
goes : (every : Option ℕ) (all old new lines : ℕ) (ended : Bool) → IsInterval every lines ended → new ≡ old + lines → new ≤ all → (ended ≡ true → all ≡ new) → OffsetGoesOn every all old new ended
goes None all old new lines ended interval is within last = (sym (last interval), interval)
goes (Some n) all old new lines false interval is within last =
    (is ∙ ap (λ m. old + m) interval ∙ sym (min-eq_left (let far : old + n ≤ all = omega (arith, is, interval, within) in far)), sym (le-ltb all (old + n) (omega (arith, is, interval, within))))
goes (Some n) all old new lines true interval is within last =
    let it = last refl in
    (sym it ∙ sym (min-eq_left (let near : all ≤ old + n = omega (arith, is, interval, it) in near)) ∙ min_comm all (old + n), sym (lt-ltb all (old + n) (omega (arith, is, interval, it))))

module _ (short_law : EmittedAreShort) (job : Job) (all : ℕ → List (List ℕ)) (a : ℕ) (every : Option ℕ) where
  steps_of : (k offset n : ℕ) (groups : List (List (List ℕ))) (xs : List Snapshot) (front tail : List (List ℕ)) (old : Chapter) → AreSnapshots a every k offset n groups xs
      → old.snapshot.number ≡ k → old.snapshot.offset ≡ offset → old.snapshot.emitted ≡ n → offset ≡ length front → all a ≡ front ++ (all_of groups ++ tail) → AllByRecursion IsShort (all_of groups) → (has_ended false xs ≡ true → tail ≡ [])
      → Linked (Step job all every 0 a) old (chapters_of job a n groups xs)
  unfolding chapters_of
  steps_of k offset n [] [] front tail old are one two three is all_are short none = tt
  steps_of k offset n [] (x ∷ xs) front tail old are one two three is all_are short none = absurd are
  steps_of k offset n (g ∷ groups) [] front tail old are one two three is all_are short none = absurd are
  steps_of k offset n (g ∷ groups) (x ∷ xs) front tail old are one two three is all_are short none =
      let at = are.0 in
      let to = receiver_on job 0 a in
      let later = all_of groups in
      let this : Chapter = record { took = []; put = λ b. all_encoded (emit to n g b); snapshot = x } in
      let parts : all a ≡ front ++ (g ++ (later ++ tail)) = all_are ∙ ap (λ l. front ++ l) (append_assoc g later tail) in
      let slice : slice_range (all a) old.snapshot.offset x.offset ≡ g =
      ap (λ l. slice_range l old.snapshot.offset x.offset) parts ∙ ap (λ l. take (x.offset - old.snapshot.offset) l) (drop_front front (g ++ (later ++ tail)) old.snapshot.offset (two ∙ is))
      ∙ take_front g (later ++ tail) (x.offset - old.snapshot.offset) (omega (arith, at.offset_is, two)) in
      let size : length (all a) ≡ length front + (length g + (length later + length tail)) = ap length parts ∙ omega (arith, length-append front (g ++ (later ++ tail)), length-append g (later ++ tail), length-append later tail) in (
        record {
          task = at.task;
          number = at.number ∙ omega (arith, one);
          goes = goes every (length (all a)) old.snapshot.offset x.offset (length g) x.ended are.1 (at.offset_is ∙ omega (arith, two)) (omega (arith, at.offset_is, is, size))
              (λ ended. let no_later = ap length (are.2 ended) in let no_tail = ap length (none (or_first x.ended (has_ended false xs) ended)) in omega (arith, at.offset_is, is, size, no_later, no_tail));
          emits = record {
            count = at.emitted_is ∙ ap (λ m. count_after m g) (sym three) ∙ ap (count_after old.snapshot.emitted) (sym slice);
            puts = λ b channel. record {
              whole = ap (λ l. all_encoded (emit to old.snapshot.emitted l b)) slice ∙ ap (λ m. all_encoded (emit to m g b)) three;
              short = short_law to old.snapshot.emitted (slice_range (all a) old.snapshot.offset x.offset) b (subst (AllByRecursion IsShort) (sym slice) (all_first IsShort g later short));
            };
          };
        },
        steps_of (suc k) (offset + length g) (count_after n g) groups xs (front ++ g) tail this are.3 at.number at.offset_is at.emitted_is (omega (arith, is, length-append front g))
            (parts ∙ sym (append_assoc front g (later ++ tail))) (all_second IsShort g later short) (λ ended. none (or_second x.ended (has_ended false xs) ended)),
      )

-- ---- the channel to a task

record IsPlace (x : Exchange) (a n b : ℕ) : Type 0 where
  inside : place_to x b < ways x n
  leads : receiver_at x a (place_to x b) ≡ b

place_of : (x : Exchange) (a n b : ℕ) → b < n → joins x a b ≡ true → IsPlace x a n b
place_of Hash a n b within joined = record { inside = within; leads = refl }
place_of Rebalance a n b within joined = record { inside = within; leads = refl }
place_of Forward a n b within joined = record { inside = omega arith; leads = eqb-true a b joined }

-- ---- the account

pub source_has_account : EmittedAreShort → SourceHasAccount
source_has_account short_law job all start base a size every passes sent history bytes fell rose cause is_base unchanged inside all_is was =
    let from = from_of job start 0 a in
    let to = receiver_on job 0 a in
    let at = is_base.at in
    let rest = was.rest ++ was.begun in
    let front = was.front in
    let offset : slice_index base.offsets.items a ≡ from.offset = ap (λ l. slice_index l a) (sym at.offsets) in
    let emitted : slice_index base.emitted.items (sender_place job 0 a) ≡ from.emitted = ap (λ l. slice_index l (sender_place job 0 a)) (sym at.emitted) in
    let read : from.offset ≤ length (all a) = subst (λ n. n ≤ length (all a)) offset (unchanged.read a inside) in
    let behind : drop from.offset (all a) ≡ all_of was.groups ++ (rest ++ front.0) = ap (λ l. drop from.offset l) all_is ∙ front.1 ∙ append_assoc (all_of was.groups) rest front.0 in
    let whole : all a ≡ take from.offset (all a) ++ (all_of was.groups ++ (rest ++ front.0)) = sym (take-append-drop from.offset (all a)) ∙ ap (λ l. take from.offset (all a) ++ l) behind in
    let chapters = chapters_of job a from.emitted was.groups sent in
    let more : ℕ → List (List ℕ) = λ b. drop (length was.groups) (stretches (parcels_to job 0 passes b)) in (
      chapters,
      more,
      record {
        steps = steps_of short_law job all a every from.number from.offset from.emitted was.groups sent (take from.offset (all a)) (rest ++ front.0) (opening job base 0 a) was.snapshots (sym at.number) offset emitted
            (sym (length-take-le from.offset (all a) read)) whole (all_first IsShort (all_of was.groups) rest was.short) (λ ended. no_tail (was_ended start a) refl ended behind);
        snapshots = sent_are job a every from.number from.offset from.emitted was.groups sent was.snapshots;
        puts = λ b channel.
            let parts = and_parts _ _ channel in
            let place = place_of (exchange job 0) a (tasks job 1) b (ltb-true b (tasks job 1) (and_parts _ _ parts.0).1) parts.1 in
            let on = was.put (place_to (exchange job 0) b) place.inside in
            let cut : stretches (parcels_to job 0 passes b) ≡ brought to from.emitted was.groups b ++ on.more = on.cut ∙ ap (λ t. brought to from.emitted was.groups t ++ on.more) place.leads in
            cut ∙ ap (λ l. l ++ on.more) (sym (puts_are job a every b from.number from.offset from.emitted was.groups sent was.snapshots))
            ∙ ap (λ l. map (λ (c : Chapter). c.put b) chapters ++ l) (sym (ap (drop (length was.groups)) cut ∙ drop_front (brought to from.emitted was.groups b) on.more (length was.groups) (many_brought job a to from.emitted was.groups b)));
      },
    )
  where
    tail : List (List ℕ)
    tail = (was.rest ++ was.begun) ++ was.front.0

    none_behind : was_ended start a ≡ true → drop (from_of job start 0 a).offset (all a) ≡ []
    none_behind is =
        let there : slice_get base.ended.items a ≡ Some true = ap (λ l. slice_get l a) (sym is_base.at.ended) ∙ is_there (slice_get start.ended.items a) is in
        let far : (from_of job start 0 a).offset ≡ length (all a) = ap (λ l. slice_index l a) is_base.at.offsets ∙ unchanged.ended a inside there in
        drop_all (from_of job start 0 a).offset (all a) (omega (arith, far))

    -- where it is at its end no line is left
    no_tail : (b : Bool) → was_ended start a ≡ b → has_ended false sent ≡ true → drop (from_of job start 0 a).offset (all a) ≡ all_of was.groups ++ tail → tail ≡ []
    no_tail true is ended behind = none_last (all_of was.groups) tail (sym behind ∙ none_behind is)
    no_tail false is ended behind = same_tail (all_of was.groups) tail (sym behind ∙ ap (λ l. drop (from_of job start 0 a).offset l) all_is ∙ was.whole ended is)
