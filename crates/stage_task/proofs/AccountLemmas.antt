-- What the task of a stage did, told by chapters.
use Rattle.std.proofs.Common.{◌≡◌, ℕ, zero, suc, ◌<◌, true, List, [], ◌∷◌, ◌++◌, length, map, drop, Option, Some, None, refl, sym, ap, ◌∙◌, arith}
use Rattle.std.specs.Prelude.{flat_map, slice_get, slice_index}
use Rattle.std.specs.Option.{option_map_or}
use Rattle.std.specs.List.{AllByRecursion}
use Rattle.std.proofs.lemmas.Bool.{and_parts, ltb-true, eqb-true}
use Rattle.flow_defs.specs.declared.image.Snapshot.{Snapshot}
use Rattle.flow_defs.specs.declared.job.Exchange.{Exchange}
use Rattle.flow_defs.specs.declared.job.Exchange.TheVariants.{Hash, Rebalance, Forward}
use Rattle.flow_defs.specs.declared.job.Job.{Job}
use Rattle.flow_defs.specs.declared.job.Stage.{Stage}
use Rattle.flow_defs.specs.Jobs.{exchange, last_edge, tasks, joins}
use Rattle.flow_defs.specs.Records.{IsShort, all_encoded}
use Rattle.flow_defs.specs.Stages.{apply}
use Rattle.plain_machine.specs.Emitting.{receiver_on, emit, count_after, apply_behind}
use Rattle.plain_machine.specs.Histories.{records}
use Rattle.plain_machine.specs.Places.{sender_place}
use Rattle.plain_machine.specs.Theorems.{EmittedAreShort, NoStageLengthens}
use Rattle.job_start.specs.Starts.{from_of}
use Rattle.checkpoint_laws.specs.Puts.{stretches}
use Rattle.checkpoint_laws.specs.Chapters.{Linked, Chapter, opening, Step, applied}
use Rattle.record_writer.specs.Writers.{ways, receiver_at}
use Rattle.task_output.specs.Outputs.{brought, place_to, parcels_to}
use Rattle.stage_task.specs.Accounts.{StageHasAccount}
use Rattle.stage_task.specs.Snapshots.{AreSnapshots, all_applied}
use Rattle.stage_task.proofs.Records.{all_short}

-- ---- lists

drop_front : {A : Type 0} (xs ys : List A) (n : ℕ) → n ≡ length xs → drop n (xs ++ ys) ≡ ys
drop_front [] ys n is = ap (λ m. drop m ys) is
drop_front (x ∷ xs) ys zero is = absurd (omega (arith, is))
drop_front (x ∷ xs) ys (suc n) is = drop_front xs ys n (omega (arith, is))

all_both : (P : List ℕ → Type 0) (xs ys : List (List ℕ)) → AllByRecursion P xs → AllByRecursion P ys → AllByRecursion P (xs ++ ys)
all_both P [] ys one two = two
all_both P (x ∷ xs) ys one two = (one.0, all_both P xs ys one.1 two)

-- ---- what a stage gives is short

behind_short : NoStageLengthens → (job : Job) (e : ℕ) (r : List ℕ) → IsShort r → AllByRecursion IsShort (apply_behind job e r)
behind_short law job e r short = by (slice_get job.stages.items e)
  where
    by : (o : Option Stage) → AllByRecursion IsShort (option_map_or (λ (s : Stage). apply s r) o [])
    by None = tt
    by (Some s) = all_short r (apply s r) short (law s r)

each_short : NoStageLengthens → (job : Job) (e : ℕ) (rs : List (List ℕ)) → AllByRecursion IsShort rs → AllByRecursion IsShort (flat_map (apply_behind job e) rs)
each_short law job e [] short = tt
each_short law job e (r ∷ rs) short = all_both IsShort (apply_behind job e r) (flat_map (apply_behind job e) rs) (behind_short law job e r short.0) (each_short law job e rs short.1)

-- ---- the chapters

module _ (job : Job) (e b : ℕ) where
  abbrev to : ℕ → List ℕ → ℕ
  to = receiver_on job (suc e) b

  chapters_of : ℕ → List (List (ℕ × List ℕ)) → List Snapshot → List Chapter
  chapters_of n [] xs = []
  chapters_of n (group ∷ groups) [] = []
  chapters_of n (group ∷ groups) (x ∷ xs) = record { took = group; put = λ c. all_encoded (emit to n (applied job e group) c); snapshot = x } ∷ chapters_of (count_after n (applied job e group)) groups xs

  took_are : (k n : ℕ) (groups : List (List (ℕ × List ℕ))) (xs : List Snapshot) → AreSnapshots job e b k n groups xs → map (λ (c : Chapter). c.took) (chapters_of n groups xs) ≡ groups
  unfolding chapters_of
  took_are k n [] [] are = refl
  took_are k n [] (x ∷ xs) are = absurd are
  took_are k n (g ∷ groups) [] are = absurd are
  took_are k n (g ∷ groups) (x ∷ xs) are = ap (λ (l : List (List (ℕ × List ℕ))). g ∷ l) (took_are (suc k) (count_after n (applied job e g)) groups xs are.1)

  sent_are : (k n : ℕ) (groups : List (List (ℕ × List ℕ))) (xs : List Snapshot) → AreSnapshots job e b k n groups xs → map (λ (c : Chapter). c.snapshot) (chapters_of n groups xs) ≡ xs
  unfolding chapters_of
  sent_are k n [] [] are = refl
  sent_are k n [] (x ∷ xs) are = absurd are
  sent_are k n (g ∷ groups) [] are = absurd are
  sent_are k n (g ∷ groups) (x ∷ xs) are = ap (λ (l : List Snapshot). x ∷ l) (sent_are (suc k) (count_after n (applied job e g)) groups xs are.1)

  puts_are : (c k n : ℕ) (groups : List (List (ℕ × List ℕ))) (xs : List Snapshot) → AreSnapshots job e b k n groups xs → map (λ (d : Chapter). d.put c) (chapters_of n groups xs) ≡ brought to n (all_applied job e groups) c
  unfolding chapters_of
  puts_are c k n [] [] are = refl
  puts_are c k n [] (x ∷ xs) are = absurd are
  puts_are c k n (g ∷ groups) [] are = absurd are
  puts_are c k n (g ∷ groups) (x ∷ xs) are = ap (λ l. all_encoded (emit to n (applied job e g) c) ∷ l) (puts_are c (suc k) (count_after n (applied job e g)) groups xs are.1)

  many_brought : (n : ℕ) (groups : List (List (List ℕ))) (c : ℕ) → length groups ≡ length (brought to n groups c)
  many_brought n [] c = refl
  many_brought n (g ∷ groups) c = ap suc (many_brought (count_after n g) groups c)

  -- one chapter behind another
  module _ (short_law : EmittedAreShort) (lengthens : NoStageLengthens) (all : ℕ → List (List ℕ)) (every : Option ℕ) (below : e < last_edge job) where
    steps_of : (k n : ℕ) (groups : List (List (ℕ × List ℕ))) (xs : List Snapshot) (old : Chapter) → AreSnapshots job e b k n groups xs → old.snapshot.number ≡ k → old.snapshot.emitted ≡ n → Linked (Step job all every (suc e) b) old (chapters_of n groups xs)
    unfolding chapters_of
    steps_of k n [] [] old are one two = tt
    steps_of k n [] (x ∷ xs) old are one two = absurd are
    steps_of k n (g ∷ groups) [] old are one two = absurd are
    steps_of k n (g ∷ groups) (x ∷ xs) old are one two =
        let at = are.0 in
        let made = applied job e g in
        let this : Chapter = record { took = g; put = λ c. all_encoded (emit to n made c); snapshot = x } in (
          record {
            task = at.is.task;
            number = at.is.number ∙ omega (arith, one);
            takes = at.takes;
            emits = λ more. record {
              count = at.is.emitted_is ∙ ap (λ m. count_after m made) (sym two);
              puts = λ c channel. record {
                whole = ap (λ m. all_encoded (emit to m made c)) two;
                short = short_law to old.snapshot.emitted made c (each_short lengthens job e (records g) at.takes.short);
              };
            };
            counts = λ last. absurd (omega (arith, below, last));
          },
          steps_of (suc k) (count_after n made) groups xs this are.1 at.is.number at.is.emitted_is,
        )

-- ---- the channel to a task

record IsPlace (x : Exchange) (a n b : ℕ) : Type 0 where
  inside : place_to x b < ways x n
  leads : receiver_at x a (place_to x b) ≡ b

place_of : (x : Exchange) (a n b : ℕ) → b < n → joins x a b ≡ true → IsPlace x a n b
place_of Hash a n b within joined = record { inside = within; leads = refl }
place_of Rebalance a n b within joined = record { inside = within; leads = refl }
place_of Forward a n b within joined = record { inside = omega arith; leads = eqb-true a b joined }

pub stage_has_account : EmittedAreShort → NoStageLengthens → StageHasAccount
stage_has_account short_law lengthens job all base e b size start every gate takers passes sent history takes cause is_base below inside was =
    let to = receiver_on job (suc e) b in
    let from = from_of job start (suc e) b in
    let made = all_applied job e was.groups in
    let chapters = chapters_of job e b from.emitted was.groups sent in
    let more : ℕ → List (List ℕ) = λ c. drop (length made) (stretches (parcels_to job (suc e) passes c)) in (
      chapters,
      more,
      took_are job e b from.number from.emitted was.groups sent was.snapshots,
      record {
        steps = steps_of job e b short_law lengthens all every below from.number from.emitted was.groups sent (opening job base (suc e) b) was.snapshots (sym is_base.at.number)
            (ap (λ (l : List ℕ). slice_index l (sender_place job (suc e) b)) (sym is_base.at.emitted));
        snapshots = sent_are job e b from.number from.emitted was.groups sent was.snapshots;
        puts = λ c channel.
            let parts = and_parts _ _ channel in
            let place = place_of (exchange job (suc e)) b (tasks job (suc (suc e))) c (ltb-true c (tasks job (suc (suc e))) (and_parts _ _ parts.0).1) parts.1 in
            let on = was.put (place_to (exchange job (suc e)) c) place.inside in
            let cut : stretches (parcels_to job (suc e) passes c) ≡ brought to from.emitted made c ++ on.more = on.cut ∙ ap (λ t. brought to from.emitted made t ++ on.more) place.leads in
            cut ∙ ap (λ l. l ++ on.more) (sym (puts_are job e b c from.number from.emitted was.groups sent was.snapshots))
            ∙ ap (λ l. map (λ (d : Chapter). d.put c) chapters ++ l) (sym (ap (drop (length made)) cut ∙ drop_front (brought to from.emitted made c) on.more (length made) (many_brought job e b from.emitted made c)));
      },
    )
