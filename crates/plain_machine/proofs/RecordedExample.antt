-- What is known of the second checkpoint of a run, in bytes, and that it makes the image the successor of the first.
use Rattle.std.proofs.Common.{◌≡◌, ℕ, zero, suc, ◌<◌, ◌≤◌, false, List, [], ◌∷◌, ◌++◌, length, eqb, refl, ◌∙◌, arith}
use Rattle.std.specs.Prelude.{codes, slice_index, slice_range}
use Rattle.std.proofs.lemmas.Bool.{ne_eqb, cond-false}
use Rattle.std.specs.List.{AllByRecursion}
use Rattle.flow_defs.specs.Records.{length_bytes, IsShort, all_encoded}
use Rattle.flow_defs.specs.Routes.{fnv}
use Rattle.flow_defs.specs.Jobs.{tasks, last_edge, is_channel}
use Rattle.flow_defs.specs.Tables.{add_all}
use Rattle.plain_machine.specs.Emitting.{count_after}
use Rattle.plain_machine.specs.Images.{cut_of, takes_of, saved}
use Rattle.plain_machine.specs.Histories.{run_senders, senders, records, of_sender}
use Rattle.plain_machine.specs.Recorded.{put_on, Recorded, IsSuccessor}
use Rattle.plain_machine.proofs.OneChannel.{its_job, its_lines, only, image_at, fits_at}
use Rattle.plain_machine.proofs.IntervalExample.{first, second, follows_first}
use Rattle.plain_machine.proofs.RecordedLemmas.{recorded_is_successor}

-- the task took what was in flight, and then the third line
abbrev its_took : ℕ → ℕ → List (ℕ × List ℕ)
its_took zero zero = (0, codes "b") ∷ (0, codes "a") ∷ []
its_took _ _ = []

abbrev its_put : ℕ → ℕ → List (List ℕ)
its_put zero zero = codes "a" ∷ []
its_put _ _ = []

recorded : Recorded its_job its_lines (image_at first) (image_at second) its_took its_put
unfolding fnv length_bytes
recorded = record {
  rise = rise;
  within = within;
  sources = sources;
  stages = λ e b low here. absurd (omega arith);
  counts = counts;
  runs = runs;
  tables = tables;
  cut = only (λ e a b. saved its_job (image_at first) e a b ++ all_encoded (put_on its_job (image_at first) e a b (its_put e a)) ≡ all_encoded (of_sender a (its_took e b)) ++ saved its_job (image_at second) e a b) cut;
  apart = apart;
  short = only (λ e a b. AllByRecursion IsShort (put_on its_job (image_at first) e a b (its_put e a)) × AllByRecursion IsShort (of_sender a (its_took e b))) short;
}
  where
    rise : (a : ℕ) → a < tasks its_job 0 → slice_index (image_at first).offsets.items a ≤ slice_index (image_at second).offsets.items a
    rise zero here = omega arith
    rise (suc a) here = absurd (omega arith)

    within : (a : ℕ) → a < tasks its_job 0 → slice_index (image_at second).offsets.items a ≤ length (its_lines a)
    within zero here = omega arith
    within (suc a) here = absurd (omega arith)

    sources : (a : ℕ) → a < tasks its_job 0 → its_put 0 a ≡ slice_range (its_lines a) (slice_index (image_at first).offsets.items a) (slice_index (image_at second).offsets.items a)
    sources zero here = refl
    sources (suc a) here = absurd (omega arith)

    counts : (i a : ℕ) → i ≤ last_edge its_job → a < tasks its_job i → (cut_of its_job (image_at second)).emitted i a ≡ count_after ((cut_of its_job (image_at first)).emitted i a) (its_put i a)
    counts zero zero low here = refl
    counts zero (suc a) low here = absurd (omega arith)
    counts (suc i) a low here = absurd (omega arith)

    runs : (e b : ℕ) → e ≤ last_edge its_job → b < tasks its_job (suc e) → run_senders (takes_of its_job (image_at second) (suc e) b) ≡ senders (its_took e b)
    runs zero zero low here = refl
    runs zero (suc b) low here = absurd (omega arith)
    runs (suc e) b low here = absurd (omega arith)

    tables : (b : ℕ) → b < tasks its_job (suc (last_edge its_job)) → (cut_of its_job (image_at second)).tables b ≡ add_all its_job.agg ((cut_of its_job (image_at first)).tables b) (records (its_took (last_edge its_job) b))
    tables zero here = refl
    tables (suc b) here = absurd (omega arith)

    cut : saved its_job (image_at first) 0 0 0 ++ all_encoded (put_on its_job (image_at first) 0 0 0 (its_put 0 0)) ≡ all_encoded (of_sender 0 (its_took 0 0)) ++ saved its_job (image_at second) 0 0 0
    cut = refl

    apart : (e a b : ℕ) → e ≤ last_edge its_job → b < tasks its_job (suc e) → is_channel its_job e a b ≡ false → of_sender a (its_took e b) ≡ []
    apart zero zero zero low here isnt = cc
    apart zero (suc a) zero low here isnt =
        let other : eqb 0 (suc a) ≡ false = ne_eqb 0 (suc a) (λ e. omega arith) in
        cond-false (eqb 0 (suc a)) _ _ other ∙ cond-false (eqb 0 (suc a)) _ _ other
    apart zero a (suc b) low here isnt = absurd (omega arith)
    apart (suc e) a b low here isnt = absurd (omega arith)

    short : AllByRecursion IsShort (put_on its_job (image_at first) 0 0 0 (its_put 0 0)) × AllByRecursion IsShort (of_sender 0 (its_took 0 0))
    short = ((omega arith, tt), (omega arith, (omega arith, tt)))

pub is_successor : IsSuccessor its_job its_lines (image_at first) (image_at second)
is_successor = recorded_is_successor its_job its_lines (image_at first) (image_at second) its_took its_put (fits_at first follows_first.fits) recorded
