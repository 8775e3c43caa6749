-- The numbers that a run over generated lines comes to.
use Rattle.std.proofs.Common.{◌≡◌, ℕ, zero, suc, ◌+◌, ◌*◌, ◌/◌, ◌%◌, List, [], ◌∷◌, ◌++◌, length, map, get_or, Option, Some, None, refl, sym, ap, subst, ◌∙◌, arith, length-append}
use Rattle.std.specs.Prelude.{flat_map, slice_range, unwrap_or, ◌^◌}
use Rattle.std.specs.List.{AllByRecursion}
use Rattle.std.proofs.lemmas.List.{length-map}
use Rattle.flow_defs.specs.declared.job.Job.{Job}
use Rattle.flow_defs.specs.declared.job.Stage.{Stage}
use Rattle.flow_defs.specs.declared.job.StageKind.{StageKind}
use Rattle.flow_defs.specs.declared.job.StageKind.TheVariants.{Words}
use Rattle.flow_defs.specs.declared.job.AggKind.TheVariants.{Count}
use Rattle.flow_defs.specs.declared.image.Image.{Image}
use Rattle.flow_defs.specs.Jobs.{last_edge, tasks, IsJob}
use Rattle.flow_defs.specs.Lines.{lines}
use Rattle.flow_defs.specs.Stages.{given, apply}
use Rattle.flow_defs.specs.Tables.{Values}
use Rattle.plain_machine.specs.Worth.{through, reach, concat_below, tally}
use Rattle.plain_machine.specs.Counts.{most_below, most_lines}
use Rattle.plain_machine.specs.Theorems.{StartExists}
use Rattle.plain_machine.specs.SizeTheorems.{FinishedChainIsCounted, TallyCountsRecords}
use Rattle.line_generator.specs.Generated.{generated}
use Rattle.line_generator.specs.Theorems.{GeneratedAreCounted, EachHasTwoWords}
use Rattle.outside.specs.Keepers.{KeptImage}
use Rattle.collecting_worker.specs.Images.{kept_of}
use Rattle.job_outcome.specs.Storing.{EndsIn}
use Rattle.commands.specs.SelfRuns.{counted_in, made_lines}

-- ---- records

abbrev HasTwo : List ℕ → Type 0
HasTwo line = length (given Words [] line) ≡ 2

as_many : (records : List (List ℕ)) → length (flat_map (λ r. r ∷ []) records) ≡ length records
as_many [] = refl
as_many (r ∷ records) = ap suc (as_many records)

-- a stage of words gives two for each line
two_of_each : (s : Stage) (ls : List (List ℕ)) → s.kind ≡ Words → AllByRecursion HasTwo ls → length (flat_map (λ l. flat_map (λ r. r ∷ []) (apply s l)) ls) ≡ 2 * length ls
unfolding apply
two_of_each s [] is two = refl
two_of_each s (l ∷ ls) is two =
    let both = length-append (flat_map (λ r. r ∷ []) (apply s l)) (flat_map (λ l. flat_map (λ r. r ∷ []) (apply s l)) ls) in
    let first = as_many (apply s l) in
    let kind = ap (λ (k : StageKind). length (given k s.arg.items l)) is in
    let its = two.0 in
    let deep = two_of_each s ls is two.1 in
    omega (arith, both, first, kind, its, deep)

through_words : (stages : List Stage) (ls : List (List ℕ)) → map (λ (s : Stage). s.kind) stages ≡ Words ∷ [] → AllByRecursion HasTwo ls → length (flat_map (through (slice_range stages 0 (length stages))) ls) ≡ 2 * length ls
through_words [] ls same two = absurd (let none = ap length same in omega (arith, none))
through_words (s ∷ []) ls same two = two_of_each s ls (ap (λ (kinds : List StageKind). get_or kinds 0 Words) same) two
through_words (s ∷ t ∷ stages) ls same two = absurd (let more = ap length same in omega (arith, more))

module _ (job : Job) (is_job : IsJob job) (one : tasks job 0 ≡ 1) (counted : GeneratedAreCounted) (many seed : ℕ) where
  pub self_records : TallyCountsRecords → EachHasTwoWords → job.agg ≡ Count → map (λ (s : Stage). s.kind) job.stages.items ≡ Words ∷ [] →
      counted_in (tally job (made_lines many seed)) ≡ 2 * many % 2 ^ 64
  self_records sums two agg kinds =
      let made = lines (generated seed many) in
      let all = through_words job.stages.items made kinds (two seed many) in
      let source = ap (λ n. length (flat_map (reach job 0 (last_edge job)) (concat_below n (made_lines many seed)))) one in
      let each = counted seed many in
      sums job (made_lines many seed) agg ∙ ap (λ n. n % 2 ^ 64) (omega (arith, source, all, each))

  -- ---- images

  pub self_images : StartExists → FinishedChainIsCounted → (after : List KeptImage) (table : Values) → EndsIn job (made_lines many seed) (Some 100000) (Some []) (Some after) table →
      length after ≡ 2 + many / 100000
  self_images starts counts after table ends =
      let start = starts job in
      let images = ends.stored.images in
      let kept : after ≡ map kept_of images = ap (λ o. unwrap_or {T = List KeptImage} o []) ends.stored.kept in
      let number = counts job (made_lines many seed) (Some 100000) start.0 images is_job start.1 (ends.stored.chain start.0 start.1) (ap (λ (i : Image). i.final_one) (ends.last_is start.0 start.1) ∙ ends.final) in
      let longest = ap (λ n. most_below n (λ a. length (made_lines many seed a))) one in
      let each = counted seed many in
      let most : most_lines job (made_lines many seed) ≡ many = omega (arith, longest, each) in
      ap length kept ∙ length-map images kept_of ∙ number ∙ ap (λ m. 2 + m / 100000) most
