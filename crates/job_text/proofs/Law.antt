-- A text of a job has no fault.
use Rattle.std.proofs.Common.{◌≡◌, ℕ, suc, ◌+◌, ◌<◌, ◌≤◌, true, false, List, [], ◌∷◌, ◌++◌, length, map, refl, sym, ap, ◌∙◌, subst, Option, Some, None, arith, append_assoc}
use Rattle.std.specs.List.{AllByRecursion}
use Rattle.std.specs.Option.{option_map_or}
use Rattle.std.proofs.lemmas.Option.{slice_get_past}
use Rattle.flow_defs.specs.Items.{Items}
use Rattle.flow_defs.specs.Stages.{IsToken}
use Rattle.flow_defs.specs.Jobs.{tasks, last_edge}
use Rattle.flow_defs.specs.declared.job.TheConstants.{SOURCES_MAX, STAGES_MAX, TASKS_MAX}
use Rattle.flow_defs.specs.declared.job.Job.{Job}
use Rattle.flow_defs.specs.declared.job.Stage.{Stage}
use Rattle.flow_defs.specs.declared.job.AggKind.{AggKind}
use Rattle.stage_fns.specs.Functions.{Functions, HasAgg}
use Rattle.job_text.specs.declared.fault.JobFault.{JobFault}
use Rattle.job_text.specs.JobText.{IsJobText, source_line, stage_line, aggregate_line}
use Rattle.job_text.specs.JobFaults.{Place, line_fault, behind, fault_from, first_fault}
use Rattle.job_text.specs.Reading.{IsSource, IsStage, IsAggregate}
use Rattle.job_text.proofs.Drafts.{AreStagesBehind}
use Rattle.job_text.proofs.Lists.{stages_fit}
use Rattle.job_text.proofs.DraftLemmas.{before_is}
use Rattle.job_text.proofs.AcceptLemmas.{source_accepted, source_behind, stage_accepted, stage_behind, aggregate_accepted, aggregate_behind}

abbrev at : ℕ → ℕ → ℕ → Place
at sources stages tasks_there = record { sources = sources; stages = stages; tasks = tasks_there; ended = false }

module _ (functions : Functions) where
  -- a line that has no fault
  passes : (place next : Place) (number : ℕ) (text : List ℕ) (rest : List (List ℕ)) → line_fault functions place text ≡ None → behind place text ≡ next → fault_from functions next (suc number) rest ≡ None → fault_from functions place number (text ∷ rest) ≡ None
  passes place next number text rest fine behind_is none =
      ap (λ (o : Option JobFault). option_map_or (λ fault. Some (number, fault)) o (fault_from functions (behind place text) (suc number) rest)) fine
      ∙ ap (λ p. fault_from functions p (suc number) rest) behind_is ∙ none

  sources_pass : (sources : List (Items ℕ)) (n all : ℕ) (rest : List (List ℕ)) → n + length sources ≡ all → all ≤ SOURCES_MAX → AllByRecursion (λ (file : Items ℕ). IsToken file.items) sources
      → ((m : ℕ) → fault_from functions (at all 0 all) m rest ≡ None) → (number : ℕ) → fault_from functions (at n 0 n) number (map (λ (file : Items ℕ). source_line file.items) sources ++ rest) ≡ None
  sources_pass [] n all rest sum few names none number = let same : n ≡ all = omega (arith, sum) in subst (λ k. fault_from functions (at k 0 k) number rest ≡ None) (sym same) (none number)
  sources_pass (file ∷ sources) n all rest sum few names none number =
      let is : IsSource (at n 0 n) file.items (source_line file.items) = record { text_is = refl; name = names.0; few = omega (arith, sum, few); no_stage = refl } in
      passes (at n 0 n) (at (suc n) 0 (suc n)) number (source_line file.items) (map (λ (f : Items ℕ). source_line f.items) sources ++ rest)
      (source_accepted functions (at n 0 n) refl file.items (source_line file.items) is) (source_behind functions (at n 0 n) refl file.items (source_line file.items) is)
      (sources_pass sources (suc n) all rest (omega (arith, sum)) few names.1 none (suc number))

  stages_pass : (sources : ℕ) (stages : List Stage) (k before : ℕ) (rest : List (List ℕ)) → 0 < sources → k + length stages ≤ STAGES_MAX → AreStagesBehind functions before stages
      → ((i t m : ℕ) → fault_from functions (at sources i t) m rest ≡ None) → (number : ℕ) → fault_from functions (at sources k before) number (map stage_line stages ++ rest) ≡ None
  stages_pass sources [] k before rest some few fit none number = none k before number
  stages_pass sources (s ∷ stages) k before rest some few fit none number =
      let is : IsStage functions (at sources k before) s.kind s.arg.items s.tasks s.exchange (stage_line s) = record { text_is = refl; sources = some; few = omega (arith, few); fits = fit.0 } in
      passes (at sources k before) (at sources (suc k) s.tasks) number (stage_line s) (map stage_line stages ++ rest)
      (stage_accepted functions (at sources k before) refl s.kind s.arg.items s.tasks s.exchange (stage_line s) is) (stage_behind functions (at sources k before) refl s.kind s.arg.items s.tasks s.exchange (stage_line s) is)
      (stages_pass sources stages (suc k) s.tasks rest some (omega (arith, few)) fit.1 none (suc number))

  aggregate_passes : (kind : AggKind) (n : ℕ) → HasAgg functions kind → 1 ≤ n → n ≤ TASKS_MAX → (sources : ℕ) → 0 < sources → (i t m : ℕ) → fault_from functions (at sources i t) m (aggregate_line kind n ∷ []) ≡ None
  aggregate_passes kind n has low high sources some i t m =
      let is : IsAggregate functions (at sources i t) kind n (aggregate_line kind n) = record { text_is = refl; sources = some; has_function = has; low = low; high = high } in
      passes (at sources i t) (record { sources = sources; stages = i; tasks = t; ended = true }) m (aggregate_line kind n) []
      (aggregate_accepted functions (at sources i t) refl kind n (aggregate_line kind n) is) (aggregate_behind functions (at sources i t) refl kind n (aggregate_line kind n) is) refl

  job_fits : (text : List ℕ) (job : Job) → IsJobText functions text job → AreStagesBehind functions (length job.sources.items) job.stages.items
  job_fits text job is =
      let ok = is.is_job in
      stages_fit functions job.agg_tasks (length job.sources.items) job.stages.items (λ i lt. ok.counts (suc i) (omega arith)) (λ e lt forward. before_is job e ∙ ok.widths e (omega arith) forward) ok.arguments is.stage_functions

  pub accepted : (text : List ℕ) (job : Job) → IsJobText functions text job → first_fault functions text ≡ None
  accepted text job is =
      let sources = job.sources.items in
      let ok = is.is_job in
      let first = ok.counts 0 (omega arith) in
      let last = ok.counts (suc (last_edge job)) (omega arith) in
      let past : tasks job (suc (last_edge job)) ≡ job.agg_tasks = ap (λ (o : Option Stage). option_map_or (λ (s : Stage). s.tasks) o job.agg_tasks) (slice_get_past job.stages.items (last_edge job) (omega arith)) in
      let front = map (λ (file : Items ℕ). source_line file.items) sources in
      let back = map stage_line job.stages.items in
      let end = aggregate_line job.agg job.agg_tasks ∷ [] in
      ap (fault_from functions (at 0 0 0) 1) (is.lines_are ∙ append_assoc front back end)
      ∙ sources_pass sources 0 (length sources) (back ++ end) (omega arith) first.1 is.names
      (stages_pass (length sources) job.stages.items 0 (length sources) end first.0 (let few = ok.stages in omega (arith, few)) (job_fits text job is) (aggregate_passes job.agg job.agg_tasks is.agg_function (subst (λ n. 1 ≤ n) past last.0) (subst (λ n. n ≤ TASKS_MAX) past last.1) (length sources) first.0)) 1
