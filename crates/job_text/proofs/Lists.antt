-- Stages that follow one another, by their places and one by one.
use Rattle.std.proofs.Common.{◌≡◌, ℕ, zero, suc, ◌<◌, ◌≤◌, List, [], ◌∷◌, ◌++◌, length, refl, sym, ◌∙◌, arith}
use Rattle.std.specs.Prelude.{slice_get}
use Rattle.std.specs.Option.{option_map_or}
use Rattle.std.specs.List.{AllByRecursion}
use Rattle.flow_defs.specs.Stages.{IsArgument}
use Rattle.flow_defs.specs.declared.job.TheConstants.{TASKS_MAX}
use Rattle.flow_defs.specs.declared.job.Stage.{Stage}
use Rattle.flow_defs.specs.declared.job.Exchange.{Exchange}
use Rattle.flow_defs.specs.declared.job.Exchange.TheVariants.{Hash, Forward}
use Rattle.stage_fns.specs.Functions.{Functions, HasStage}
use Rattle.job_text.specs.Reading.{IsStageBehind}
use Rattle.job_text.proofs.Drafts.{last_tasks, AreStagesBehind}

-- the tasks of the stage at a place, and those of the aggregate behind the last
abbrev pub tasks_in : List Stage → ℕ → ℕ → ℕ
tasks_in stages agg i = option_map_or (λ (s : Stage). s.tasks) (slice_get stages i) agg

-- the tasks of the stage before a place
abbrev pub tasks_before : ℕ → List Stage → ℕ → ℕ → ℕ
tasks_before before stages agg zero = before
tasks_before before stages agg (suc i) = tasks_in stages agg i

abbrev pub exchange_in : List Stage → ℕ → Exchange
exchange_in stages i = option_map_or (λ (s : Stage). s.exchange) (slice_get stages i) Hash

before_rest : (before agg : ℕ) (s : Stage) (stages : List Stage) (e : ℕ) → tasks_before s.tasks stages agg e ≡ tasks_before before (s ∷ stages) agg (suc e)
before_rest before agg s stages zero = refl
before_rest before agg s stages (suc e) = refl

hash_forward : Hash ≡ Forward → ⊥
hash_forward is = cc

module _ (functions : Functions) (agg : ℕ) where
  pub widths_of : (before : ℕ) (stages : List Stage) → AreStagesBehind functions before stages → (e : ℕ) → exchange_in stages e ≡ Forward → tasks_before before stages agg e ≡ tasks_in stages agg e
  widths_of before [] fit e forward = absurd (hash_forward forward)
  widths_of before (s ∷ stages) fit zero forward = fit.0.width forward
  widths_of before (s ∷ stages) fit (suc e) forward = sym (before_rest before agg s stages e) ∙ widths_of s.tasks stages fit.1 e forward

  pub counts_of : (before : ℕ) (stages : List Stage) → AreStagesBehind functions before stages → (1 ≤ agg) × (agg ≤ TASKS_MAX) → (i : ℕ) → (1 ≤ tasks_in stages agg i) × (tasks_in stages agg i ≤ TASKS_MAX)
  counts_of before [] fit bounds i = bounds
  counts_of before (s ∷ stages) fit bounds zero = (fit.0.low, fit.0.high)
  counts_of before (s ∷ stages) fit bounds (suc i) = counts_of s.tasks stages fit.1 bounds i

  pub arguments_of : (before : ℕ) (stages : List Stage) → AreStagesBehind functions before stages → AllByRecursion (λ (s : Stage). IsArgument s.kind s.arg.items) stages
  arguments_of before [] fit = tt
  arguments_of before (s ∷ stages) fit = (fit.0.argument, arguments_of s.tasks stages fit.1)

  pub functions_of : (before : ℕ) (stages : List Stage) → AreStagesBehind functions before stages → AllByRecursion (λ (s : Stage). HasStage functions s.kind) stages
  functions_of before [] fit = tt
  functions_of before (s ∷ stages) fit = (fit.0.has_function, functions_of s.tasks stages fit.1)

  pub stages_fit : (before : ℕ) (stages : List Stage) → ((i : ℕ) → i < length stages → (1 ≤ tasks_in stages agg i) × (tasks_in stages agg i ≤ TASKS_MAX))
      → ((e : ℕ) → e < length stages → exchange_in stages e ≡ Forward → tasks_before before stages agg e ≡ tasks_in stages agg e)
      → AllByRecursion (λ (s : Stage). IsArgument s.kind s.arg.items) stages → AllByRecursion (λ (s : Stage). HasStage functions s.kind) stages → AreStagesBehind functions before stages
  stages_fit before [] counts widths arguments has = tt
  stages_fit before (s ∷ stages) counts widths arguments has =
      let first = counts 0 (omega arith) in
      let width = widths 0 (omega arith) in (
        record { argument = arguments.0; has_function = has.0; low = first.0; high = first.1; width = width },
        stages_fit s.tasks stages (λ i lt. counts (suc i) (omega arith)) (λ e lt forward. before_rest before agg s stages e ∙ widths (suc e) (omega arith) forward) arguments.1 has.1,
      )

-- ---- one stage more

pub last_push : (before : ℕ) (stages : List Stage) (s : Stage) → last_tasks before (stages ++ s ∷ []) ≡ s.tasks
last_push before [] s = refl
last_push before (first ∷ stages) s = last_push first.tasks stages s

pub fit_push : (functions : Functions) (before : ℕ) (stages : List Stage) (s : Stage) → AreStagesBehind functions before stages → IsStageBehind functions (last_tasks before stages) s.kind s.arg.items s.tasks s.exchange → AreStagesBehind functions before (stages ++ s ∷ [])
fit_push functions before [] s fit more = (more, tt)
fit_push functions before (first ∷ stages) s fit more = (fit.0, fit_push functions first.tasks stages s fit.1 more)
