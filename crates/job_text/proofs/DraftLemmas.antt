-- A job under way, line by line.
use Rattle.std.proofs.Common.{◌≡◌, ℕ, zero, suc, ◌≤◌, List, [], ◌∷◌, ◌++◌, length, map, refl, sym, ap, ◌∙◌, subst, Bor, arith, append_assoc}
use Rattle.std.proofs.lemmas.List.{map-append, length_push}
use Rattle.flow_defs.specs.Items.{Items}
use Rattle.flow_defs.specs.Lines.{lines}
use Rattle.flow_defs.specs.Jobs.{IsJob, tasks}
use Rattle.flow_defs.specs.declared.job.TheConstants.{TASKS_MAX}
use Rattle.flow_defs.specs.declared.job.Job.{Job}
use Rattle.flow_defs.specs.declared.job.Stage.{Stage}
use Rattle.flow_defs.specs.declared.job.StageKind.{StageKind}
use Rattle.flow_defs.specs.declared.job.Exchange.{Exchange}
use Rattle.stage_fns.specs.Functions.{Functions}
use Rattle.job_text.specs.declared.lines.JobLines.{JobLines}
use Rattle.job_text.specs.declared.lines.Line.TheVariants as line
use Rattle.job_text.specs.JobText.{IsJobText, head_lines, source_line, stage_line}
use Rattle.job_text.specs.JobFaults.{Place}
use Rattle.job_text.specs.Reading.{lines_left, TakesLine, IsStageBehind}
use Rattle.job_text.proofs.Drafts.{IsDraft, last_tasks}
use Rattle.job_text.proofs.Lists.{fit_push, last_push, widths_of, counts_of, arguments_of, functions_of, tasks_before}

-- ---- one more line

pub onto : (text : List ℕ) (all front : List (List ℕ)) (left rest : List (List ℕ)) (l : List ℕ) → all ≡ front ++ left → left ≡ text ∷ rest → text ≡ l → all ≡ (front ++ l ∷ []) ++ rest
onto text all front left rest l all_are left_are text_is = all_are ∙ ap (λ x. front ++ x) left_are ∙ ap (λ t. front ++ t ∷ rest) text_is ∙ sym (append_assoc front (l ∷ []) rest)

one_stage_more : (sources : List (Items ℕ)) (stages : List Stage) (s : Stage) → head_lines sources (stages ++ s ∷ []) ≡ head_lines sources stages ++ stage_line s ∷ []
one_stage_more sources stages s =
    let front = map (λ (file : Items ℕ). source_line file.items) sources in
    ap (λ x. front ++ x) (map-append stage_line stages (s ∷ [])) ∙ sym (append_assoc front (map stage_line stages) (stage_line s ∷ []))

push_length : {X : Type 0} (xs : List X) (x : X) (n : ℕ) → n ≡ length xs → suc n ≡ length (xs ++ x ∷ [])
push_length xs x n is = let pushed = length_push xs x in omega (arith, is, pushed)

module _ (functions : Functions) (text : List ℕ) (sources : List (Items ℕ)) (old new : JobLines) where
  pub takes_stage : (stages : List Stage) (kind : StageKind) (arg : Bor (List ℕ)) (item : Items ℕ) (n : ℕ) (e : Exchange) → IsDraft functions text sources stages old → TakesLine functions old new (line.Stage kind arg n e) → item.items ≡ arg.now
      → let s : Stage = record { kind = kind; arg = item; tasks = n; exchange = e } in IsDraft functions text sources (stages ++ s ∷ []) new
  takes_stage stages kind arg item n e draft takes arg_is =
      let s : Stage = record { kind = kind; arg = item; tasks = n; exchange = e } in
      let is = takes.is_line in
      let spelled : takes.text ≡ stage_line s = is.text_is ∙ ap (λ a. let t : Stage = record { kind = kind; arg = record { items = a; room = item.room }; tasks = n; exchange = e } in stage_line t) (sym arg_is) in
      let place = takes.goes_on.0 in
      let stages_now : new.stages ≡ suc old.stages = ap (λ (p : Place). p.stages) place in
      let few = is.few in
      let count = draft.stage_count in
      let pushed : suc old.stages ≡ length (stages ++ s ∷ []) = push_length stages s old.stages count in
      let behind : IsStageBehind functions (last_tasks (length sources) stages) kind item.items n e =
      subst (λ a. IsStageBehind functions (last_tasks (length sources) stages) kind a n e) (sym arg_is) (subst (λ m. IsStageBehind functions m kind arg.now n e) draft.tasks_are is.fits) in
      record {
        lines_are = onto takes.text (lines text) (head_lines sources stages) (lines_left old) (lines_left new) (stage_line s) draft.lines_are takes.lines_are spelled ∙ ap (λ x. x ++ lines_left new) (sym (one_stage_more sources stages s));
        no_fault = sym takes.goes_on.1 ∙ draft.no_fault;
        source_count = ap (λ (p : Place). p.sources) place ∙ draft.source_count;
        stage_count = stages_now ∙ pushed;
        tasks_are = ap (λ (p : Place). p.tasks) place ∙ sym (last_push (length sources) stages s);
        few_sources = draft.few_sources;
        names = draft.names;
        few_stages = omega (arith, few, pushed);
        stages_fit = fit_push functions (length sources) stages s draft.stages_fit behind;
      }

-- ---- the last line

pub before_is : (job : Job) (e : ℕ) → tasks_before (length job.sources.items) job.stages.items job.agg_tasks e ≡ tasks job e
before_is job zero = refl
before_is job (suc e) = refl

module _ (functions : Functions) (text : List ℕ) (job : Job) (old new : JobLines) (draft : IsDraft functions text job.sources.items job.stages.items old) (takes : TakesLine functions old new (line.Aggregate job.agg job.agg_tasks)) (text_is : job.text.items ≡ text) where
  counts : (i : ℕ) → (1 ≤ tasks job i) × (tasks job i ≤ TASKS_MAX)
  counts zero = let some = takes.is_line.sources in let count = draft.source_count in let few = draft.few_sources in (omega (arith, some, count), few)
  counts (suc i) = counts_of functions job.agg_tasks (length job.sources.items) job.stages.items draft.stages_fit (takes.is_line.low, takes.is_line.high) i

  is_job : IsJob job
  is_job = record {
    stages = draft.few_stages;
    counts = λ i le. counts i;
    arguments = arguments_of functions job.agg_tasks (length job.sources.items) job.stages.items draft.stages_fit;
    widths = λ e le forward. sym (before_is job e) ∙ widths_of functions job.agg_tasks (length job.sources.items) job.stages.items draft.stages_fit e forward;
  }

  pub job_read : IsJobText functions text job
  job_read = record {
    lines_are = draft.lines_are ∙ ap (λ x. head_lines job.sources.items job.stages.items ++ x) (takes.lines_are ∙ ap (λ x. takes.text ∷ x) takes.goes_on.0 ∙ ap (λ t. t ∷ []) takes.is_line.text_is);
    text_is = text_is;
    is_job = is_job;
    names = draft.names;
    stage_functions = functions_of functions job.agg_tasks (length job.sources.items) job.stages.items draft.stages_fit;
    agg_function = takes.is_line.has_function;
  }
