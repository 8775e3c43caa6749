-- Lines that have no fault, by their words.
use Rattle.std.proofs.Common.{◌≡◌, ℕ, ◌<◌, Bool, true, false, cond, not, ◌&&◌, eqb, List, [], ◌∷◌, refl, sym, ap, ◌∙◌, inl, inr, Option, Some, None, is_none, lit<}
use Rattle.std.specs.Prelude.{codes, bytes_eq, decimal, unwrap_or}
use Rattle.std.specs.Option.{option_map_or}
use Rattle.std.proofs.lemmas.Bool.{and_from, not_from_true, cond-false, lt-leb, lt-ltb, eq-eqb, and_left, and_right, cases_Bool}
use Rattle.std.proofs.lemmas.Option.{same_Some}
use Rattle.flow_defs.specs.declared.job.TheConstants.{SOURCES_MAX, STAGES_MAX, TASKS_MAX}
use Rattle.flow_defs.specs.declared.job.StageKind.{StageKind}
use Rattle.flow_defs.specs.declared.job.AggKind.{AggKind}
use Rattle.flow_defs.specs.declared.job.Exchange.{Exchange}
use Rattle.flow_defs.specs.declared.job.Exchange.TheVariants.{Forward}
use Rattle.stage_fns.specs.Functions.{Functions, has_stage, has_agg, HasStage, HasAgg}
use Rattle.job_text.specs.JobText.{kind_word, agg_word, line_of}
use Rattle.job_text.specs.JobFaults.{Place, is_token, number_of, stage_kind_of, exchange_of, agg_of, tasks_of, source_fault, stage_fault, aggregate_fault}
use Rattle.job_text.specs.Reading.{IsSource, IsStage, IsAggregate}
use Rattle.job_text.proofs.SpellingLemmas.{same_bytes, token_known, number_decimal, agg_known, exchange_known, kind_known}

-- a test that does not hold
pass : {X : Type 0} (b : Bool) (x y z : X) → b ≡ false → y ≡ z → cond b x y ≡ z
pass b x y z fails rest = cond-false b x y fails ∙ rest

-- ---- a source

module _ (place : Place) (first file : List ℕ) (word : bytes_eq first (codes "source") ≡ true) (none : place.stages ≡ 0) (token : is_token file ≡ true) (few : place.sources < SOURCES_MAX) where
  pub source_passes : source_fault place first file ≡ None
  source_passes = pass _ _ _ _ (not_from_true _ (and_from _ _ (and_from _ _ word (eq-eqb _ _ none)) token)) (pass _ _ _ _ (lt-leb _ _ few) refl)

  pub source_is : IsSource place file (line_of (first ∷ file ∷ []))
  source_is = record { text_is = ap (λ w. line_of (w ∷ file ∷ [])) (same_bytes _ _ word); name = token_known file token; few = few; no_stage = none }

-- ---- the aggregate

module _ (functions : Functions) (place : Place) (first kind tasks : List ℕ) (k : AggKind) (n : ℕ) (word : bytes_eq first (codes "aggregate") ≡ true) (some : 0 < place.sources) (kind_is : agg_of kind ≡ Some k) (has : HasAgg functions k) (tasks_are : number_of TASKS_MAX tasks ≡ Some n) where
  pub aggregate_passes : aggregate_fault functions place first kind tasks ≡ None
  aggregate_passes =
      pass _ _ _ _ (not_from_true _ (and_from _ _ word (lt-ltb _ _ some)))
      (pass _ _ _ _ (ap is_none kind_is)
      (pass _ _ _ _ (ap (λ (o : Option AggKind). not (option_map_or (has_agg functions) o true)) kind_is ∙ not_from_true _ has)
      (pass _ _ _ _ (ap is_none tasks_are) refl)))

  pub aggregate_is : IsAggregate functions place k n (line_of (first ∷ kind ∷ tasks ∷ []))
  aggregate_is =
      let number = number_decimal TASKS_MAX n tasks (lit< tt) tasks_are in
      record {
        text_is = ap (λ w. line_of (w ∷ kind ∷ tasks ∷ [])) (same_bytes _ _ word) ∙ ap (λ w. line_of (codes "aggregate" ∷ w ∷ tasks ∷ [])) (agg_known kind k kind_is) ∙ ap (λ w. line_of (codes "aggregate" ∷ agg_word k ∷ w ∷ [])) number.0;
        sources = some;
        has_function = has;
        low = number.1;
        high = number.2;
      }

-- ---- a stage

module _ (functions : Functions) (place : Place) (first kind tasks exchange : List ℕ) (k : StageKind) (arg : List ℕ) (n : ℕ) (e : Exchange)
    (word : bytes_eq first (codes "stage") ≡ true) (some : 0 < place.sources) (few : place.stages < STAGES_MAX)
    (kind_is : let found : StageKind × List ℕ = (k, arg) in stage_kind_of kind ≡ Some found) (has : HasStage functions k) (tasks_are : number_of TASKS_MAX tasks ≡ Some n)
    (exchange_is : exchange_of exchange ≡ Some e) (width : e ≡ Forward → place.tasks ≡ n) where
  no_width : bytes_eq exchange (codes "forward") ≡ true → not (eqb (tasks_of tasks) place.tasks) ≡ false
  no_width forward =
      let is : e ≡ Forward = same_Some e Forward (sym exchange_is ∙ ap exchange_of (same_bytes exchange (codes "forward") forward)) in
      not_from_true _ (eq-eqb _ _ (ap (λ (o : Option ℕ). unwrap_or o 0) tasks_are ∙ sym (width is)))

  wide : (bytes_eq exchange (codes "forward") && not (eqb (tasks_of tasks) place.tasks)) ≡ false
  wide = elim (cases_Bool (bytes_eq exchange (codes "forward"))) [ inl forward ↦ and_right _ _ (no_width forward) | inr other ↦ and_left _ _ other ]

  pub stage_passes : stage_fault functions place first kind tasks exchange ≡ None
  stage_passes =
      pass _ _ _ _ (not_from_true _ (and_from _ _ word (lt-ltb _ _ some)))
      (pass _ _ _ _ (lt-leb _ _ few)
      (pass _ _ _ _ (ap is_none kind_is)
      (pass _ _ _ _ (ap (λ (o : Option (StageKind × List ℕ)). not (option_map_or (λ found. has_stage functions found.0) o true)) kind_is ∙ not_from_true _ has)
      (pass _ _ _ _ (ap is_none tasks_are)
      (pass _ _ _ _ (ap is_none exchange_is)
      (pass _ _ _ _ wide refl))))))

  pub stage_is : IsStage functions place k arg n e (line_of (first ∷ kind ∷ tasks ∷ exchange ∷ []))
  stage_is =
      let number = number_decimal TASKS_MAX n tasks (lit< tt) tasks_are in
      let spelled = kind_known kind arg k kind_is in
      record {
        text_is =
            ap (λ w. line_of (w ∷ kind ∷ tasks ∷ exchange ∷ [])) (same_bytes _ _ word)
            ∙ ap (λ w. line_of (codes "stage" ∷ w ∷ tasks ∷ exchange ∷ [])) spelled.0
            ∙ ap (λ w. line_of (codes "stage" ∷ kind_word k arg ∷ w ∷ exchange ∷ [])) number.0
            ∙ ap (λ w. line_of (codes "stage" ∷ kind_word k arg ∷ decimal n ∷ w ∷ [])) (exchange_known exchange e exchange_is);
        sources = some;
        few = few;
        fits = record { argument = spelled.1; has_function = has; low = number.1; high = number.2; width = width };
      }
