-- The jobs of a text.
use Rattle.std.proofs.Common.{◌≡◌, ℕ, zero, suc, ◌≤◌, List, [], ◌∷◌, length, map, get_or, Option, Some, IfSome, refl, sym, ap, subst, ◌∙◌, arith}
use Rattle.std.specs.Prelude.{slice_get}
use Rattle.std.specs.Option.{option_map_or}
use Rattle.std.proofs.lemmas.List.{length-map}
use Rattle.std.specs.List.{AllByRecursion}
use Rattle.flow_defs.specs.Items.{Items}
use Rattle.flow_defs.specs.Lines.{lines}
use Rattle.flow_defs.specs.Tables.{Values}
use Rattle.outside.specs.Keepers.{KeptImage}
use Rattle.job_outcome.specs.Storing.{EndsIn, HasStored}
use Rattle.flow_defs.specs.declared.job.Job.{Job}
use Rattle.flow_defs.specs.declared.job.Stage.{Stage}
use Rattle.flow_defs.specs.declared.job.StageKind.{StageKind}
use Rattle.flow_defs.specs.declared.job.StageKind.TheVariants.{Words, Upper, Keep, Field}
use Rattle.flow_defs.specs.declared.job.AggKind.{AggKind}
use Rattle.flow_defs.specs.declared.job.AggKind.TheVariants.{Count, Sum, Max}
use Rattle.stage_fns.specs.Functions.{Functions, HasStage, HasAgg}
use Rattle.job_text.specs.JobText.{IsJobText}
use Rattle.job_text.specs.KnownKinds.{every_kind}
use Rattle.job_text.specs.Laws.{JobTextNamesItsFiles, JobTextSaysTasks, JobTextSaysWork, source_files}
use Rattle.collecting_worker.specs.Accounts.{HasText}
use Rattle.commands.specs.declared.run.TheConstants.{JOB_MAX}
use Rattle.command_parts.specs.Sources.{TellsSources, source_name}
use Rattle.job_command.proofs.SameJobs.{work_of, same_work}
use Rattle.job_command.proofs.StoringLemmas.{stored_too, ends_too}

known_stage : (kind : StageKind) → HasStage every_kind kind
known_stage Words = refl
known_stage Upper = refl
known_stage Keep = refl
known_stage Field = refl

known_agg : (kind : AggKind) → HasAgg every_kind kind
known_agg Count = refl
known_agg Sum = refl
known_agg Max = refl

known_stages : (stages : List Stage) → AllByRecursion (λ (s : Stage). HasStage every_kind s.kind) stages
known_stages [] = tt
known_stages (s ∷ stages) = (known_stage s.kind, known_stages stages)

-- a job of a text that is read with some functions is one of it where every kind has a function
pub of_every_kind : (functions : Functions) (text : List ℕ) (job : Job) → IsJobText functions text job → IsJobText every_kind text job
of_every_kind functions text job is = record {
  lines_are = is.lines_are;
  text_is = is.text_is;
  is_job = is.is_job;
  names = is.names;
  stage_functions = known_stages job.stages.items;
  agg_function = known_agg job.agg;
}

-- it has its text
pub has_text : (functions : Functions) (text : List ℕ) (job : Job) → IsJobText functions text job → length text ≤ JOB_MAX → HasText job
has_text functions text job is fits = record {
  is_job = is.is_job;
  text = subst (λ (t : List ℕ). IsJobText every_kind t job) (sym is.text_is) (of_every_kind functions text job is);
  short = let same = ap length is.text_is in omega (arith, same, fits);
}

-- all jobs of a text do the same
pub one_work : JobTextSaysTasks → JobTextSaysWork → (functions : Functions) (text : List ℕ) (job other : Job) → IsJobText functions text job → IsJobText functions text other → work_of job ≡ work_of other
one_work says_tasks says_work functions text job other is is_other =
    let tasks = says_tasks functions text job other is is_other in
    let work = says_work functions text job other is is_other in
    same_work job other tasks.edges tasks.widths tasks.exchanges work.kinds work.arguments work.aggregate (is.text_is ∙ sym is_other.text_is)

-- ---- the sources of two jobs of a text

abbrev file_name : Items ℕ → List ℕ
file_name file = file.items

-- the name of a source stands among the files
pub name_in : (sources : List (Items ℕ)) (a : ℕ) → option_map_or file_name (slice_get sources a) [] ≡ get_or (map file_name sources) a []
name_in [] a = refl
name_in (file ∷ sources) zero = refl
name_in (file ∷ sources) (suc a) = name_in sources a

-- what one job's sources are told to have, the other's are
pub tells_same : (job other : Job) (contents : List ℕ → Option (List ℕ)) (bytes : ℕ → List ℕ) → source_files other ≡ source_files job → TellsSources job contents bytes → TellsSources other contents bytes
tells_same job other contents bytes same tells a inside =
    let many : length other.sources.items ≡ length job.sources.items = sym (length-map other.sources.items file_name) ∙ ap length same ∙ length-map job.sources.items file_name in
    let name : source_name other a ≡ source_name job a = name_in other.sources.items a ∙ ap (λ l. get_or l a []) same ∙ sym (name_in job.sources.items a) in
    ap contents name ∙ tells a (omega (arith, many, inside))

-- ---- the job that was read, and another one of the text that is told

module _ (says_tasks : JobTextSaysTasks) (says_work : JobTextSaysWork) (names_files : JobTextNamesItsFiles) (functions : Functions) (contents : List ℕ → Option (List ℕ)) (name read text : List ℕ) (ran job : Job)
    (was_read : IfSome (contents name) (λ held. read ≡ held)) (told : contents name ≡ Some text) (is_ran : IsJobText functions read ran) (is_job : IsJobText functions text job) where
  read_text : read ≡ text
  read_text = subst (λ o. IfSome o (λ held. read ≡ held)) told was_read

  ran_too : IsJobText functions text ran
  ran_too = subst (λ (t : List ℕ). IsJobText functions t ran) read_text is_ran

  same_as_ran : work_of ran ≡ work_of job
  same_as_ran = one_work says_tasks says_work functions text ran job ran_too is_job

  module _ (bytes : ℕ → List ℕ) (tells : TellsSources job contents bytes) (given : List ℕ → Option (List ℕ)) (given_is : given ≡ contents) where
    tells_ran : TellsSources ran given bytes
    tells_ran = subst (λ (f : List ℕ → Option (List ℕ)). TellsSources ran f bytes) (sym given_is) (tells_same job ran contents bytes (names_files functions text ran job ran_too is_job) tells)

    module _ (every : Option ℕ) (held between after : Option (List KeptImage)) (between_is : between ≡ held) where
      pub stored_of_ran : ((bs : ℕ → List ℕ) → TellsSources ran given bs → HasStored ran (λ a. lines (bs a)) every between after) → HasStored job (λ a. lines (bytes a)) every held after
      stored_of_ran chain = stored_too ran job same_as_ran (λ a. lines (bytes a)) every held after
          (subst (λ (o : Option (List KeptImage)). HasStored ran (λ a. lines (bytes a)) every o after) between_is (chain bytes tells_ran))

      pub ends_of_ran : (table : Values) → ((bs : ℕ → List ℕ) → TellsSources ran given bs → EndsIn ran (λ a. lines (bs a)) every between after table) → EndsIn job (λ a. lines (bytes a)) every held after table
      ends_of_ran table ends = ends_too ran job same_as_ran (λ a. lines (bytes a)) every held after table
          (subst (λ (o : Option (List KeptImage)). EndsIn ran (λ a. lines (bytes a)) every o after table) between_is (ends bytes tells_ran))
