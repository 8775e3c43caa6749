-- What the program does with the words, the functions and the world that it is handed. The statuses are this project's own.
use Rattle.std.specs.Prelude.{◌≡◌, ◌≢◌, ◌<◌, ◌⊎◌, ⊤, List, ℕ, [], ◌∷◌, ◌++◌, length, Option, Some, IfSome, Contains}
use Rattle.flow_defs.specs.Jobs.{segments_needed, tasks}
use Rattle.flow_defs.specs.Lines.{lines}
use Rattle.flow_defs.specs.Limits.{job_text_max}
use Rattle.flow_defs.specs.Tables.{table_text}
use Rattle.flow_defs.specs.declared.image.Image.{Image}
use Rattle.flow_defs.specs.declared.job.AggKind.TheVariants.{Count, Sum, Max}
use Rattle.flow_defs.specs.declared.job.Job.{Job}
use Rattle.flow_defs.specs.declared.job.StageKind.TheVariants.{Words, Upper, Keep, Field}
use Rattle.outside.specs.Faults.{HasRisen}
use Rattle.outside.specs.Keepers.{KeptImage}
use Rattle.stage_fns.specs.Functions.{Functions}
use Rattle.job_plan.specs.Limits.{IsOverLimit}
use Rattle.plain_machine.specs.Loads.{HasHeavyEdge}
use Rattle.job_outcome.specs.Storing.{HasKept}
use Rattle.job_text.specs.Words.{IsGen, IsSelfRun, IsInspect}
use Rattle.job_text.specs.declared.words.RunOptions.{RunOptions}
use Rattle.command_parts.specs.FaultTexts.{fault_line}
use Rattle.command_parts.specs.Front.{GotFront}
use Rattle.command_parts.specs.Held.{TellsLast}
use Rattle.command_parts.specs.Sources.{AreWithinLimits, TellsSources}
use Rattle.command_parts.specs.declared.fault.Fault.TheVariants.{Memory}
use Rattle.inspect_command.specs.Inspects.{HasNoneToShow, IsImageKept}
use Rattle.script_command.specs.Scripts.{NamesScript, HasEnough, IsNoScript, IsScriptWith, PassesScriptLimit, TellsScript}
use Rattle.job_command.specs.Pools.{HasPool}
use Rattle.commands.specs.Run.{NamesCommand, NamesJob, StartsJob, HasChain, HasDone, HasDoneInPart, HasToldOverCredit, EndsWith, IsHindered, IsNoJob, IsTold, PassesLimit, TellsJob, TellsRun}
use Rattle.commands.specs.SelfRuns.{HasFunctions, LacksFunction}

-- The kinds of stages and aggregates that there are, each with a function.
abbrev pub all_functions : Functions
all_functions = record { stages = Words ∷ Upper ∷ Keep ∷ Field ∷ []; aggs = Count ∷ Sum ∷ Max ∷ [] }

-- The world at one time: what files hold, how many inputs are lent and how many faults there were of them, the images that the keeper holds,
-- what the output got, and what the output for errors got, each with its count of faults.
pub record World : Type 0 where
  pub contents : List ℕ → Option (List ℕ)
  pub lent : ℕ
  pub input_faults : ℕ
  pub images : Option (List KeptImage)
  pub keeper_faults : ℕ
  pub output : Option (List ℕ)
  pub output_faults : ℕ
  pub errors : Option (List ℕ)
  pub error_faults : ℕ

-- Where the program is called with these words and functions in the world before, this is the status with which it ends and the world after.
pub record IsAnswer (words : List (List ℕ)) (functions : Functions) (before after : World) (status : ℕ) : Type 0 where
  -- Status 0 comes only where all work was done: the pool was large enough, the keeper held no image, no source was over a limit, and
  -- the output got the text of the tally, the replies to all events of the script, the lines of the seed, what a run over such comes to,
  -- or the lines of the keeper's last image, and nothing else.
  pub done : status ≡ 0 → HasDone words functions before.contents before.images before.output after.output
  -- Which status comes where the words are no command, the text is no job's or no script's, a function of the job of `selfrun` is lacking,
  -- or a limit is passed.
  pub usage : status ≡ 2 → NamesCommand words → ⊥
  pub accepted : status ≢ 2 → NamesCommand words
  pub text : status ≡ 3 → NamesJob words before.contents (IsNoJob functions)
      ⊎ NamesScript words before.contents IsNoScript
      ⊎ LacksFunction words functions
  pub text_refused : (options : RunOptions) (text : List ℕ) → TellsJob words before.contents options text →
      IsNoJob functions text → Contains (3 ∷ 4 ∷ 70 ∷ []) status
  pub script_refused : (text : List ℕ) → TellsScript words before.contents text → IsNoScript text →
      Contains (3 ∷ 4 ∷ 70 ∷ []) status
  pub limit : status ≡ 10 → PassesLimit words functions before.contents
      ⊎ NamesScript words before.contents PassesScriptLimit
  pub job_refused : (options : RunOptions) (text : List ℕ) → TellsJob words before.contents options text →
      job_text_max < length text → Contains (10 ∷ 4 ∷ 70 ∷ []) status
  pub pool_refused : (options : RunOptions) (job : Job) →
      TellsRun words functions before.contents options job → options.pool < segments_needed job →
      Contains (10 ∷ 4 ∷ 70 ∷ []) status
  pub source_refused : (options : RunOptions) (job : Job) (bytes : ℕ → List ℕ) (a : ℕ) →
      TellsRun words functions before.contents options job → TellsSources job before.contents bytes →
      a < tasks job 0 → IsOverLimit (bytes a) → Contains (10 ∷ 4 ∷ 5 ∷ 8 ∷ 11 ∷ 12 ∷ 70 ∷ []) status
  pub over_refused : (text : List ℕ) → TellsScript words before.contents text → PassesScriptLimit text →
      Contains (10 ∷ 4 ∷ 70 ∷ []) status
  -- An input fault comes only where the count of the files rose, an output fault only where that of the output did.
  pub input : status ≡ 4 → HasRisen before.input_faults after.input_faults
  pub output : status ≡ 7 → HasRisen before.output_faults after.output_faults
  -- A keeper's fault comes only where its count rose. Behind the images that it holds it gets the spellings of some, and none where no job
  -- may start.
  pub keeper : status ≡ 5 → HasRisen before.keeper_faults after.keeper_faults
  pub kept : (images : List Image) × HasKept before.images after.images images
  pub kept_else : (StartsJob words functions before.contents before.images (λ job. ⊤) → ⊥) → after.images ≡ before.images
  -- Whatever the status, and whatever the order in which tasks and loops came to their turns: the images that a run stored are a chain
  -- from the start on, each the plain machine's successor of the one before it by the takes recorded in it, and nothing is in flight at
  -- any of them. With status 0 the last of them is marked so, and the output got the text of its table.
  pub chain : (options : RunOptions) (job : Job) (bytes : ℕ → List ℕ) →
      TellsRun words functions before.contents options job → TellsSources job before.contents bytes →
      HasChain options job bytes before.images after.images
  pub last : status ≡ 0 → (options : RunOptions) (job : Job) (bytes : ℕ → List ℕ) →
      TellsRun words functions before.contents options job → TellsSources job before.contents bytes →
      EndsWith options job bytes before.images after.images (λ table. IfSome before.output (λ had. after.output ≡ Some (had ++ table_text table)))
  -- What the keeper holds hinders a job only where there is an image, and `inspect` only where there is none, or its bytes spell none of
  -- its number; and in all these cases, where it tells its images.
  pub held : status ≡ 8 → IsHindered words functions before.contents before.images
  pub held_refused : (options : RunOptions) (job : Job) (kept : KeptImage) →
      TellsRun words functions before.contents options job → HasPool options job →
      TellsLast before.images kept → Contains (8 ∷ 5 ∷ 4 ∷ 70 ∷ []) status
  pub inspect_refused : (images : List KeptImage) → IsInspect words → before.images ≡ Some images →
      HasNoneToShow images → Contains (8 ∷ 5 ∷ 70 ∷ []) status
  -- A job's links are in memory, where none fails. Where data came over the credit, the line that is told says by how much.
  pub no_link : status ≢ 6
  pub over_credit : status ≡ 11 → HasToldOverCredit before.errors after.errors (HasRisen before.error_faults after.error_faults)
  -- Where the words, the texts and what the keeper holds are good, no limit is passed, no edge has more than 4,294,967,295 encoded bytes to
  -- carry and no count rises, all work is done unless memory runs out. That no other end of a connection has a fault is not said here.
  pub complete : (options : RunOptions) (job : Job) (bytes : ℕ → List ℕ) →
      TellsRun words functions before.contents options job → TellsSources job before.contents bytes →
      HasPool options job → AreWithinLimits job bytes →
      (HasHeavyEdge job (λ a. lines (bytes a)) → ⊥) → before.images ≡ Some [] →
      (HasRisen before.input_faults after.input_faults → ⊥) → (HasRisen before.keeper_faults after.keeper_faults → ⊥) →
      (HasRisen before.output_faults after.output_faults → ⊥) →
      Contains (0 ∷ 11 ∷ 12 ∷ 70 ∷ []) status
  pub complete_gen : (lines seed : ℕ) → IsGen words lines seed → (HasRisen before.output_faults after.output_faults → ⊥) →
      Contains (0 ∷ 70 ∷ []) status
  pub complete_selfrun : (lines seed : ℕ) → IsSelfRun words lines seed → HasFunctions functions →
      (HasRisen before.output_faults after.output_faults → ⊥) → Contains (0 ∷ 11 ∷ 12 ∷ 70 ∷ []) status
  pub complete_script : (text : List ℕ) → TellsScript words before.contents text → IsScriptWith HasEnough text →
      (HasRisen before.input_faults after.input_faults → ⊥) → (HasRisen before.output_faults after.output_faults → ⊥) →
      Contains (0 ∷ 70 ∷ []) status
  pub complete_inspect : (kept : KeptImage) (image : Image) → IsInspect words → TellsLast before.images kept →
      IsImageKept kept image → (HasRisen before.keeper_faults after.keeper_faults → ⊥) →
      (HasRisen before.output_faults after.output_faults → ⊥) → Contains (0 ∷ 70 ∷ []) status
  pub known : Contains (0 ∷ 2 ∷ 3 ∷ 4 ∷ 5 ∷ 7 ∷ 8 ∷ 10 ∷ 11 ∷ 12 ∷ 70 ∷ []) status
  -- With another status than 0 and 7 the output got nothing, and with 7 a front of what status 0 writes.
  pub silent : status ≢ 0 → status ≢ 7 → after.output ≡ before.output
  pub front : status ≡ 7 → HasDoneInPart words functions before.contents before.images before.output after.output
  -- Which line was told, whatever became of it: no fault of `err` changes the status.
  pub told : IsTold words functions before.contents before.images before.errors after.errors
      (HasRisen before.error_faults after.error_faults) status
  -- Each input that was found is given back.
  pub given_back : after.lent ≡ before.lent

-- There was no memory for the functions. It told so, and nothing else has changed.
pub record HasNoFunctions (before after : World) (status : ℕ) : Type 0 where
  pub status_is : status ≡ 70
  pub same : after ≡ record before { errors = after.errors; error_faults = after.error_faults }
  pub front : IfSome before.errors (λ had. GotFront had (fault_line Memory) after.errors)
  pub told : (HasRisen before.error_faults after.error_faults → ⊥) → IfSome before.errors (λ had. after.errors ≡ Some (had ++ fault_line Memory))

-- So it answers with the functions of all kinds, where there is memory for these.
abbrev pub IsOwnAnswer : List (List ℕ) → World → World → ℕ → Type 0
IsOwnAnswer words before after status = IsAnswer words all_functions before after status ⊎ HasNoFunctions before after status
