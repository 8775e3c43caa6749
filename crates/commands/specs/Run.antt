-- What a command does, and why it is refused.
use Rattle.std.specs.Prelude.{◌≡◌, ◌⊎◌, ⊤, ◌<◌, ◌≤◌, ℕ, length, List, ◌++◌, Option, Some, None, IfSome}
use Rattle.flow_defs.specs.declared.job.Job.{Job}
use Rattle.flow_defs.specs.declared.task.ChannelId.{ChannelId}
use Rattle.flow_defs.specs.Jobs.{segments_needed, tasks}
use Rattle.flow_defs.specs.Lines.{lines}
use Rattle.flow_defs.specs.Tables.{Values, table_text}
use Rattle.plain_machine.specs.Worth.{tally}
use Rattle.plain_machine.specs.Loads.{HasHeavyEdge}
use Rattle.stage_fns.specs.Functions.{Functions}
use Rattle.job_text.specs.declared.fault.JobFault.{JobFault}
use Rattle.job_text.specs.declared.words.RunOptions.{RunOptions}
use Rattle.job_text.specs.Words.{IsRun, IsScript, IsGen, IsSelfRun, IsInspect, usage_fault}
use Rattle.job_text.specs.JobText.{IsJobText}
use Rattle.job_text.specs.JobFaults.{first_fault}
use Rattle.flow_defs.specs.Limits.{job_text_max}
use Rattle.script_command.specs.Limits.{script_max}
use Rattle.command_parts.specs.declared.fault.Fault.{Fault}
use Rattle.command_parts.specs.declared.fault.Fault.TheVariants.{Usage, JobLine, ScriptLine, JobInput, ScriptInput, SourceInput, Keeper, Output, HoldsImage, HoldsNoImage, NotImage, LongJob, LongScript, LongLine, BigSource, BigImage, TooFewSegments, Link, OverCredit, Peer, Memory}
use Rattle.command_parts.specs.Causes.{status_of}
use Rattle.command_parts.specs.FaultTexts.{fault_line}
use Rattle.command_parts.specs.Front.{GotFront}
use Rattle.outside.specs.Keepers.{KeptImage}
use Rattle.job_plan.specs.Limits.{IsOverLimit}
use Rattle.job_outcome.specs.Grounds.{IsOverByOne}
use Rattle.job_outcome.specs.Storing.{EndsIn, HasStored}
use Rattle.command_parts.specs.Sources.{AreWithinLimits, TellsSources, IsOfSource, IsSourceFault}
use Rattle.job_command.specs.RunFaults.{HasLargeImage}
use Rattle.job_command.specs.Pools.{HasPool, HasSmallPool}
use Rattle.command_parts.specs.Held.{HoldsLast, HoldsNone}
use Rattle.inspect_command.specs.Inspects.{Inspects, IsNoImageAt, HasNoneToShow}
use Rattle.script_command.specs.Scripts.{NamesScript, IsScriptWith, HasTooFew, HasBadLine, ScriptRunsTo}
use Rattle.commands.specs.SelfRuns.{NamesSelfRun, SelfRunsTo, StartsSelfRun, self_text}
use Rattle.line_generator.specs.Generated.{generated}

-- The words are those of a run.
abbrev pub NamesAnyRun : List (List ℕ) → Type 0
NamesAnyRun words = (job : List ℕ) × (options : RunOptions) × IsRun words job options

-- The words are a command's.
abbrev pub NamesCommand : List (List ℕ) → Type 0
NamesCommand words =
    NamesAnyRun words
    ⊎ ((file : List ℕ) × IsScript words file)
    ⊎ ((lines : ℕ) × (seed : ℕ) × IsGen words lines seed)
    ⊎ NamesSelfRun words
    ⊎ IsInspect words

-- The words name a job with options, and its text, where it is told, has P under these.
pub record NamesRun (words : List (List ℕ)) (contents : List ℕ → Option (List ℕ)) (P : RunOptions → List ℕ → Type 0) : Type 0 where
  pub job : List ℕ
  pub options : RunOptions
  pub is_run : IsRun words job options
  pub holds : IfSome (contents job) (P options)

-- The words name a job, and its text, where it is told, has P.
abbrev pub NamesJob : List (List ℕ) → (List ℕ → Option (List ℕ)) → (List ℕ → Type 0) → Type 0
NamesJob words contents P = NamesRun words contents (λ options text. P text)

-- The text is within its limit and has no fault, and is that of a job that has P.
abbrev pub IsGoodText : Functions → (Job → Type 0) → List ℕ → Type 0
IsGoodText functions P text = (length text ≤ job_text_max) × (first_fault functions text ≡ None) × ((job : Job) × IsJobText functions text job × P job)

-- The words name a job that has P under its options, and its text is within its limit and has no fault.
abbrev pub NamesGoodJob : List (List ℕ) → Functions → (List ℕ → Option (List ℕ)) → (RunOptions → Job → Type 0) → Type 0
NamesGoodJob words functions contents P = NamesRun words contents (λ options text. IsGoodText functions (P options) text)

-- The words name a job that has P, and give it a pool that has the segments it needs.
abbrev pub NamesReadyJob : List (List ℕ) → Functions → (List ℕ → Option (List ℕ)) → (Job → Type 0) → Type 0
NamesReadyJob words functions contents P = NamesGoodJob words functions contents (λ options job. HasPool options job × P job)

-- The words name a job that has P under its options, and give it a pool that has the segments it needs, and the keeper holds no image of an
-- earlier one.
abbrev pub StartsRun : List (List ℕ) → Functions → (List ℕ → Option (List ℕ)) → Option (List KeptImage) → (RunOptions → Job → Type 0) → Type 0
StartsRun words functions contents held P = HoldsNone held × NamesGoodJob words functions contents (λ options job. HasPool options job × P options job)

-- They name a job that has P and may start so.
abbrev pub StartsJob : List (List ℕ) → Functions → (List ℕ → Option (List ℕ)) → Option (List KeptImage) → (Job → Type 0) → Type 0
StartsJob words functions contents held P = StartsRun words functions contents held (λ options job. P job)

-- The words name a job that may start. Whatever its sources are told to have is within their limits, and P holds of the text of their
-- tally.
abbrev pub RunsTo : List (List ℕ) → Functions → (List ℕ → Option (List ℕ)) → Option (List KeptImage) → (List ℕ → Type 0) → Type 0
RunsTo words functions contents held P =
    StartsJob words functions contents held (λ job. (bytes : ℕ → List ℕ) → TellsSources job contents bytes →
    AreWithinLimits job bytes × P (table_text (tally job (λ a. lines (bytes a)))))

-- The words ask for lines of a seed, and P holds of the text of these.
abbrev pub GensTo : List (List ℕ) → (List ℕ → Type 0) → Type 0
GensTo words P = (lines : ℕ) × (seed : ℕ) × IsGen words lines seed × P (generated seed lines)

-- The words name a job or a script, ask for lines, for a run over such, or for what the keeper holds, and P holds of what is printed of it.
abbrev pub Prints : List (List ℕ) → Functions → (List ℕ → Option (List ℕ)) → Option (List KeptImage) → (List ℕ → Type 0) → Type 0
Prints words functions contents held P = RunsTo words functions contents held P ⊎ ScriptRunsTo words contents P ⊎ GensTo words P ⊎ SelfRunsTo words functions P ⊎ Inspects words held P

-- The output got all that the command is to print behind what was there, or a front of it, and nothing else.
abbrev pub HasDone : List (List ℕ) → Functions → (List ℕ → Option (List ℕ)) → Option (List KeptImage) → Option (List ℕ) → Option (List ℕ) → Type 0
HasDone words functions contents held before after = Prints words functions contents held (λ text. IfSome before (λ had. after ≡ Some (had ++ text)))

abbrev pub HasDoneInPart : List (List ℕ) → Functions → (List ℕ → Option (List ℕ)) → Option (List KeptImage) → Option (List ℕ) → Option (List ℕ) → Type 0
HasDoneInPart words functions contents held before after = Prints words functions contents held (λ text. IfSome before (λ had. GotFront had text after))

-- The fault is the first of the words, or of the text of the job or the script that they name, or else one of that job's pool, its
-- sources, its exchange or its images, or of that script's pool, or of what the keeper holds once the pool was compared, as far as these
-- are told. Of `selfrun` it is the first of its job's text, a function that is lacking, or one of its exchange. It is none of a link: those of
-- a job are in memory.
abbrev pub IsFaultOf : List (List ℕ) → Functions → (List ℕ → Option (List ℕ)) → Option (List KeptImage) → Fault → Type 0
IsFaultOf words functions contents held (Usage kind) = usage_fault words ≡ Some kind
IsFaultOf words functions contents held JobInput = NamesJob words contents (λ text. ⊤)
IsFaultOf words functions contents held LongJob = NamesJob words contents (λ text. job_text_max < length text)
IsFaultOf words functions contents held (JobLine line kind) =
    NamesJob words contents (λ text. (length text ≤ job_text_max) × (first_fault functions text ≡ Some (line, kind)))
    ⊎ (NamesSelfRun words × (first_fault functions self_text ≡ Some (line, kind)))
IsFaultOf words functions contents held (SourceInput a) = StartsJob words functions contents held (λ job. IsSourceFault job contents (SourceInput a))
IsFaultOf words functions contents held (LongLine a) = StartsJob words functions contents held (λ job. IsSourceFault job contents (LongLine a))
IsFaultOf words functions contents held (BigSource a) = StartsJob words functions contents held (λ job. IsSourceFault job contents (BigSource a))
IsFaultOf words functions contents held BigImage = StartsRun words functions contents held (λ options job. (after : Option (List KeptImage)) × HasLargeImage job options.every contents held after)
IsFaultOf words functions contents held Link = ⊥
IsFaultOf words functions contents held (OverCredit channel received announced) = (StartsJob words functions contents held (λ job. ⊤) ⊎ StartsSelfRun words functions) × IsOverByOne received announced
IsFaultOf words functions contents held (Peer fault) = StartsJob words functions contents held (λ job. ⊤) ⊎ StartsSelfRun words functions
IsFaultOf words functions contents held ScriptInput = NamesScript words contents (λ text. ⊤)
IsFaultOf words functions contents held LongScript = NamesScript words contents (λ text. script_max < length text)
IsFaultOf words functions contents held (ScriptLine line) = NamesScript words contents (HasBadLine line)
IsFaultOf words functions contents held (TooFewSegments have need) =
    NamesGoodJob words functions contents (λ options job. HasSmallPool options job have need)
    ⊎ NamesScript words contents (IsScriptWith (λ script. HasTooFew script have need))
IsFaultOf words functions contents held Output = Prints words functions contents held (λ text. ⊤)
IsFaultOf words functions contents held Keeper = NamesReadyJob words functions contents (λ job. ⊤) ⊎ IsInspect words
IsFaultOf words functions contents held (HoldsImage number) = NamesReadyJob words functions contents (λ job. ⊤) × HoldsLast held (λ kept. kept.number ≡ number)
IsFaultOf words functions contents held HoldsNoImage = IsInspect words × HoldsNone held
IsFaultOf words functions contents held (NotImage number place) = IsInspect words × HoldsLast held (λ kept. (kept.number ≡ number) × IsNoImageAt place kept)
IsFaultOf words functions contents held Memory = NamesCommand words

-- The output for errors got nothing with the status 0. With another one it got the line of a fault with this status, as far as it took it.
abbrev pub IsTold : List (List ℕ) → Functions → (List ℕ → Option (List ℕ)) → Option (List KeptImage) → Option (List ℕ) → Option (List ℕ) → Type 0 → ℕ → Type 0
IsTold words functions contents held before after risen status =
    ((status ≡ 0) × (after ≡ before))
    ⊎ ((fault : Fault) × (status ≡ status_of fault) × IsFaultOf words functions contents held fault
    × IfSome before (λ had. GotFront had (fault_line fault) after)
    × ((risen → ⊥) → IfSome before (λ had. after ≡ Some (had ++ fault_line fault))))

-- It got the line of data over the credit of a channel, as far as it took it. One more came there than was announced.
abbrev pub HasToldOverCredit : Option (List ℕ) → Option (List ℕ) → Type 0 → Type 0
HasToldOverCredit before after risen =
    (channel : ChannelId) × (received announced : ℕ) × IsOverByOne received announced
    × IfSome before (λ had. GotFront had (fault_line (OverCredit channel received announced)) after)
    × ((risen → ⊥) → IfSome before (λ had. after ≡ Some (had ++ fault_line (OverCredit channel received announced))))

-- What the keeper holds hinders the command: a job that may else start finds an image, or `inspect` finds none that it can show.
abbrev pub IsHindered : List (List ℕ) → Functions → (List ℕ → Option (List ℕ)) → Option (List KeptImage) → Type 0
IsHindered words functions contents held =
    (NamesReadyJob words functions contents (λ job. ⊤) × HoldsLast held (λ kept. ⊤))
    ⊎ (IsInspect words × IfSome held HasNoneToShow)

-- The text is within its limit, and is no job's.
abbrev pub IsNoJob : Functions → List ℕ → Type 0
IsNoJob functions text = (length text ≤ job_text_max) × ((fault : ℕ × JobFault) × (first_fault functions text ≡ Some fault))

-- Where its sources are told to have some bytes, the load of some edge of the job over their lines is above 4,294,967,295.
abbrev pub HasHeavyLines : Job → (List ℕ → Option (List ℕ)) → Type 0
HasHeavyLines job contents = (bytes : ℕ → List ℕ) → TellsSources job contents bytes → HasHeavyEdge job (λ a. lines (bytes a))

-- The text is over its limit, or that of a job that needs more segments than the pool has, or of one with a source over a limit, or with
-- an image that is too large, whatever a keeper got before it, and then with an edge whose load is.
abbrev pub IsOverLimits : Functions → (List ℕ → Option (List ℕ)) → RunOptions → List ℕ → Type 0
IsOverLimits functions contents options text =
    (job_text_max < length text)
    ⊎ ((job : Job) × IsJobText functions text job
    × ((options.pool < segments_needed job) ⊎ ((a : ℕ) × IsOfSource job contents a IsOverLimit) ⊎ ((before after : Option (List KeptImage)) × HasLargeImage job options.every contents before after × HasHeavyLines job contents)))

-- The words name a job, and a limit of its text, its pool, its sources or its images is passed.
abbrev pub PassesLimit : List (List ℕ) → Functions → (List ℕ → Option (List ℕ)) → Type 0
PassesLimit words functions contents = NamesRun words contents (IsOverLimits functions contents)

-- The words name a job with these options, and this is told to be its text.
pub record TellsJob (words : List (List ℕ)) (contents : List ℕ → Option (List ℕ)) (options : RunOptions) (text : List ℕ) : Type 0 where
  pub job : List ℕ
  pub is_run : IsRun words job options
  pub told : contents job ≡ Some text

-- The words name this job with these options, and its text is told and within its limit.
pub record TellsRun (words : List (List ℕ)) (functions : Functions) (contents : List ℕ → Option (List ℕ)) (options : RunOptions) (job : Job) : Type 0 where
  pub text : List ℕ
  pub tells : TellsJob words contents options text
  pub fits : length text ≤ job_text_max
  pub is_job : IsJobText functions text job

-- The images that a run of the job stored are a chain over the lines of these bytes.
abbrev pub HasChain : RunOptions → Job → (ℕ → List ℕ) → Option (List KeptImage) → Option (List KeptImage) → Type 0
HasChain options job bytes held after = HasStored job (λ a. lines (bytes a)) options.every held after

-- Its last image is marked so, and P holds of the table of that image.
abbrev pub EndsWith : RunOptions → Job → (ℕ → List ℕ) → Option (List KeptImage) → Option (List KeptImage) → (Values → Type 0) → Type 0
EndsWith options job bytes held after P = (table : Values) × EndsIn job (λ a. lines (bytes a)) options.every held after table × P table
