-- From the parts of a run to the run.
use Rattle.std.proofs.Common.{◌≡◌, ℕ, ◌≤◌, List, [], ◌∷◌, length, Option, Some, None, Result, Ok, Err, IfSome, IfOk, refl, subst, inl, inr}
use Rattle.std.specs.Prelude.{⊤}
use Rattle.std.specs.List.{AllByRecursion}
use Rattle.flow_defs.specs.declared.job.Job.{Job}
use Rattle.flow_defs.specs.declared.job.Stage.{Stage}
use Rattle.flow_defs.specs.Stages.{IsArgument}
use Rattle.flow_defs.specs.Lines.{lines}
use Rattle.flow_defs.specs.Tables.{table_text}
use Rattle.plain_machine.specs.Worth.{tally}
use Rattle.stage_fns.specs.Functions.{Functions, HasStage}
use Rattle.job_text.specs.declared.words.RunOptions.{RunOptions}
use Rattle.job_text.specs.declared.words.Command.{Command}
use Rattle.job_text.specs.declared.words.Command.TheVariants.{Run as RunCommand}
use Rattle.job_text.specs.Laws.{WordsAreOneCommand}
use Rattle.job_text.specs.Words.{IsCommand, IsRun, IsScript, IsInspect, usage_fault}
use Rattle.job_text.specs.JobText.{IsJobText}
use Rattle.job_text.specs.JobFaults.{first_fault}
use Rattle.commands.specs.declared.run.TheConstants.{JOB_MAX}
use Rattle.command_parts.specs.declared.fault.Fault.{Fault}
use Rattle.command_parts.specs.declared.fault.Fault.TheVariants.{Usage, JobLine, ScriptLine, JobInput, ScriptInput, SourceInput, Keeper, Output, HoldsImage, HoldsNoImage, NotImage, LongJob, LongScript, LongLine, BigSource, BigImage, TooFewSegments, Link, OverCredit, Peer, Memory}
use Rattle.job_plan.specs.Plans.{IsStageReady, CanRun}
use Rattle.command_parts.specs.Sources.{TellsSources, IsSourceFault}
use Rattle.job_command.specs.RunFaults.{HasLargeImage, IsRunFault}
use Rattle.commands.specs.SelfRuns.{IsSelfFault, NamesSelfRun}
use Rattle.script_command.specs.Scripts.{IsScriptWith, HasEnough, IsScriptFault, ScriptRunsTo, printed_replies}
use Rattle.outside.specs.Keepers.{KeptImage}
use Rattle.command_parts.specs.Held.{HoldsLast, HoldsNone, IsHeldFault}
use Rattle.inspect_command.specs.Inspects.{Inspects, Shows, IsInspectFault}
use Rattle.commands.specs.TextFaults.{IsWordFault, IsJobFileFault, IsTextFault, IsSmallPoolFault}
use Rattle.commands.specs.Run.{NamesCommand, NamesRun, NamesGoodJob, NamesReadyJob, RunsTo, Prints, IsFaultOf, IsGoodText, NamesAnyRun, TellsRun}
use Rattle.job_command.specs.Pools.{HasPool, HasSmallPool}
use Rattle.command_parts.specs.Sources.{AreWithinLimits}

-- stages with arguments and functions are ready
all_ready : (functions : Functions) (stages : List Stage) → AllByRecursion (λ (s : Stage). IsArgument s.kind s.arg.items) stages → AllByRecursion (λ (s : Stage). HasStage functions s.kind) stages → AllByRecursion (IsStageReady functions) stages
all_ready functions [] arguments known = tt
all_ready functions (s ∷ stages) arguments known = (record { argument = arguments.0; function = known.0 }, all_ready functions stages arguments.1 known.1)

-- a job of a text can be run
pub can_run : (functions : Functions) (text : List ℕ) (job : Job) → IsJobText functions text job → CanRun functions job
can_run functions text job is = record { stages = all_ready functions job.stages.items is.is_job.arguments is.stage_functions; agg = is.agg_function }

-- a fault of the words
pub of_words : (words : List (List ℕ)) (functions : Functions) (contents : List ℕ → Option (List ℕ)) (held : Option (List KeptImage)) (fault : Fault) → (usage_fault words ≡ None → NamesCommand words) → IsWordFault words fault → IsFaultOf words functions contents held fault
of_words words functions contents held (Usage kind) law is = is
of_words words functions contents held Memory law is = law is
of_words words functions contents held (JobLine line kind) law is = absurd is
of_words words functions contents held JobInput law is = absurd is
of_words words functions contents held (SourceInput a) law is = absurd is
of_words words functions contents held Keeper law is = absurd is
of_words words functions contents held (HoldsImage number) law is = absurd is
of_words words functions contents held HoldsNoImage law is = absurd is
of_words words functions contents held (NotImage number place) law is = absurd is
of_words words functions contents held Output law is = absurd is
of_words words functions contents held LongJob law is = absurd is
of_words words functions contents held (LongLine a) law is = absurd is
of_words words functions contents held (BigSource a) law is = absurd is
of_words words functions contents held BigImage law is = absurd is
of_words words functions contents held (ScriptLine line) law is = absurd is
of_words words functions contents held ScriptInput law is = absurd is
of_words words functions contents held LongScript law is = absurd is
of_words words functions contents held (TooFewSegments have need) law is = absurd is
of_words words functions contents held Link law is = absurd is
of_words words functions contents held (OverCredit channel received announced) law is = absurd is
of_words words functions contents held (Peer fault) law is = absurd is

module _ (words : List (List ℕ)) (functions : Functions) (contents : List ℕ → Option (List ℕ)) (held : Option (List KeptImage)) (name : List ℕ) (options : RunOptions) (is_run : IsRun words name options) where
  named : (o : Option (List ℕ)) (text : List ℕ) (P : List ℕ → Type 0) → IfSome o (λ read. text ≡ read) → P text → IfSome o P
  named None text P told p = tt
  named (Some read) text P told p = subst P told p

  -- what holds of the text that was read holds of the job that the words name
  pub of_text_read : (text : List ℕ) (P : RunOptions → List ℕ → Type 0) → IfSome (contents name) (λ read. text ≡ read) → P options text → NamesRun words contents P
  of_text_read text P told p = record { job = name; options = options; is_run = is_run; holds = named (contents name) text (P options) told p }

  pub of_job_read : (text : List ℕ) (job : Job) (P : RunOptions → Job → Type 0) → IfSome (contents name) (λ read. text ≡ read) → length text ≤ JOB_MAX → first_fault functions text ≡ None → IsJobText functions text job → P options job → NamesGoodJob words functions contents P
  of_job_read text job P told fits none is p = of_text_read text (λ o t. IsGoodText functions (P o) t) told (fits, none, (job, is, p))

  -- a fault of the file with the job's text
  pub of_job_file : (fault : Fault) → IsJobFileFault (contents name) fault → IsFaultOf words functions contents held fault
  of_job_file LongJob is = record { job = name; options = options; is_run = is_run; holds = is }
  of_job_file JobInput is = record { job = name; options = options; is_run = is_run; holds = whatever (contents name) }
    where
      whatever : (o : Option (List ℕ)) → IfSome o (λ text. ⊤)
      whatever None = tt
      whatever (Some text) = tt
  of_job_file Memory is = inl (name, options, is_run)
  of_job_file (Usage kind) is = absurd is
  of_job_file (JobLine line kind) is = absurd is
  of_job_file (SourceInput a) is = absurd is
  of_job_file Keeper is = absurd is
  of_job_file (HoldsImage number) is = absurd is
  of_job_file HoldsNoImage is = absurd is
  of_job_file (NotImage number place) is = absurd is
  of_job_file Output is = absurd is
  of_job_file (LongLine a) is = absurd is
  of_job_file (BigSource a) is = absurd is
  of_job_file BigImage is = absurd is
  of_job_file (ScriptLine line) is = absurd is
  of_job_file ScriptInput is = absurd is
  of_job_file LongScript is = absurd is
  of_job_file (TooFewSegments have need) is = absurd is
  of_job_file Link is = absurd is
  of_job_file (OverCredit channel received announced) is = absurd is
  of_job_file (Peer fault) is = absurd is

  -- a fault of the text
  pub of_text : (text : List ℕ) (fault : Fault) → IfSome (contents name) (λ read. text ≡ read) → length text ≤ JOB_MAX → IsTextFault functions text fault → IsFaultOf words functions contents held fault
  of_text text (JobLine line kind) told fits is = inl (of_text_read text (λ o t. (length t ≤ JOB_MAX) × (first_fault functions t ≡ Some (line, kind))) told (fits, is))
  of_text text Memory told fits is = inl (name, options, is_run)
  of_text text (Usage kind) told fits is = absurd is
  of_text text JobInput told fits is = absurd is
  of_text text (SourceInput a) told fits is = absurd is
  of_text text Keeper told fits is = absurd is
  of_text text (HoldsImage number) told fits is = absurd is
  of_text text HoldsNoImage told fits is = absurd is
  of_text text (NotImage number place) told fits is = absurd is
  of_text text Output told fits is = absurd is
  of_text text LongJob told fits is = absurd is
  of_text text (LongLine a) told fits is = absurd is
  of_text text (BigSource a) told fits is = absurd is
  of_text text BigImage told fits is = absurd is
  of_text text (ScriptLine line) told fits is = absurd is
  of_text text ScriptInput told fits is = absurd is
  of_text text LongScript told fits is = absurd is
  of_text text (TooFewSegments have need) told fits is = absurd is
  of_text text Link told fits is = absurd is
  of_text text (OverCredit channel received announced) told fits is = absurd is
  of_text text (Peer fault) told fits is = absurd is

  -- a fault of the pool
  pub of_pool : (text : List ℕ) (job : Job) (fault : Fault) → IfSome (contents name) (λ read. text ≡ read) → length text ≤ JOB_MAX → first_fault functions text ≡ None → IsJobText functions text job → IsSmallPoolFault options job fault → IsFaultOf words functions contents held fault
  of_pool text job (TooFewSegments have need) told fits none is fault = inl (of_job_read text job (λ o j. HasSmallPool o j have need) told fits none is fault)
  of_pool text job (Usage kind) told fits none is fault = absurd fault
  of_pool text job (JobLine line kind) told fits none is fault = absurd fault
  of_pool text job (ScriptLine line) told fits none is fault = absurd fault
  of_pool text job JobInput told fits none is fault = absurd fault
  of_pool text job ScriptInput told fits none is fault = absurd fault
  of_pool text job (SourceInput a) told fits none is fault = absurd fault
  of_pool text job Keeper told fits none is fault = absurd fault
  of_pool text job Output told fits none is fault = absurd fault
  of_pool text job (HoldsImage number) told fits none is fault = absurd fault
  of_pool text job HoldsNoImage told fits none is fault = absurd fault
  of_pool text job (NotImage number place) told fits none is fault = absurd fault
  of_pool text job LongJob told fits none is fault = absurd fault
  of_pool text job LongScript told fits none is fault = absurd fault
  of_pool text job (LongLine a) told fits none is fault = absurd fault
  of_pool text job (BigSource a) told fits none is fault = absurd fault
  of_pool text job BigImage told fits none is fault = absurd fault
  of_pool text job Link told fits none is fault = absurd fault
  of_pool text job (OverCredit channel received announced) told fits none is fault = absurd fault
  of_pool text job (Peer peer) told fits none is fault = absurd fault
  of_pool text job Memory told fits none is fault = absurd fault

  -- the words name a job that has its pool
  pub of_enough : (text : List ℕ) (job : Job) (P : Job → Type 0) → IfSome (contents name) (λ read. text ≡ read) → length text ≤ JOB_MAX → first_fault functions text ≡ None → IsJobText functions text job → HasPool options job → P job → NamesReadyJob words functions contents P
  of_enough text job P told fits none is enough p = of_job_read text job (λ o j. HasPool o j × P j) told fits none is (enough, p)

  -- a fault of the keeper or of an image that it holds
  pub of_held : (fault : Fault) → NamesReadyJob words functions contents (λ job. ⊤) → IsHeldFault held fault → IsFaultOf words functions contents held fault
  of_held Keeper ready fault = inl ready
  of_held (HoldsImage number) ready fault = (ready, fault)
  of_held Memory ready fault = inl (name, options, is_run)
  of_held (Usage kind) ready fault = absurd fault
  of_held (JobLine line kind) ready fault = absurd fault
  of_held (ScriptLine line) ready fault = absurd fault
  of_held JobInput ready fault = absurd fault
  of_held ScriptInput ready fault = absurd fault
  of_held (SourceInput a) ready fault = absurd fault
  of_held Output ready fault = absurd fault
  of_held HoldsNoImage ready fault = absurd fault
  of_held (NotImage number place) ready fault = absurd fault
  of_held LongJob ready fault = absurd fault
  of_held LongScript ready fault = absurd fault
  of_held (LongLine a) ready fault = absurd fault
  of_held (BigSource a) ready fault = absurd fault
  of_held BigImage ready fault = absurd fault
  of_held (TooFewSegments have need) ready fault = absurd fault
  of_held Link ready fault = absurd fault
  of_held (OverCredit channel received announced) ready fault = absurd fault
  of_held (Peer peer) ready fault = absurd fault

  -- the same of what holds under the options
  pub of_ready : (text : List ℕ) (job : Job) (P : RunOptions → Job → Type 0) → IfSome (contents name) (λ read. text ≡ read) → length text ≤ JOB_MAX → first_fault functions text ≡ None → IsJobText functions text job → HasPool options job → P options job → NamesGoodJob words functions contents (λ o j. HasPool o j × P o j)
  of_ready text job P told fits none is enough p = of_job_read text job (λ o j. HasPool o j × P o j) told fits none is (enough, p)

  -- a fault of a source, of the exchange, of an image or of the keeper
  pub of_run : (text : List ℕ) (job : Job) (after : Option (List KeptImage)) (fault : Fault) → HoldsNone held → ((P : RunOptions → Job → Type 0) → P options job → NamesGoodJob words functions contents (λ o j. HasPool o j × P o j)) → IsRunFault job options.every contents held after fault → IsFaultOf words functions contents held fault
  of_run text job after (SourceInput a) none ready is = (none, ready (λ o j. IsSourceFault j contents (SourceInput a)) is)
  of_run text job after (LongLine a) none ready is = (none, ready (λ o j. IsSourceFault j contents (LongLine a)) is)
  of_run text job after (BigSource a) none ready is = (none, ready (λ o j. IsSourceFault j contents (BigSource a)) is)
  of_run text job after BigImage none ready is = (none, ready (λ o j. (later : Option (List KeptImage)) × HasLargeImage j o.every contents held later) (after, is))
  of_run text job after (OverCredit channel received announced) none ready is = (inl (none, ready (λ o j. ⊤) tt), is)
  of_run text job after (Peer peer) none ready is = inl (none, ready (λ o j. ⊤) tt)
  of_run text job after Keeper none ready is = inl (ready (λ o j. ⊤) tt)
  of_run text job after Memory none ready is = inl (name, options, is_run)
  of_run text job after (Usage kind) none ready is = absurd is
  of_run text job after (JobLine line kind) none ready is = absurd is
  of_run text job after (ScriptLine line) none ready is = absurd is
  of_run text job after JobInput none ready is = absurd is
  of_run text job after ScriptInput none ready is = absurd is
  of_run text job after Output none ready is = absurd is
  of_run text job after (HoldsImage number) none ready is = absurd is
  of_run text job after HoldsNoImage none ready is = absurd is
  of_run text job after (NotImage number place) none ready is = absurd is
  of_run text job after LongJob none ready is = absurd is
  of_run text job after LongScript none ready is = absurd is
  of_run text job after (TooFewSegments have need) none ready is = absurd is
  of_run text job after Link none ready is = absurd is

-- what a run to a text leads to
pub runs_on : (words : List (List ℕ)) (functions : Functions) (contents : List ℕ → Option (List ℕ)) (held : Option (List KeptImage)) (P Q : List ℕ → Type 0) → ((text : List ℕ) → P text → Q text) → RunsTo words functions contents held P → RunsTo words functions contents held Q
runs_on words functions contents held P Q leads (none, run) = (none, record { job = run.job; options = run.options; is_run = run.is_run; holds = on run.options (contents run.job) run.holds })
  where
    on : (options : RunOptions) (o : Option (List ℕ))
        → IfSome o (λ text. IsGoodText functions (λ job. HasPool options job × ((bytes : ℕ → List ℕ) → TellsSources job contents bytes → AreWithinLimits job bytes × P (table_text (tally job (λ a. lines (bytes a)))))) text)
        → IfSome o (λ text. IsGoodText functions (λ job. HasPool options job × ((bytes : ℕ → List ℕ) → TellsSources job contents bytes → AreWithinLimits job bytes × Q (table_text (tally job (λ a. lines (bytes a)))))) text)
    on options None it = tt
    on options (Some text) it = (it.0, it.1, (it.2.0, it.2.1, (it.2.2.0, λ bytes told. let found = it.2.2.1 bytes told in (found.0, leads _ found.1))))

-- ---- scripts

-- a fault of the script that the words name
pub of_script : (words : List (List ℕ)) (functions : Functions) (contents : List ℕ → Option (List ℕ)) (held : Option (List KeptImage)) (name : List ℕ) → IsScript words name → (fault : Fault) → IsScriptFault (contents name) fault → IsFaultOf words functions contents held fault
of_script words functions contents held name is_script ScriptInput is = (name, is_script, whatever (contents name))
  where
    whatever : (o : Option (List ℕ)) → IfSome o (λ text. ⊤)
    whatever None = tt
    whatever (Some text) = tt
of_script words functions contents held name is_script LongScript is = (name, is_script, is)
of_script words functions contents held name is_script (ScriptLine line) is = (name, is_script, is)
of_script words functions contents held name is_script (TooFewSegments have need) is = inr (name, is_script, is)
of_script words functions contents held name is_script Memory is = inr (inl (name, is_script))
of_script words functions contents held name is_script (Usage kind) is = absurd is
of_script words functions contents held name is_script (JobLine line kind) is = absurd is
of_script words functions contents held name is_script JobInput is = absurd is
of_script words functions contents held name is_script (SourceInput a) is = absurd is
of_script words functions contents held name is_script Keeper is = absurd is
of_script words functions contents held name is_script (HoldsImage number) is = absurd is
of_script words functions contents held name is_script HoldsNoImage is = absurd is
of_script words functions contents held name is_script (NotImage number place) is = absurd is
of_script words functions contents held name is_script Output is = absurd is
of_script words functions contents held name is_script LongJob is = absurd is
of_script words functions contents held name is_script (LongLine a) is = absurd is
of_script words functions contents held name is_script (BigSource a) is = absurd is
of_script words functions contents held name is_script BigImage is = absurd is
of_script words functions contents held name is_script Link is = absurd is
of_script words functions contents held name is_script (OverCredit channel received announced) is = absurd is
of_script words functions contents held name is_script (Peer fault) is = absurd is

-- what a script's run to a text leads to
pub script_runs_on : (words : List (List ℕ)) (contents : List ℕ → Option (List ℕ)) (P Q : List ℕ → Type 0) → ((text : List ℕ) → P text → Q text) → ScriptRunsTo words contents P → ScriptRunsTo words contents Q
script_runs_on words contents P Q leads run = (run.0, run.1, on (contents run.0) run.2)
  where
    on : (o : Option (List ℕ)) → IfSome o (IsScriptWith (λ script. HasEnough script × P (printed_replies script))) → IfSome o (IsScriptWith (λ script. HasEnough script × Q (printed_replies script)))
    on None it = tt
    on (Some text) it = (it.0, (it.1.0, it.1.1, (it.1.2.0, leads _ it.1.2.1)))

-- ---- the keeper's last image

-- a fault of a keeper whose last image is to be shown
pub of_inspect : (words : List (List ℕ)) (functions : Functions) (contents : List ℕ → Option (List ℕ)) (held : Option (List KeptImage)) → IsInspect words → (fault : Fault) → IsInspectFault held fault → IsFaultOf words functions contents held fault
of_inspect words functions contents held inspect Keeper is = inr inspect
of_inspect words functions contents held inspect HoldsNoImage is = (inspect, is)
of_inspect words functions contents held inspect (NotImage number place) is = (inspect, is)
of_inspect words functions contents held inspect Memory is = inr (inr (inr (inr inspect)))
of_inspect words functions contents held inspect (Usage kind) is = absurd is
of_inspect words functions contents held inspect (JobLine line kind) is = absurd is
of_inspect words functions contents held inspect (ScriptLine line) is = absurd is
of_inspect words functions contents held inspect JobInput is = absurd is
of_inspect words functions contents held inspect ScriptInput is = absurd is
of_inspect words functions contents held inspect (SourceInput a) is = absurd is
of_inspect words functions contents held inspect Output is = absurd is
of_inspect words functions contents held inspect (HoldsImage number) is = absurd is
of_inspect words functions contents held inspect LongJob is = absurd is
of_inspect words functions contents held inspect LongScript is = absurd is
of_inspect words functions contents held inspect (LongLine a) is = absurd is
of_inspect words functions contents held inspect (BigSource a) is = absurd is
of_inspect words functions contents held inspect BigImage is = absurd is
of_inspect words functions contents held inspect (TooFewSegments have need) is = absurd is
of_inspect words functions contents held inspect Link is = absurd is
of_inspect words functions contents held inspect (OverCredit channel received announced) is = absurd is
of_inspect words functions contents held inspect (Peer peer) is = absurd is

-- what is shown of it leads to what holds of that
pub inspects_on : (words : List (List ℕ)) (held : Option (List KeptImage)) (P Q : List ℕ → Type 0) → ((text : List ℕ) → P text → Q text) → Inspects words held P → Inspects words held Q
inspects_on words held P Q leads (inspect, shown_last) = (inspect, on held shown_last)
  where
    on : (o : Option (List KeptImage)) → HoldsLast o (Shows P) → HoldsLast o (Shows Q)
    on None it = tt
    on (Some images) (kept, last, (image, job, is_in, number, is_job, p)) = (kept, last, (image, job, is_in, number, is_job, leads _ p))

-- what is printed leads to what holds of it
pub prints_on : (words : List (List ℕ)) (functions : Functions) (contents : List ℕ → Option (List ℕ)) (held : Option (List KeptImage)) (P Q : List ℕ → Type 0) → ((text : List ℕ) → P text → Q text) → Prints words functions contents held P → Prints words functions contents held Q
prints_on words functions contents held P Q leads (inl run) = inl (runs_on words functions contents held P Q leads run)
prints_on words functions contents held P Q leads (inr (inl script)) = inr (inl (script_runs_on words contents P Q leads script))
prints_on words functions contents held P Q leads (inr (inr (inl gen))) = inr (inr (inl (gen.0, gen.1, gen.2, leads _ gen.3)))
prints_on words functions contents held P Q leads (inr (inr (inr (inl run)))) = inr (inr (inr (inl (run.0, run.1, run.2, (run.3.0, leads _ run.3.1)))))
prints_on words functions contents held P Q leads (inr (inr (inr (inr inspects)))) = inr (inr (inr (inr (inspects_on words held P Q leads inspects))))

-- what holds of a text that was read holds of the bytes that are told
pub held_too : (o : Option (List ℕ)) (text : List ℕ) (P : List ℕ → Type 0) → IfSome o (λ held. text ≡ held) → P text → IfSome o P
held_too None text P told p = tt
held_too (Some held) text P told p = subst P told p

-- ---- the images of a run

-- words are those of one run
pub one_run : WordsAreOneCommand → (words : List (List ℕ)) (a b : List ℕ) (p q : RunOptions) → IsRun words a p → IsRun words b q → (a ≡ b) × (p ≡ q)
one_run one words a b p q first second = let same = one words (RunCommand a p) (RunCommand b q) first second in ((cc), (cc))

if_any : {A B : Type 0} (r : Result A B) (P : A → Type 0) → ((a : A) → P a) → IfOk r P
if_any (Ok a) P all = all a
if_any (Err b) P all = tt

-- what is said of a run where the words are of another command
module _ (one : WordsAreOneCommand) (words : List (List ℕ)) (command : Command) (is : IsCommand words command) (other : (job : List ℕ) (options : RunOptions) → command ≡ RunCommand job options → ⊥) where
  pub no_run : NamesAnyRun words → ⊥
  no_run (job, options, is_run) = other job options (one words command (RunCommand job options) is is_run)

  pub no_last : {A B : Type 0} (r : Result A B) (functions : Functions) (contents : List ℕ → Option (List ℕ)) (P : A → RunOptions → Job → (ℕ → List ℕ) → Type 0) →
      IfOk r (λ a. (options : RunOptions) (job : Job) (bytes : ℕ → List ℕ) → TellsRun words functions contents options job → TellsSources job contents bytes → P a options job bytes)
  no_last r functions contents P =
      if_any r (λ a. (options : RunOptions) (job : Job) (bytes : ℕ → List ℕ) → TellsRun words functions contents options job → TellsSources job contents bytes → P a options job bytes)
      (λ a options job bytes run tells. absurd (no_run (run.tells.job, options, run.tells.is_run)))

-- ---- a run over lines of a seed

-- a fault of such a run
pub of_selfrun : (words : List (List ℕ)) (functions : Functions) (contents : List ℕ → Option (List ℕ)) (held : Option (List KeptImage)) → NamesSelfRun words → (fault : Fault) → IsSelfFault functions fault → IsFaultOf words functions contents held fault
of_selfrun words functions contents held named (JobLine line kind) is = inr (named, is)
of_selfrun words functions contents held named (OverCredit channel received announced) is = (inr (named, is.0), is.1)
of_selfrun words functions contents held named (Peer peer) is = inr (named, is)
of_selfrun words functions contents held named Memory is = inr (inr (inr (inl named)))
of_selfrun words functions contents held named (Usage kind) is = absurd is
of_selfrun words functions contents held named (ScriptLine line) is = absurd is
of_selfrun words functions contents held named JobInput is = absurd is
of_selfrun words functions contents held named ScriptInput is = absurd is
of_selfrun words functions contents held named (SourceInput a) is = absurd is
of_selfrun words functions contents held named Keeper is = absurd is
of_selfrun words functions contents held named Output is = absurd is
of_selfrun words functions contents held named (HoldsImage number) is = absurd is
of_selfrun words functions contents held named HoldsNoImage is = absurd is
of_selfrun words functions contents held named (NotImage number place) is = absurd is
of_selfrun words functions contents held named LongJob is = absurd is
of_selfrun words functions contents held named LongScript is = absurd is
of_selfrun words functions contents held named (LongLine a) is = absurd is
of_selfrun words functions contents held named (BigSource a) is = absurd is
of_selfrun words functions contents held named BigImage is = absurd is
of_selfrun words functions contents held named (TooFewSegments have need) is = absurd is
of_selfrun words functions contents held named Link is = absurd is
