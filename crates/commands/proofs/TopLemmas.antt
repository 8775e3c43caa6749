-- From what is told of words, texts, sources and a keeper to the status that comes.
use Rattle.std.proofs.Common.{◌≡◌, ℕ, ◌≤◌, ◌<◌, List, [], ◌∷◌, ◌++◌, length, Option, Some, None, Contains, IfSome, refl, sym, ap, subst, ◌∙◌, arith, inl, inr, ◌⊎◌}
use Rattle.std.specs.Prelude.{⊤}
use Rattle.std.proofs.lemmas.List.{length-map}
use Rattle.flow_defs.specs.Items.{Items}
use Rattle.flow_defs.specs.Tables.{table_text}
use Rattle.plain_machine.specs.Worth.{tally}
use Rattle.job_text.specs.declared.words.Command.TheVariants.{Run as RunCommand, Script as ScriptCommand, Gen as GenCommand, SelfRun as SelfRunCommand, Inspect as InspectCommand}
use Rattle.job_text.specs.declared.words.RunOptions.{RunOptions}
use Rattle.job_text.specs.Laws.{JobTextHasNoFault, JobTextNamesItsFiles, CommandHasNoFault, WordsAreOneCommand, source_files}
use Rattle.flow_defs.specs.declared.image.Image.{Image}
use Rattle.flow_defs.specs.declared.job.Job.{Job}
use Rattle.flow_defs.specs.Jobs.{segments_needed, tasks}
use Rattle.flow_defs.specs.Lines.{lines}
use Rattle.stage_fns.specs.Functions.{Functions}
use Rattle.job_text.specs.Words.{IsRun, IsScript, IsGen, IsSelfRun, IsInspect, usage_fault}
use Rattle.job_text.specs.JobText.{IsJobText}
use Rattle.job_text.specs.JobFaults.{first_fault}
use Rattle.commands.specs.declared.run.TheConstants.{JOB_MAX}
use Rattle.job_plan.specs.declared.limits.TheConstants.{SOURCE_MAX}
use Rattle.command_parts.specs.declared.fault.Fault.{Fault}
use Rattle.command_parts.specs.declared.fault.Fault.TheVariants.{Usage, JobLine, ScriptLine, JobInput, ScriptInput, SourceInput, Keeper, Output, HoldsImage, HoldsNoImage, NotImage, LongJob, LongScript, LongLine, BigSource, BigImage, TooFewSegments, Link, OverCredit, Peer, Memory}
use Rattle.command_parts.specs.Causes.{status_of}
use Rattle.command_parts.specs.FaultTexts.{fault_line}
use Rattle.command_parts.specs.Front.{GotFront}
use Rattle.outside.specs.Keepers.{KeptImage, last_image}
use Rattle.command_parts.specs.Held.{HoldsLast, HoldsNone, TellsLast}
use Rattle.inspect_command.specs.Inspects.{Shows, IsImageKept, IsNoImageAt, HasNoneToShow}
use Rattle.inspect_command.proofs.InspectLemmas.{none_and_last, told_last, none_shown, is_shown}
use Rattle.job_plan.specs.Limits.{HasLongLine, IsOverLimit}
use Rattle.job_outcome.specs.Storing.{IsTooLarge}
use Rattle.command_parts.specs.Sources.{TellsSources, source_name, IsOfSource}
use Rattle.job_command.specs.RunFaults.{HasLargeImage}
use Rattle.commands.proofs.SegmentLemmas.{needs_same}
use Rattle.commands.proofs.TextJobs.{tells_same}
use Rattle.commands.specs.SelfRuns.{HasFunctions, LacksFunction, NamesSelfRun, self_text}
use Rattle.commands.proofs.SelfLemmas.{self_clear}
use Rattle.script_command.specs.declared.script.TheConstants.{SCRIPT_MAX}
use Rattle.script_command.specs.Scripts.{NamesScript, Replies, IsScriptWith, HasEnough, HasTooFew, HasBadLine, IsNoScript, PassesScriptLimit, TellsScript, printed_replies}
use Rattle.script_text.specs.declared.event.Script.{Script}
use Rattle.script_text.specs.Laws.{ScriptTextHasNoBadLine, ScriptTextIsOfOneScript}
use Rattle.commands.specs.Run.{NamesCommand, NamesRun, NamesJob, NamesGoodJob, NamesReadyJob, IsGoodText, Prints, IsFaultOf, HasToldOverCredit, IsHindered, IsNoJob, IsOverLimits, PassesLimit, TellsJob, TellsRun}
use Rattle.job_command.specs.Pools.{HasPool, HasSmallPool}
use Rattle.command_parts.specs.Sources.{AreWithinLimits}
use Rattle.commands.proofs.StatusLemmas.{too_few}

module _ (words : List (List ℕ)) (functions : Functions) (contents : List ℕ → Option (List ℕ)) (held : Option (List KeptImage)) (no_usage_fault : CommandHasNoFault) (one_command : WordsAreOneCommand) where
  -- ---- which status comes

  -- no words are those of both commands
  not_both : (job file : List ℕ) (options : RunOptions) → IsRun words job options → IsScript words file → ⊥
  not_both job file options run script = let same = one_command words (RunCommand job options) (ScriptCommand file) run script in cc

  no_gen : (job : List ℕ) (options : RunOptions) (lines seed : ℕ) → IsRun words job options → IsGen words lines seed → ⊥
  no_gen job options lines seed run gen = let same = one_command words (RunCommand job options) (GenCommand lines seed) run gen in cc

  no_lines : (file : List ℕ) (lines seed : ℕ) → IsScript words file → IsGen words lines seed → ⊥
  no_lines file lines seed script gen = let same = one_command words (ScriptCommand file) (GenCommand lines seed) script gen in cc

  no_inspect : (job : List ℕ) (options : RunOptions) → IsRun words job options → IsInspect words → ⊥
  no_inspect job options run inspect = let same = one_command words (RunCommand job options) InspectCommand run inspect in cc

  no_show : (file : List ℕ) → IsScript words file → IsInspect words → ⊥
  no_show file script inspect = let same = one_command words (ScriptCommand file) InspectCommand script inspect in cc

  no_gen_too : (lines seed : ℕ) → IsGen words lines seed → IsInspect words → ⊥
  no_gen_too lines seed gen inspect = let same = one_command words (GenCommand lines seed) InspectCommand gen inspect in cc

  no_self : (job : List ℕ) (options : RunOptions) → IsRun words job options → NamesSelfRun words → ⊥
  no_self job options run self = let same = one_command words (RunCommand job options) (SelfRunCommand self.0 self.1) run self.2 in cc

  no_self_script : (file : List ℕ) → IsScript words file → NamesSelfRun words → ⊥
  no_self_script file script self = let same = one_command words (ScriptCommand file) (SelfRunCommand self.0 self.1) script self.2 in cc

  no_self_gen : (lines seed : ℕ) → IsGen words lines seed → NamesSelfRun words → ⊥
  no_self_gen lines seed gen self = let same = one_command words (GenCommand lines seed) (SelfRunCommand self.0 self.1) gen self.2 in cc

  no_self_show : IsInspect words → NamesSelfRun words → ⊥
  no_self_show inspect self = let same = one_command words InspectCommand (SelfRunCommand self.0 self.1) inspect self.2 in cc

  same_run : (a b : List ℕ) (p q : RunOptions) → IsRun words a p → IsRun words b q → (a ≡ b) × (p ≡ q)
  same_run a b p q first second = let same = one_command words (RunCommand a p) (RunCommand b q) first second in ((cc), (cc))

  -- what the words name and is told is what is known of the job that they name
  told_of : (options : RunOptions) (text : List ℕ) (tells : TellsJob words contents options text) (P : RunOptions → List ℕ → Type 0) → NamesRun words contents P → P options text
  told_of options text tells P named =
      let both = same_run named.job tells.job named.options options named.is_run tells.is_run in
      let same : contents named.job ≡ Some text = ap contents both.0 ∙ tells.told in
      let there : P named.options text = subst (λ o. IfSome o (P named.options)) same named.holds in
      subst (λ o. P o text) both.1 there

  -- a job's text that is told has no fault, and is within its limit
  good : (options : RunOptions) (text : List ℕ) (tells : TellsJob words contents options text) (P : RunOptions → Job → Type 0) → NamesGoodJob words functions contents P → IsGoodText functions (P options) text
  good options text tells P named = told_of options text tells (λ o t. IsGoodText functions (P o) t) named

  usage_not : (kind : _) (job : List ℕ) (options : RunOptions) → IsRun words job options → usage_fault words ≡ Some kind → ⊥
  usage_not kind job options is fault = let none = no_usage_fault words (RunCommand job options) is in cc

  pub no_command : (fault : Fault) → status_of fault ≡ 2 → IsFaultOf words functions contents held fault → NamesCommand words → ⊥
  no_command (Usage kind) two is (inl run) = usage_not kind run.0 run.1 run.2 is
  no_command (Usage kind) two is (inr (inl script)) = let none = no_usage_fault words (ScriptCommand script.0) script.1 in cc
  no_command (Usage kind) two is (inr (inr (inl gen))) = let none = no_usage_fault words (GenCommand gen.0 gen.1) gen.2 in cc
  no_command (Usage kind) two is (inr (inr (inr (inl self)))) = let none = no_usage_fault words (SelfRunCommand self.0 self.1) self.2 in cc
  no_command (Usage kind) two is (inr (inr (inr (inr inspect)))) = let none = no_usage_fault words InspectCommand inspect in cc
  no_command (JobLine line kind) two is named = absurd (cc)
  no_command JobInput two is named = absurd (cc)
  no_command (SourceInput a) two is named = absurd (cc)
  no_command Keeper two is named = absurd (cc)
  no_command (HoldsImage number) two is named = absurd (cc)
  no_command HoldsNoImage two is named = absurd (cc)
  no_command (NotImage number place) two is named = absurd (cc)
  no_command Link two is named = absurd (cc)
  no_command (OverCredit channel received announced) two is named = absurd (cc)
  no_command (Peer peer) two is named = absurd (cc)
  no_command Output two is named = absurd (cc)
  no_command LongJob two is named = absurd (cc)
  no_command (LongLine a) two is named = absurd (cc)
  no_command (BigSource a) two is named = absurd (cc)
  no_command BigImage two is named = absurd (cc)
  no_command (ScriptLine line) two is named = absurd (cc)
  no_command ScriptInput two is named = absurd (cc)
  no_command LongScript two is named = absurd (cc)
  no_command (TooFewSegments have need) two is named = absurd (cc)
  no_command Memory two is named = absurd (cc)

  no_good_text : (options : RunOptions) (text : List ℕ) (tells : TellsJob words contents options text) (P : RunOptions → Job → Type 0) → IsNoJob functions text → NamesGoodJob words functions contents P → ⊥
  no_good_text options text tells P bad named = let none = (good options text tells P named).1 in let fault = bad.1.1 in cc

  no_long_text : (options : RunOptions) (text : List ℕ) (tells : TellsJob words contents options text) (P : RunOptions → Job → Type 0) → JOB_MAX < length text → NamesGoodJob words functions contents P → ⊥
  no_long_text options text tells P long named = let fits = (good options text tells P named).0 in omega (arith, fits, long)

  module _ (options : RunOptions) (text : List ℕ) (tells : TellsJob words contents options text) where
    no_script : (file : List ℕ) → IsScript words file → ⊥
    no_script file script = not_both tells.job file options tells.is_run script

    pub text_refused : IsNoJob functions text → (fault : Fault) → IsFaultOf words functions contents held fault → Contains (3 ∷ 4 ∷ 70 ∷ []) (status_of fault)
    text_refused bad (Usage kind) is = absurd (usage_not kind tells.job options tells.is_run is)
    text_refused bad (JobLine line kind) is = (0, omega arith, refl)
    text_refused bad JobInput is = (1, omega arith, refl)
    text_refused bad (SourceInput a) is = (1, omega arith, refl)
    text_refused bad Link is = absurd is
    text_refused bad Keeper (inl run) = absurd (no_good_text options text tells _ bad run)
    text_refused bad Keeper (inr inspect) = absurd (no_inspect tells.job options tells.is_run inspect)
    text_refused bad (HoldsImage number) is = absurd (no_good_text options text tells _ bad is.0)
    text_refused bad HoldsNoImage is = absurd (no_inspect tells.job options tells.is_run is.0)
    text_refused bad (NotImage number place) is = absurd (no_inspect tells.job options tells.is_run is.0)
    text_refused bad (OverCredit channel received announced) (inl run, by) = absurd (no_good_text options text tells _ bad run.1)
    text_refused bad (OverCredit channel received announced) (inr self, by) = absurd (no_self tells.job options tells.is_run self.0)
    text_refused bad (Peer peer) (inl run) = absurd (no_good_text options text tells _ bad run.1)
    text_refused bad (Peer peer) (inr self) = absurd (no_self tells.job options tells.is_run self.0)
    text_refused bad Output (inl run) = absurd (no_good_text options text tells _ bad run.1)
    text_refused bad Output (inr (inl run)) = absurd (no_script run.0 run.1)
    text_refused bad Output (inr (inr (inl gen))) = absurd (no_gen tells.job options gen.0 gen.1 tells.is_run gen.2)
    text_refused bad Output (inr (inr (inr (inl self)))) = absurd (no_self tells.job options tells.is_run (self.0, self.1, self.2))
    text_refused bad Output (inr (inr (inr (inr inspects)))) = absurd (no_inspect tells.job options tells.is_run inspects.0)
    text_refused bad LongJob is = let long = told_of options text tells (λ o t. JOB_MAX < length t) is in absurd (let fits = bad.0 in omega (arith, fits, long))
    text_refused bad (LongLine a) is = absurd (no_good_text options text tells _ bad is.1)
    text_refused bad (BigSource a) is = absurd (no_good_text options text tells _ bad is.1)
    text_refused bad BigImage is = absurd (no_good_text options text tells _ bad is.1)
    text_refused bad Memory is = (2, omega arith, refl)
    text_refused bad (ScriptLine line) is = absurd (no_script is.0 is.1)
    text_refused bad ScriptInput is = absurd (no_script is.0 is.1)
    text_refused bad LongScript is = absurd (no_script is.0 is.1)
    text_refused bad (TooFewSegments have need) (inl run) = absurd (no_good_text options text tells _ bad run)
    text_refused bad (TooFewSegments have need) (inr is) = absurd (no_script is.0 is.1)

    pub job_refused : JOB_MAX < length text → (fault : Fault) → IsFaultOf words functions contents held fault → Contains (10 ∷ 4 ∷ 70 ∷ []) (status_of fault)
    job_refused long (Usage kind) is = absurd (usage_not kind tells.job options tells.is_run is)
    job_refused long (JobLine line kind) (inl is) = let fits = (told_of options text tells (λ o t. (length t ≤ JOB_MAX) × (first_fault functions t ≡ Some (line, kind))) is).0 in absurd (omega (arith, fits, long))
    job_refused long (JobLine line kind) (inr self) = absurd (no_self tells.job options tells.is_run self.0)
    job_refused long JobInput is = (1, omega arith, refl)
    job_refused long (SourceInput a) is = (1, omega arith, refl)
    job_refused long Link is = absurd is
    job_refused long Keeper (inl run) = absurd (no_long_text options text tells _ long run)
    job_refused long Keeper (inr inspect) = absurd (no_inspect tells.job options tells.is_run inspect)
    job_refused long (HoldsImage number) is = absurd (no_long_text options text tells _ long is.0)
    job_refused long HoldsNoImage is = absurd (no_inspect tells.job options tells.is_run is.0)
    job_refused long (NotImage number place) is = absurd (no_inspect tells.job options tells.is_run is.0)
    job_refused long (OverCredit channel received announced) (inl run, by) = absurd (no_long_text options text tells _ long run.1)
    job_refused long (OverCredit channel received announced) (inr self, by) = absurd (no_self tells.job options tells.is_run self.0)
    job_refused long (Peer peer) (inl run) = absurd (no_long_text options text tells _ long run.1)
    job_refused long (Peer peer) (inr self) = absurd (no_self tells.job options tells.is_run self.0)
    job_refused long Output (inl run) = absurd (no_long_text options text tells _ long run.1)
    job_refused long Output (inr (inl run)) = absurd (no_script run.0 run.1)
    job_refused long Output (inr (inr (inl gen))) = absurd (no_gen tells.job options gen.0 gen.1 tells.is_run gen.2)
    job_refused long Output (inr (inr (inr (inl self)))) = absurd (no_self tells.job options tells.is_run (self.0, self.1, self.2))
    job_refused long Output (inr (inr (inr (inr inspects)))) = absurd (no_inspect tells.job options tells.is_run inspects.0)
    job_refused long LongJob is = (0, omega arith, refl)
    job_refused long (LongLine a) is = (0, omega arith, refl)
    job_refused long (BigSource a) is = (0, omega arith, refl)
    job_refused long BigImage is = (0, omega arith, refl)
    job_refused long Memory is = (2, omega arith, refl)
    job_refused long (ScriptLine line) is = absurd (no_script is.0 is.1)
    job_refused long ScriptInput is = absurd (no_script is.0 is.1)
    job_refused long LongScript is = absurd (no_script is.0 is.1)
    job_refused long (TooFewSegments have need) is = (0, omega arith, refl)

  -- ---- the pool and the sources of the job of a text

  module _ (options : RunOptions) (job : Job) (run : TellsRun words functions contents options job) (no_fault : JobTextHasNoFault) (files : JobTextNamesItsFiles) where
    none : first_fault functions run.text ≡ None
    none = no_fault functions run.text job run.is_job

    names_script : (file : List ℕ) → IsScript words file → ⊥
    names_script file script = not_both run.tells.job file options run.tells.is_run script

    no_show_too : IsInspect words → ⊥
    no_show_too inspect = no_inspect run.tells.job options run.tells.is_run inspect

    no_self_too : NamesSelfRun words → ⊥
    no_self_too self = no_self run.tells.job options run.tells.is_run self

    usage_no : (kind : _) → usage_fault words ≡ Some kind → ⊥
    usage_no kind is = usage_not kind run.tells.job options run.tells.is_run is

    no_line : (line : ℕ) (kind : _) → IsFaultOf words functions contents held (JobLine line kind) → ⊥
    no_line line kind (inr self) = no_self_too self.0
    no_line line kind (inl is) = let fault = (told_of options run.text run.tells (λ o t. (length t ≤ JOB_MAX) × (first_fault functions t ≡ Some (line, kind))) is).1 in let clear = none in cc

    no_long_job : IsFaultOf words functions contents held LongJob → ⊥
    no_long_job is = let long = told_of options run.text run.tells (λ o t. JOB_MAX < length t) is in let fits = run.fits in omega (arith, fits, long)

    -- all jobs of the text need the same segments
    needs : (other : Job) → IsJobText functions run.text other → segments_needed other ≡ segments_needed job
    needs other is = needs_same functions run.text other job is run.is_job

    -- no job that is ready needs more than the pool has
    not_ready : (P : Job → Type 0) → options.pool < segments_needed job → NamesReadyJob words functions contents P → ⊥
    not_ready P few named =
        let it = good options run.text run.tells (λ o j. HasPool o j × P j) named in
        let same = needs it.2.0 it.2.1 in
        let pool = it.2.2.0 in
        omega (arith, few, same, pool)

    -- where the pool is too small no work is done
    pub pool_not_done : (P : List ℕ → Type 0) → options.pool < segments_needed job → Prints words functions contents held P → ⊥
    pool_not_done P few (inl named) = not_ready _ few named.1
    pool_not_done P few (inr (inl script)) = names_script script.0 script.1
    pool_not_done P few (inr (inr (inl gen))) = no_gen run.tells.job options gen.0 gen.1 run.tells.is_run gen.2
    pool_not_done P few (inr (inr (inr (inl self)))) = no_self_too (self.0, self.1, self.2)
    pool_not_done P few (inr (inr (inr (inr inspects)))) = no_show_too inspects.0

    pub pool_refused : options.pool < segments_needed job → (fault : Fault) → IsFaultOf words functions contents held fault → Contains (10 ∷ 4 ∷ 70 ∷ []) (status_of fault)
    pool_refused few (Usage kind) is = absurd (usage_no kind is)
    pool_refused few (JobLine line kind) is = absurd (no_line line kind is)
    pool_refused few JobInput is = (1, omega arith, refl)
    pool_refused few (SourceInput b) is = (1, omega arith, refl)
    pool_refused few Link is = absurd is
    pool_refused few Keeper (inl run) = absurd (not_ready _ few run)
    pool_refused few Keeper (inr inspect) = absurd (no_show_too inspect)
    pool_refused few (HoldsImage number) is = absurd (not_ready _ few is.0)
    pool_refused few HoldsNoImage is = absurd (no_show_too is.0)
    pool_refused few (NotImage number place) is = absurd (no_show_too is.0)
    pool_refused few (OverCredit channel received announced) (inl run, by) = absurd (not_ready _ few run.1)
    pool_refused few (OverCredit channel received announced) (inr self, by) = absurd (no_self run.tells.job options run.tells.is_run self.0)
    pool_refused few (Peer peer) (inl run) = absurd (not_ready _ few run.1)
    pool_refused few (Peer peer) (inr self) = absurd (no_self run.tells.job options run.tells.is_run self.0)
    pool_refused few Output is = absurd (pool_not_done (λ text. ⊤) few is)
    pool_refused few LongJob is = (0, omega arith, refl)
    pool_refused few (LongLine b) is = (0, omega arith, refl)
    pool_refused few (BigSource b) is = (0, omega arith, refl)
    pool_refused few BigImage is = (0, omega arith, refl)
    pool_refused few Memory is = (2, omega arith, refl)
    pool_refused few (ScriptLine line) is = absurd (names_script is.0 is.1)
    pool_refused few ScriptInput is = absurd (names_script is.0 is.1)
    pool_refused few LongScript is = absurd (names_script is.0 is.1)
    pool_refused few (TooFewSegments have need) is = (0, omega arith, refl)

    -- no pool is too small where the job has enough
    no_small_pool : HasPool options job → (have need : ℕ) → IsFaultOf words functions contents held (TooFewSegments have need) → ⊥
    no_small_pool enough have need (inl named) =
        let it = good options run.text run.tells (λ o j. HasSmallPool o j have need) named in
        let same = needs it.2.0 it.2.1 in
        let pool = it.2.2 in
        omega (arith, enough, same, pool.have_is, pool.need_is, pool.few)
    no_small_pool enough have need (inr script) = names_script script.0 script.1

    same_many : (other : Job) → IsJobText functions run.text other → tasks other 0 ≡ tasks job 0
    same_many other is =
        let same : source_files other ≡ source_files job = files functions run.text other job is run.is_job in
        sym (length-map other.sources.items (λ (file : Items ℕ). file.items)) ∙ ap length same ∙ length-map job.sources.items (λ (file : Items ℕ). file.items)

    module _ (bytes : ℕ → List ℕ) (sources : TellsSources job contents bytes) where
      -- the sources of each job of the text are told to have these bytes
      tells_too : (other : Job) → IsJobText functions run.text other → TellsSources other contents bytes
      tells_too other is = tells_same job other contents bytes (files functions run.text other job is run.is_job) sources

      is_told : (other : Job) → IsJobText functions run.text other → (a : ℕ) → a < tasks other 0 → (P : List ℕ → Type 0) → IfSome (contents (source_name other a)) P → P (bytes a)
      is_told other is a inside P told = subst (λ o. IfSome o P) (tells_too other is a inside) told

      -- no run is done where a source is over its limit
      pub not_done : (P : List ℕ → Type 0) (a : ℕ) → a < tasks job 0 → IsOverLimit (bytes a) → Prints words functions contents held P → ⊥
      not_done P a inside over (inr (inl script)) = names_script script.0 script.1
      not_done P a inside over (inr (inr (inl gen))) = no_gen run.tells.job options gen.0 gen.1 run.tells.is_run gen.2
      not_done P a inside over (inr (inr (inr (inl self)))) = no_self_too (self.0, self.1, self.2)
      not_done P a inside over (inr (inr (inr (inr inspects)))) = no_show_too inspects.0
      not_done P a inside over (inl runs) =
          let it = good options run.text run.tells (λ o j. HasPool o j × ((bs : ℕ → List ℕ) → TellsSources j contents bs → AreWithinLimits j bs × P (table_text (tally j (λ b. lines (bs b)))))) runs.1 in
          let many = same_many it.2.0 it.2.1 in
          (it.2.2.1 bytes (tells_too it.2.0 it.2.1)).0 a (omega (arith, many, inside)) over

      pub source_refused : (a : ℕ) → a < tasks job 0 → IsOverLimit (bytes a) → (fault : Fault) → IsFaultOf words functions contents held fault → Contains (10 ∷ 4 ∷ 5 ∷ 8 ∷ 11 ∷ 12 ∷ 70 ∷ []) (status_of fault)
      source_refused a inside over (Usage kind) is = absurd (usage_no kind is)
      source_refused a inside over (JobLine line kind) is = absurd (no_line line kind is)
      source_refused a inside over JobInput is = (1, omega arith, refl)
      source_refused a inside over (SourceInput b) is = (1, omega arith, refl)
      source_refused a inside over Keeper is = (2, omega arith, refl)
      source_refused a inside over (HoldsImage number) is = (3, omega arith, refl)
      source_refused a inside over HoldsNoImage is = (3, omega arith, refl)
      source_refused a inside over (NotImage number place) is = (3, omega arith, refl)
      source_refused a inside over Link is = absurd is
      source_refused a inside over (OverCredit channel received announced) is = (4, omega arith, refl)
      source_refused a inside over (Peer peer) is = (5, omega arith, refl)
      source_refused a inside over Output is = absurd (not_done (λ text. ⊤) a inside over is)
      source_refused a inside over LongJob is = absurd (no_long_job is)
      source_refused a inside over (LongLine b) is = (0, omega arith, refl)
      source_refused a inside over (BigSource b) is = (0, omega arith, refl)
      source_refused a inside over BigImage is = (0, omega arith, refl)
      source_refused a inside over Memory is = (6, omega arith, refl)
      source_refused a inside over (ScriptLine line) is = absurd (names_script is.0 is.1)
      source_refused a inside over ScriptInput is = absurd (names_script is.0 is.1)
      source_refused a inside over LongScript is = absurd (names_script is.0 is.1)
      source_refused a inside over (TooFewSegments have need) is = (0, omega arith, refl)

      -- no source is the one that passes a limit, where none does
      no_source : (b : ℕ) (P : List ℕ → Type 0) → ((bs : List ℕ) → P bs → IsOverLimit bs) → AreWithinLimits job bytes → NamesReadyJob words functions contents (λ j. IsOfSource j contents b P) → ⊥
      no_source b P leads within named =
          let it = good options run.text run.tells (λ o j. HasPool o j × IsOfSource j contents b P) named in
          let inside = it.2.2.1.0 in
          let many = same_many it.2.0 it.2.1 in
          within b (omega (arith, many, inside)) (leads (bytes b) (is_told it.2.0 it.2.1 b inside P it.2.2.1.1))

      -- no image of a job of the text is too large
      no_large : ((other : Job) → IsJobText functions run.text other → (after : Option (List KeptImage)) → IsTooLarge other (λ a. lines (bytes a)) options.every held after → ⊥) → NamesGoodJob words functions contents (λ o j. HasPool o j × ((after : Option (List KeptImage)) × HasLargeImage j o.every contents held after)) → ⊥
      no_large small named =
          let it = good options run.text run.tells (λ o j. HasPool o j × ((after : Option (List KeptImage)) × HasLargeImage j o.every contents held after)) named in
          small it.2.0 it.2.1 it.2.2.1.0 (it.2.2.1.1 bytes (tells_too it.2.0 it.2.1))

      pub completes : HasPool options job → AreWithinLimits job bytes → ((other : Job) → IsJobText functions run.text other → (after : Option (List KeptImage)) → IsTooLarge other (λ a. lines (bytes a)) options.every held after → ⊥) → held ≡ Some [] → (fault : Fault) → (status_of fault ≡ 4 → ⊥) → (status_of fault ≡ 5 → ⊥) → (status_of fault ≡ 7 → ⊥) → IsFaultOf words functions contents held fault → Contains (0 ∷ 11 ∷ 12 ∷ 70 ∷ []) (status_of fault)
      completes enough within small empty (Usage kind) input keeper output is = absurd (usage_no kind is)
      completes enough within small empty (JobLine line kind) input keeper output is = absurd (no_line line kind is)
      completes enough within small empty JobInput input keeper output is = absurd (input refl)
      completes enough within small empty (SourceInput b) input keeper output is = absurd (input refl)
      completes enough within small empty Keeper input keeper output is = absurd (keeper refl)
      completes enough within small empty (HoldsImage number) input keeper output is = absurd (none_and_last (λ kept. kept.number ≡ number) held empty is.1)
      completes enough within small empty HoldsNoImage input keeper output is = absurd (no_show_too is.0)
      completes enough within small empty (NotImage number place) input keeper output is = absurd (no_show_too is.0)
      completes enough within small empty Link input keeper output is = absurd is
      completes enough within small empty (OverCredit channel received announced) input keeper output is = (1, omega arith, refl)
      completes enough within small empty (Peer peer) input keeper output is = (2, omega arith, refl)
      completes enough within small empty Output input keeper output is = absurd (output refl)
      completes enough within small empty LongJob input keeper output is = absurd (no_long_job is)
      completes enough within small empty (LongLine b) input keeper output is = absurd (no_source b (λ bs. HasLongLine (lines bs)) (λ bs long. inr long) within is.1)
      completes enough within small empty (BigSource b) input keeper output is = absurd (no_source b (λ bs. SOURCE_MAX < length bs) (λ bs big. inl big) within is.1)
      completes enough within small empty BigImage input keeper output is = absurd (no_large small is.1)
      completes enough within small empty Memory input keeper output is = (3, omega arith, refl)
      completes enough within small empty (ScriptLine line) input keeper output is = absurd (names_script is.0 is.1)
      completes enough within small empty ScriptInput input keeper output is = absurd (names_script is.0 is.1)
      completes enough within small empty LongScript input keeper output is = absurd (names_script is.0 is.1)
      completes enough within small empty (TooFewSegments have need) input keeper output is = absurd (no_small_pool enough have need is)

    -- ---- a run whose keeper tells an image

    module _ (kept : KeptImage) (told : TellsLast held kept) where
      not_none : HoldsNone held → ⊥
      not_none none_held = told_last held kept told none_held

      pub held_not_done : (P : List ℕ → Type 0) → Prints words functions contents held P → ⊥
      held_not_done P (inl runs) = not_none runs.0
      held_not_done P (inr (inl script)) = names_script script.0 script.1
      held_not_done P (inr (inr (inl gen))) = no_gen run.tells.job options gen.0 gen.1 run.tells.is_run gen.2
      held_not_done P (inr (inr (inr (inl self)))) = no_self_too (self.0, self.1, self.2)
      held_not_done P (inr (inr (inr (inr inspects)))) = no_show_too inspects.0

      pub held_refused : HasPool options job → (fault : Fault) → IsFaultOf words functions contents held fault → Contains (8 ∷ 5 ∷ 4 ∷ 70 ∷ []) (status_of fault)
      held_refused enough (Usage kind) is = absurd (usage_no kind is)
      held_refused enough (JobLine line kind) is = absurd (no_line line kind is)
      held_refused enough (ScriptLine line) is = absurd (names_script is.0 is.1)
      held_refused enough JobInput is = (2, omega arith, refl)
      held_refused enough ScriptInput is = absurd (names_script is.0 is.1)
      held_refused enough (SourceInput a) is = (2, omega arith, refl)
      held_refused enough Keeper is = (1, omega arith, refl)
      held_refused enough (HoldsImage number) is = (0, omega arith, refl)
      held_refused enough HoldsNoImage is = (0, omega arith, refl)
      held_refused enough (NotImage number place) is = (0, omega arith, refl)
      held_refused enough Link is = absurd is
      held_refused enough Output is = absurd (held_not_done (λ text. ⊤) is)
      held_refused enough LongJob is = absurd (no_long_job is)
      held_refused enough LongScript is = absurd (names_script is.0 is.1)
      held_refused enough (LongLine a) is = absurd (not_none is.0)
      held_refused enough (BigSource a) is = absurd (not_none is.0)
      held_refused enough BigImage is = absurd (not_none is.0)
      held_refused enough (TooFewSegments have need) is = absurd (no_small_pool enough have need is)
      held_refused enough (OverCredit channel received announced) (inl run, by) = absurd (not_none run.0)
      held_refused enough (OverCredit channel received announced) (inr self, by) = absurd (no_self run.tells.job options run.tells.is_run self.0)
      held_refused enough (Peer peer) (inl run) = absurd (not_none run.0)
      held_refused enough (Peer peer) (inr self) = absurd (no_self run.tells.job options run.tells.is_run self.0)
      held_refused enough Memory is = (3, omega arith, refl)

  -- ---- scripts

  module _ (text : List ℕ) (tells : TellsScript words contents text) where
    -- what the words name and is told is what is known of the script that they name
    told_script : (P : List ℕ → Type 0) → NamesScript words contents P → P text
    told_script P named =
        let name : named.0 ≡ tells.file = (let first = named.1.words_are in let second = tells.is_script.words_are in cc) in
        let same : contents named.0 ≡ Some text = ap contents name ∙ tells.told in
        subst (λ o. IfSome o P) same named.2

    no_usage : (kind : _) → usage_fault words ≡ Some kind → ⊥
    no_usage kind fault = let none = no_usage_fault words (ScriptCommand tells.file) tells.is_script in cc

    no_job_too : (P : RunOptions → List ℕ → Type 0) → NamesRun words contents P → ⊥
    no_job_too P run = not_both run.job tells.file run.options run.is_run tells.is_script

    -- what is printed is replied to a script of the text
    pub script_printed : (P : List ℕ → Type 0) → Prints words functions contents held P → Replies P text
    script_printed P (inl run) = absurd (no_job_too _ run.1)
    script_printed P (inr (inl run)) = told_script (Replies P) run
    script_printed P (inr (inr (inl gen))) = absurd (no_lines tells.file gen.0 gen.1 tells.is_script gen.2)
    script_printed P (inr (inr (inr (inl self)))) = absurd (no_self_script tells.file tells.is_script (self.0, self.1, self.2))
    script_printed P (inr (inr (inr (inr inspects)))) = absurd (no_show tells.file tells.is_script inspects.0)

    module _ (clear : ScriptTextHasNoBadLine) (one : ScriptTextIsOfOneScript) where
      pub no_bad_too : (P : Script → Type 0) → IsNoScript text → IsScriptWith P text → ⊥
      no_bad_too P bad good = clear text good.1.0 bad.0 good.1.1 bad.1.1

      -- a text that is over its limit, or of a script with too few segments, is none of one with enough
      pub over_not_good : PassesScriptLimit text → IsScriptWith HasEnough text → ⊥
      over_not_good (inl long) good = let fits = good.0 in omega (arith, long, fits)
      over_not_good (inr few) good = let same = one text few.1.0 good.1.0 few.1.1 good.1.1 in omega (arith, few.1.2, good.1.2, same.channels, same.total)

      over_no_bad : PassesScriptLimit text → (line : ℕ) → HasBadLine line text → ⊥
      over_no_bad (inl long) line bad = let fits = bad.0 in omega (arith, long, fits)
      over_no_bad (inr few) line bad = clear text few.1.0 line few.1.1 bad.1

      with_enough : (P : List ℕ → Type 0) → Replies P text → IsScriptWith HasEnough text
      with_enough P replies = (replies.0, (replies.1.0, replies.1.1, replies.1.2.0))

      pub script_refused : IsNoScript text → (fault : Fault) → IsFaultOf words functions contents held fault → Contains (3 ∷ 4 ∷ 70 ∷ []) (status_of fault)
      script_refused bad (Usage kind) is = absurd (no_usage kind is)
      script_refused bad (ScriptLine line) is = (0, omega arith, refl)
      script_refused bad ScriptInput is = (1, omega arith, refl)
      script_refused bad Memory is = (2, omega arith, refl)
      script_refused bad LongScript is = let long = told_script (λ t. SCRIPT_MAX < length t) is in let fits = bad.1.0 in absurd (omega (arith, long, fits))
      script_refused bad (TooFewSegments have need) (inl run) = absurd (no_job_too _ run)
      script_refused bad (TooFewSegments have need) (inr is) = absurd (no_bad_too (λ script. HasTooFew script have need) bad (told_script (IsScriptWith (λ script. HasTooFew script have need)) is))
      script_refused bad Output is = absurd (no_bad_too (λ script. HasEnough script × ⊤) bad (script_printed (λ t. ⊤) is))
      script_refused bad (JobLine line kind) (inl is) = absurd (no_job_too _ is)
      script_refused bad (JobLine line kind) (inr self) = absurd (no_self_script tells.file tells.is_script self.0)
      script_refused bad JobInput is = absurd (no_job_too _ is)
      script_refused bad (SourceInput a) is = absurd (no_job_too _ is.1)
      script_refused bad LongJob is = absurd (no_job_too _ is)
      script_refused bad (LongLine a) is = absurd (no_job_too _ is.1)
      script_refused bad (BigSource a) is = absurd (no_job_too _ is.1)
      script_refused bad BigImage is = absurd (no_job_too _ is.1)
      script_refused bad Keeper (inl run) = absurd (no_job_too _ run)
      script_refused bad Keeper (inr inspect) = absurd (no_show tells.file tells.is_script inspect)
      script_refused bad (HoldsImage number) is = absurd (no_job_too _ is.0)
      script_refused bad HoldsNoImage is = absurd (no_show tells.file tells.is_script is.0)
      script_refused bad (NotImage number place) is = absurd (no_show tells.file tells.is_script is.0)
      script_refused bad Link is = absurd is
      script_refused bad (OverCredit channel received announced) (inl run, by) = absurd (no_job_too _ run.1)
      script_refused bad (OverCredit channel received announced) (inr self, by) = absurd (no_self_script tells.file tells.is_script self.0)
      script_refused bad (Peer peer) (inl run) = absurd (no_job_too _ run.1)
      script_refused bad (Peer peer) (inr self) = absurd (no_self_script tells.file tells.is_script self.0)

      pub over_refused : PassesScriptLimit text → (fault : Fault) → IsFaultOf words functions contents held fault → Contains (10 ∷ 4 ∷ 70 ∷ []) (status_of fault)
      over_refused over (Usage kind) is = absurd (no_usage kind is)
      over_refused over (ScriptLine line) is = absurd (over_no_bad over line (told_script (HasBadLine line) is))
      over_refused over ScriptInput is = (1, omega arith, refl)
      over_refused over Memory is = (2, omega arith, refl)
      over_refused over LongScript is = (0, omega arith, refl)
      over_refused over (TooFewSegments have need) is = (0, omega arith, refl)
      over_refused over Output is = absurd (over_not_good over (with_enough (λ t. ⊤) (script_printed (λ t. ⊤) is)))
      over_refused over (JobLine line kind) (inl is) = absurd (no_job_too _ is)
      over_refused over (JobLine line kind) (inr self) = absurd (no_self_script tells.file tells.is_script self.0)
      over_refused over JobInput is = absurd (no_job_too _ is)
      over_refused over (SourceInput a) is = absurd (no_job_too _ is.1)
      over_refused over LongJob is = absurd (no_job_too _ is)
      over_refused over (LongLine a) is = absurd (no_job_too _ is.1)
      over_refused over (BigSource a) is = absurd (no_job_too _ is.1)
      over_refused over BigImage is = absurd (no_job_too _ is.1)
      over_refused over Keeper (inl run) = absurd (no_job_too _ run)
      over_refused over Keeper (inr inspect) = absurd (no_show tells.file tells.is_script inspect)
      over_refused over (HoldsImage number) is = absurd (no_job_too _ is.0)
      over_refused over HoldsNoImage is = absurd (no_show tells.file tells.is_script is.0)
      over_refused over (NotImage number place) is = absurd (no_show tells.file tells.is_script is.0)
      over_refused over Link is = absurd is
      over_refused over (OverCredit channel received announced) (inl run, by) = absurd (no_job_too _ run.1)
      over_refused over (OverCredit channel received announced) (inr self, by) = absurd (no_self_script tells.file tells.is_script self.0)
      over_refused over (Peer peer) (inl run) = absurd (no_job_too _ run.1)
      over_refused over (Peer peer) (inr self) = absurd (no_self_script tells.file tells.is_script self.0)

      -- no work is done where the text is over its limit, or of a script with too few segments
      pub over_not_done : (P : List ℕ → Type 0) → PassesScriptLimit text → Prints words functions contents held P → ⊥
      over_not_done P over prints = over_not_good over (with_enough P (script_printed P prints))

      pub bad_not_done : (P : List ℕ → Type 0) → IsNoScript text → Prints words functions contents held P → ⊥
      bad_not_done P bad prints = no_bad_too (λ script. HasEnough script × P (printed_replies script)) bad (script_printed P prints)

      pub script_completes : IsScriptWith HasEnough text → (fault : Fault) → (status_of fault ≡ 4 → ⊥) → (status_of fault ≡ 7 → ⊥) → IsFaultOf words functions contents held fault → Contains (0 ∷ 70 ∷ []) (status_of fault)
      script_completes good (Usage kind) input output is = absurd (no_usage kind is)
      script_completes good (ScriptLine line) input output is = absurd (no_bad_too HasEnough (line, told_script (HasBadLine line) is) good)
      script_completes good ScriptInput input output is = absurd (input refl)
      script_completes good Memory input output is = (1, omega arith, refl)
      script_completes good LongScript input output is = absurd (over_not_good (inl (told_script (λ t. SCRIPT_MAX < length t) is)) good)
      script_completes good (TooFewSegments have need) input output (inl run) = absurd (no_job_too _ run)
      script_completes good (TooFewSegments have need) input output (inr is) = absurd (over_not_good (too_few words functions contents held (Some text) have need (told_script (IsScriptWith (λ script. HasTooFew script have need)) is)) good)
      script_completes good Output input output is = absurd (output refl)
      script_completes good (JobLine line kind) input output (inl is) = absurd (no_job_too _ is)
      script_completes good (JobLine line kind) input output (inr self) = absurd (no_self_script tells.file tells.is_script self.0)
      script_completes good JobInput input output is = absurd (no_job_too _ is)
      script_completes good (SourceInput a) input output is = absurd (no_job_too _ is.1)
      script_completes good LongJob input output is = absurd (no_job_too _ is)
      script_completes good (LongLine a) input output is = absurd (no_job_too _ is.1)
      script_completes good (BigSource a) input output is = absurd (no_job_too _ is.1)
      script_completes good BigImage input output is = absurd (no_job_too _ is.1)
      script_completes good Keeper input output (inl run) = absurd (no_job_too _ run)
      script_completes good Keeper input output (inr inspect) = absurd (no_show tells.file tells.is_script inspect)
      script_completes good (HoldsImage number) input output is = absurd (no_job_too _ is.0)
      script_completes good HoldsNoImage input output is = absurd (no_show tells.file tells.is_script is.0)
      script_completes good (NotImage number place) input output is = absurd (no_show tells.file tells.is_script is.0)
      script_completes good Link input output is = absurd is
      script_completes good (OverCredit channel received announced) input output (inl run, by) = absurd (no_job_too _ run.1)
      script_completes good (OverCredit channel received announced) input output (inr self, by) = absurd (no_self_script tells.file tells.is_script self.0)
      script_completes good (Peer peer) input output (inl run) = absurd (no_job_too _ run.1)
      script_completes good (Peer peer) input output (inr self) = absurd (no_self_script tells.file tells.is_script self.0)

  -- ---- lines of a seed

  module _ (lines seed : ℕ) (gen : IsGen words lines seed) where
    names_no_job : (P : RunOptions → List ℕ → Type 0) → NamesRun words contents P → ⊥
    names_no_job P run = no_gen run.job run.options lines seed run.is_run gen

    names_no_script : (P : List ℕ → Type 0) → NamesScript words contents P → ⊥
    names_no_script P script = no_lines script.0 lines seed script.1 gen

    pub gen_completes : (fault : Fault) → (status_of fault ≡ 7 → ⊥) → IsFaultOf words functions contents held fault → Contains (0 ∷ 70 ∷ []) (status_of fault)
    gen_completes (Usage kind) output is = absurd (let none = no_usage_fault words (GenCommand lines seed) gen in cc)
    gen_completes Memory output is = (1, omega arith, refl)
    gen_completes Output output is = absurd (output refl)
    gen_completes (ScriptLine line) output is = absurd (names_no_script _ is)
    gen_completes ScriptInput output is = absurd (names_no_script _ is)
    gen_completes LongScript output is = absurd (names_no_script _ is)
    gen_completes (TooFewSegments have need) output (inl run) = absurd (names_no_job _ run)
    gen_completes (TooFewSegments have need) output (inr is) = absurd (names_no_script _ is)
    gen_completes (JobLine line kind) output (inl is) = absurd (names_no_job _ is)
    gen_completes (JobLine line kind) output (inr self) = absurd (no_self_gen lines seed gen self.0)
    gen_completes JobInput output is = absurd (names_no_job _ is)
    gen_completes (SourceInput a) output is = absurd (names_no_job _ is.1)
    gen_completes LongJob output is = absurd (names_no_job _ is)
    gen_completes (LongLine a) output is = absurd (names_no_job _ is.1)
    gen_completes (BigSource a) output is = absurd (names_no_job _ is.1)
    gen_completes BigImage output is = absurd (names_no_job _ is.1)
    gen_completes Keeper output (inl run) = absurd (names_no_job _ run)
    gen_completes Keeper output (inr inspect) = absurd (no_gen_too lines seed gen inspect)
    gen_completes (HoldsImage number) output is = absurd (names_no_job _ is.0)
    gen_completes HoldsNoImage output is = absurd (no_gen_too lines seed gen is.0)
    gen_completes (NotImage number place) output is = absurd (no_gen_too lines seed gen is.0)
    gen_completes Link output is = absurd is
    gen_completes (OverCredit channel received announced) output (inl run, by) = absurd (names_no_job _ run.1)
    gen_completes (OverCredit channel received announced) output (inr self, by) = absurd (no_self_gen lines seed gen self.0)
    gen_completes (Peer peer) output (inl run) = absurd (names_no_job _ run.1)
    gen_completes (Peer peer) output (inr self) = absurd (no_self_gen lines seed gen self.0)

  -- ---- a run over lines of a seed

  module _ (lines seed : ℕ) (self : IsSelfRun words lines seed) where
    self_no_job : (P : RunOptions → List ℕ → Type 0) → NamesRun words contents P → ⊥
    self_no_job P run = no_self run.job run.options run.is_run (lines, seed, self)

    self_no_script : (P : List ℕ → Type 0) → NamesScript words contents P → ⊥
    self_no_script P script = no_self_script script.0 script.1 (lines, seed, self)

    self_no_show : IsInspect words → ⊥
    self_no_show inspect = no_self_show inspect (lines, seed, self)

    pub self_completes : JobTextHasNoFault → HasFunctions functions → (fault : Fault) → (status_of fault ≡ 7 → ⊥) → IsFaultOf words functions contents held fault → Contains (0 ∷ 11 ∷ 12 ∷ 70 ∷ []) (status_of fault)
    self_completes law has (Usage kind) output is = absurd (let none = no_usage_fault words (SelfRunCommand lines seed) self in cc)
    self_completes law has (JobLine line kind) output (inl run) = absurd (self_no_job _ run)
    self_completes law has (JobLine line kind) output (inr lacks) = absurd (let none = self_clear law functions has in let some = lacks.1 in cc)
    self_completes law has (OverCredit channel received announced) output is = (1, omega arith, refl)
    self_completes law has (Peer peer) output is = (2, omega arith, refl)
    self_completes law has Memory output is = (3, omega arith, refl)
    self_completes law has Output output is = absurd (output refl)
    self_completes law has (ScriptLine line) output is = absurd (self_no_script _ is)
    self_completes law has ScriptInput output is = absurd (self_no_script _ is)
    self_completes law has LongScript output is = absurd (self_no_script _ is)
    self_completes law has (TooFewSegments have need) output (inl run) = absurd (self_no_job _ run)
    self_completes law has (TooFewSegments have need) output (inr is) = absurd (self_no_script _ is)
    self_completes law has JobInput output is = absurd (self_no_job _ is)
    self_completes law has (SourceInput a) output is = absurd (self_no_job _ is.1)
    self_completes law has LongJob output is = absurd (self_no_job _ is)
    self_completes law has (LongLine a) output is = absurd (self_no_job _ is.1)
    self_completes law has (BigSource a) output is = absurd (self_no_job _ is.1)
    self_completes law has BigImage output is = absurd (self_no_job _ is.1)
    self_completes law has Keeper output (inl run) = absurd (self_no_job _ run)
    self_completes law has Keeper output (inr inspect) = absurd (self_no_show inspect)
    self_completes law has (HoldsImage number) output is = absurd (self_no_job _ is.0)
    self_completes law has HoldsNoImage output is = absurd (self_no_show is.0)
    self_completes law has (NotImage number place) output is = absurd (self_no_show is.0)
    self_completes law has Link output is = absurd is

  -- ---- what the keeper holds

  module _ (images : List KeptImage) (inspect : IsInspect words) (told : held ≡ Some images) where
    no_job_named : (P : RunOptions → List ℕ → Type 0) → NamesRun words contents P → ⊥
    no_job_named P run = no_inspect run.job run.options run.is_run inspect

    no_script_named : (P : List ℕ → Type 0) → NamesScript words contents P → ⊥
    no_script_named P script = no_show script.0 script.1 inspect

    -- what is printed is shown of the last image
    shown_printed : (P : List ℕ → Type 0) → Prints words functions contents held P → HoldsLast held (Shows P)
    shown_printed P (inl run) = absurd (no_job_named _ run.1)
    shown_printed P (inr (inl script)) = absurd (no_script_named _ script)
    shown_printed P (inr (inr (inl gen))) = absurd (no_gen_too gen.0 gen.1 gen.2 inspect)
    shown_printed P (inr (inr (inr (inl self)))) = absurd (no_self_show inspect (self.0, self.1, self.2))
    shown_printed P (inr (inr (inr (inr inspects)))) = inspects.1

    pub none_not_done : (P : List ℕ → Type 0) → HasNoneToShow images → Prints words functions contents held P → ⊥
    none_not_done P none prints = none_shown images none P held told (shown_printed P prints)

    no_usage_too : (kind : _) → usage_fault words ≡ Some kind → ⊥
    no_usage_too kind is = let none = no_usage_fault words InspectCommand inspect in cc

    pub inspect_refused : HasNoneToShow images → (fault : Fault) → IsFaultOf words functions contents held fault → Contains (8 ∷ 5 ∷ 70 ∷ []) (status_of fault)
    inspect_refused none (Usage kind) is = absurd (no_usage_too kind is)
    inspect_refused none (JobLine line kind) (inl is) = absurd (no_job_named _ is)
    inspect_refused none (JobLine line kind) (inr self) = absurd (no_self_show inspect self.0)
    inspect_refused none (ScriptLine line) is = absurd (no_script_named _ is)
    inspect_refused none JobInput is = absurd (no_job_named _ is)
    inspect_refused none ScriptInput is = absurd (no_script_named _ is)
    inspect_refused none (SourceInput a) is = absurd (no_job_named _ is.1)
    inspect_refused none Keeper is = (1, omega arith, refl)
    inspect_refused none (HoldsImage number) is = (0, omega arith, refl)
    inspect_refused none HoldsNoImage is = (0, omega arith, refl)
    inspect_refused none (NotImage number place) is = (0, omega arith, refl)
    inspect_refused none Link is = absurd is
    inspect_refused none Output is = absurd (none_not_done (λ text. ⊤) none is)
    inspect_refused none LongJob is = absurd (no_job_named _ is)
    inspect_refused none LongScript is = absurd (no_script_named _ is)
    inspect_refused none (LongLine a) is = absurd (no_job_named _ is.1)
    inspect_refused none (BigSource a) is = absurd (no_job_named _ is.1)
    inspect_refused none BigImage is = absurd (no_job_named _ is.1)
    inspect_refused none (TooFewSegments have need) (inl run) = absurd (no_job_named _ run)
    inspect_refused none (TooFewSegments have need) (inr is) = absurd (no_script_named _ is)
    inspect_refused none (OverCredit channel received announced) (inl run, by) = absurd (no_job_named _ run.1)
    inspect_refused none (OverCredit channel received announced) (inr self, by) = absurd (no_self_show inspect self.0)
    inspect_refused none (Peer peer) (inl run) = absurd (no_job_named _ run.1)
    inspect_refused none (Peer peer) (inr self) = absurd (no_self_show inspect self.0)
    inspect_refused none Memory is = (2, omega arith, refl)

    pub inspect_completes : (kept : KeptImage) (image : Image) → last_image images ≡ Some kept → IsImageKept kept image → (fault : Fault) → (status_of fault ≡ 5 → ⊥) → (status_of fault ≡ 7 → ⊥) →
        IsFaultOf words functions contents held fault → Contains (0 ∷ 70 ∷ []) (status_of fault)
    inspect_completes kept image last is_kept (Usage kind) keeper output is = absurd (no_usage_too kind is)
    inspect_completes kept image last is_kept (JobLine line kind) keeper output (inl is) = absurd (no_job_named _ is)
    inspect_completes kept image last is_kept (JobLine line kind) keeper output (inr self) = absurd (no_self_show inspect self.0)
    inspect_completes kept image last is_kept (ScriptLine line) keeper output is = absurd (no_script_named _ is)
    inspect_completes kept image last is_kept JobInput keeper output is = absurd (no_job_named _ is)
    inspect_completes kept image last is_kept ScriptInput keeper output is = absurd (no_script_named _ is)
    inspect_completes kept image last is_kept (SourceInput a) keeper output is = absurd (no_job_named _ is.1)
    inspect_completes kept image last is_kept Keeper keeper output is = absurd (keeper refl)
    inspect_completes kept image last is_kept (HoldsImage number) keeper output is = absurd (no_job_named _ is.0)
    inspect_completes kept image last is_kept HoldsNoImage keeper output is = absurd (told_last held kept (images, told, last) is.1)
    inspect_completes kept image last is_kept (NotImage number place) keeper output is = absurd (is_shown images kept image last is_kept number place held told is.1)
    inspect_completes kept image last is_kept Link keeper output is = absurd is
    inspect_completes kept image last is_kept Output keeper output is = absurd (output refl)
    inspect_completes kept image last is_kept LongJob keeper output is = absurd (no_job_named _ is)
    inspect_completes kept image last is_kept LongScript keeper output is = absurd (no_script_named _ is)
    inspect_completes kept image last is_kept (LongLine a) keeper output is = absurd (no_job_named _ is.1)
    inspect_completes kept image last is_kept (BigSource a) keeper output is = absurd (no_job_named _ is.1)
    inspect_completes kept image last is_kept BigImage keeper output is = absurd (no_job_named _ is.1)
    inspect_completes kept image last is_kept (TooFewSegments have need) keeper output (inl run) = absurd (no_job_named _ run)
    inspect_completes kept image last is_kept (TooFewSegments have need) keeper output (inr is) = absurd (no_script_named _ is)
    inspect_completes kept image last is_kept (OverCredit channel received announced) keeper output (inl run, by) = absurd (no_job_named _ run.1)
    inspect_completes kept image last is_kept (OverCredit channel received announced) keeper output (inr self, by) = absurd (no_self_show inspect self.0)
    inspect_completes kept image last is_kept (Peer peer) keeper output (inl run) = absurd (no_job_named _ run.1)
    inspect_completes kept image last is_kept (Peer peer) keeper output (inr self) = absurd (no_self_show inspect self.0)
    inspect_completes kept image last is_kept Memory keeper output is = (1, omega arith, refl)
