-- From what is known of a fault to what its status says.
use Rattle.std.proofs.Common.{◌≡◌, ℕ, ◌≤◌, ◌<◌, List, [], ◌∷◌, ◌++◌, length, Option, Some, None, Contains, IfSome, refl, sym, ap, subst, ◌∙◌, arith, inl, inr, ◌⊎◌}
use Rattle.std.specs.Prelude.{⊤}
use Rattle.std.proofs.lemmas.List.{length-map}
use Rattle.flow_defs.specs.Items.{Items}
use Rattle.flow_defs.specs.Tables.{table_text}
use Rattle.plain_machine.specs.Worth.{tally}
use Rattle.plain_machine.specs.Theorems.{StartExists}
use Rattle.plain_machine.specs.SizeTheorems.{LargeImageIsOfHeavyEdge}
use Rattle.commands.proofs.LoadLemmas.{heavy_of_large}
use Rattle.job_text.specs.declared.words.Command.TheVariants.{Run as RunCommand, Script as ScriptCommand, Gen as GenCommand, SelfRun as SelfRunCommand, Inspect as InspectCommand}
use Rattle.job_text.specs.declared.words.RunOptions.{RunOptions}
use Rattle.job_text.specs.Laws.{JobTextHasNoFault, JobTextNamesItsFiles, CommandHasNoFault, WordsAreOneCommand, source_files}
use Rattle.flow_defs.specs.declared.image.Image.{Image}
use Rattle.flow_defs.specs.declared.job.Job.{Job}
use Rattle.flow_defs.specs.Jobs.{segments_needed, tasks}
use Rattle.flow_defs.specs.Lines.{lines}
use Rattle.stage_fns.specs.Functions.{Functions}
use Rattle.job_text.specs.Words.{IsRun, IsScript, IsGen, IsSelfRun, IsInspect, usage_fault}
use Rattle.job_text.specs.JobText.{IsJobText}
use Rattle.job_text.specs.JobFaults.{first_fault}
use Rattle.commands.specs.declared.run.TheConstants.{JOB_MAX}
use Rattle.job_plan.specs.declared.limits.TheConstants.{SOURCE_MAX}
use Rattle.command_parts.specs.declared.fault.Fault.{Fault}
use Rattle.command_parts.specs.declared.fault.Fault.TheVariants.{Usage, JobLine, ScriptLine, JobInput, ScriptInput, SourceInput, Keeper, Output, HoldsImage, HoldsNoImage, NotImage, LongJob, LongScript, LongLine, BigSource, BigImage, TooFewSegments, Link, OverCredit, Peer, Memory}
use Rattle.command_parts.specs.Causes.{status_of}
use Rattle.command_parts.specs.FaultTexts.{fault_line}
use Rattle.command_parts.specs.Front.{GotFront}
use Rattle.outside.specs.Keepers.{KeptImage, last_image}
use Rattle.command_parts.specs.Held.{HoldsLast, HoldsNone, TellsLast}
use Rattle.inspect_command.specs.Inspects.{Shows, IsImageKept, IsNoImageAt, HasNoneToShow}
use Rattle.inspect_command.proofs.InspectLemmas.{none_and_last, told_last, none_shown, is_shown}
use Rattle.job_plan.specs.Limits.{HasLongLine, IsOverLimit}
use Rattle.job_outcome.specs.Storing.{IsTooLarge}
use Rattle.command_parts.specs.Sources.{TellsSources, source_name, IsOfSource}
use Rattle.job_command.specs.RunFaults.{HasLargeImage}
use Rattle.commands.proofs.SegmentLemmas.{needs_same}
use Rattle.commands.proofs.TextJobs.{tells_same}
use Rattle.commands.specs.SelfRuns.{HasFunctions, LacksFunction, NamesSelfRun, self_text}
use Rattle.commands.proofs.SelfLemmas.{self_clear}
use Rattle.script_command.specs.declared.script.TheConstants.{SCRIPT_MAX}
use Rattle.script_command.specs.Scripts.{NamesScript, Replies, IsScriptWith, HasEnough, HasTooFew, HasBadLine, IsNoScript, PassesScriptLimit, TellsScript, printed_replies}
use Rattle.script_text.specs.declared.event.Script.{Script}
use Rattle.script_text.specs.Laws.{ScriptTextHasNoBadLine, ScriptTextIsOfOneScript}
use Rattle.commands.specs.Run.{NamesCommand, NamesRun, NamesJob, NamesGoodJob, NamesReadyJob, IsGoodText, Prints, IsFaultOf, HasToldOverCredit, IsHindered, IsNoJob, IsOverLimits, PassesLimit, TellsJob, TellsRun}
use Rattle.job_command.specs.Pools.{HasPool, HasSmallPool}
use Rattle.command_parts.specs.Sources.{AreWithinLimits}

module _ (words : List (List ℕ)) (functions : Functions) (contents : List ℕ → Option (List ℕ)) (held : Option (List KeptImage)) where
  -- ---- of the statuses

  -- which statuses there are
  pub known_status : (fault : Fault) → IsFaultOf words functions contents held fault → Contains (0 ∷ 2 ∷ 3 ∷ 4 ∷ 5 ∷ 7 ∷ 8 ∷ 10 ∷ 11 ∷ 12 ∷ 70 ∷ []) (status_of fault)
  known_status (Usage kind) is = (1, omega arith, refl)
  known_status (JobLine line kind) is = (2, omega arith, refl)
  known_status (ScriptLine line) is = (2, omega arith, refl)
  known_status JobInput is = (3, omega arith, refl)
  known_status ScriptInput is = (3, omega arith, refl)
  known_status (SourceInput a) is = (3, omega arith, refl)
  known_status Keeper is = (4, omega arith, refl)
  known_status (HoldsImage number) is = (6, omega arith, refl)
  known_status HoldsNoImage is = (6, omega arith, refl)
  known_status (NotImage number place) is = (6, omega arith, refl)
  known_status Link is = absurd is
  known_status Output is = (5, omega arith, refl)
  known_status LongJob is = (7, omega arith, refl)
  known_status LongScript is = (7, omega arith, refl)
  known_status (LongLine a) is = (7, omega arith, refl)
  known_status (BigSource a) is = (7, omega arith, refl)
  known_status BigImage is = (7, omega arith, refl)
  known_status (TooFewSegments have need) is = (7, omega arith, refl)
  known_status (OverCredit channel received announced) is = (8, omega arith, refl)
  known_status (Peer peer) is = (9, omega arith, refl)
  known_status Memory is = (10, omega arith, refl)

  pub no_link : (fault : Fault) → IsFaultOf words functions contents held fault → status_of fault ≡ 6 → ⊥
  no_link (Usage kind) is six = cc
  no_link (JobLine line kind) is six = cc
  no_link (ScriptLine line) is six = cc
  no_link JobInput is six = cc
  no_link ScriptInput is six = cc
  no_link (SourceInput a) is six = cc
  no_link Keeper is six = cc
  no_link (HoldsImage number) is six = cc
  no_link HoldsNoImage is six = cc
  no_link (NotImage number place) is six = cc
  no_link Link is six = is
  no_link Output is six = cc
  no_link LongJob is six = cc
  no_link LongScript is six = cc
  no_link (LongLine a) is six = cc
  no_link (BigSource a) is six = cc
  no_link BigImage is six = cc
  no_link (TooFewSegments have need) is six = cc
  no_link (OverCredit channel received announced) is six = cc
  no_link (Peer peer) is six = cc
  no_link Memory is six = cc

  -- with the status of data over the credit the line tells of one more than was announced
  pub told_over : (before after : Option (List ℕ)) (risen : Type 0) (fault : Fault) → status_of fault ≡ 11 → IsFaultOf words functions contents held fault →
      IfSome before (λ had. GotFront had (fault_line fault) after) → ((risen → ⊥) → IfSome before (λ had. after ≡ Some (had ++ fault_line fault))) →
      HasToldOverCredit before after risen
  told_over before after risen (Usage kind) eleven is front all = absurd (cc)
  told_over before after risen (JobLine line kind) eleven is front all = absurd (cc)
  told_over before after risen (ScriptLine line) eleven is front all = absurd (cc)
  told_over before after risen JobInput eleven is front all = absurd (cc)
  told_over before after risen ScriptInput eleven is front all = absurd (cc)
  told_over before after risen (SourceInput a) eleven is front all = absurd (cc)
  told_over before after risen Keeper eleven is front all = absurd (cc)
  told_over before after risen (HoldsImage number) eleven is front all = absurd (cc)
  told_over before after risen HoldsNoImage eleven is front all = absurd (cc)
  told_over before after risen (NotImage number place) eleven is front all = absurd (cc)
  told_over before after risen Link eleven is front all = absurd (cc)
  told_over before after risen Output eleven is front all = absurd (cc)
  told_over before after risen LongJob eleven is front all = absurd (cc)
  told_over before after risen LongScript eleven is front all = absurd (cc)
  told_over before after risen (LongLine a) eleven is front all = absurd (cc)
  told_over before after risen (BigSource a) eleven is front all = absurd (cc)
  told_over before after risen BigImage eleven is front all = absurd (cc)
  told_over before after risen (TooFewSegments have need) eleven is front all = absurd (cc)
  told_over before after risen (OverCredit channel received announced) eleven is front all = (channel, received, announced, is.1, front, all)
  told_over before after risen (Peer peer) eleven is front all = absurd (cc)
  told_over before after risen Memory eleven is front all = absurd (cc)

  pub not_zero : (fault : Fault) → status_of fault ≡ 0 → ⊥
  not_zero (Usage kind) zero_is = cc
  not_zero (JobLine line kind) zero_is = cc
  not_zero (ScriptLine line) zero_is = cc
  not_zero JobInput zero_is = cc
  not_zero ScriptInput zero_is = cc
  not_zero (SourceInput a) zero_is = cc
  not_zero Keeper zero_is = cc
  not_zero Output zero_is = cc
  not_zero (HoldsImage number) zero_is = cc
  not_zero HoldsNoImage zero_is = cc
  not_zero (NotImage number place) zero_is = cc
  not_zero LongJob zero_is = cc
  not_zero LongScript zero_is = cc
  not_zero (LongLine a) zero_is = cc
  not_zero (BigSource a) zero_is = cc
  not_zero BigImage zero_is = cc
  not_zero (TooFewSegments have need) zero_is = cc
  not_zero Link zero_is = cc
  not_zero (OverCredit channel received announced) zero_is = cc
  not_zero (Peer peer) zero_is = cc
  not_zero Memory zero_is = cc

  -- ---- of the words

  is_named : (P : RunOptions → List ℕ → Type 0) → NamesRun words contents P → NamesCommand words
  is_named P named = inl (named.job, named.options, named.is_run)

  pub names_command : (fault : Fault) → (status_of fault ≡ 2 → ⊥) → IsFaultOf words functions contents held fault → NamesCommand words
  names_command (Usage kind) other is = absurd (other refl)
  names_command (JobLine line kind) other (inl is) = inl (is.job, is.options, is.is_run)
  names_command (JobLine line kind) other (inr self) = inr (inr (inr (inl self.0)))
  names_command JobInput other is = inl (is.job, is.options, is.is_run)
  names_command (SourceInput a) other is = is_named _ is.1
  names_command Link other is = absurd is
  names_command (OverCredit channel received announced) other (inl run, over) = is_named _ run.1
  names_command (OverCredit channel received announced) other (inr self, over) = inr (inr (inr (inl self.0)))
  names_command (Peer peer) other (inl run) = is_named _ run.1
  names_command (Peer peer) other (inr self) = inr (inr (inr (inl self.0)))
  names_command Output other (inl run) = is_named _ run.1
  names_command Output other (inr (inl run)) = inr (inl (run.0, run.1))
  names_command Output other (inr (inr (inl gen))) = inr (inr (inl (gen.0, gen.1, gen.2)))
  names_command Output other (inr (inr (inr (inl self)))) = inr (inr (inr (inl (self.0, self.1, self.2))))
  names_command Output other (inr (inr (inr (inr inspects)))) = inr (inr (inr (inr inspects.0)))
  names_command Keeper other (inl run) = is_named _ run
  names_command Keeper other (inr inspect) = inr (inr (inr (inr inspect)))
  names_command (HoldsImage number) other is = is_named _ is.0
  names_command HoldsNoImage other is = inr (inr (inr (inr is.0)))
  names_command (NotImage number place) other is = inr (inr (inr (inr is.0)))
  names_command (ScriptLine line) other is = inr (inl (is.0, is.1))
  names_command ScriptInput other is = inr (inl (is.0, is.1))
  names_command LongScript other is = inr (inl (is.0, is.1))
  names_command (TooFewSegments have need) other (inl run) = inl (run.job, run.options, run.is_run)
  names_command (TooFewSegments have need) other (inr is) = inr (inl (is.0, is.1))
  names_command LongJob other is = inl (is.job, is.options, is.is_run)
  names_command (LongLine a) other is = is_named _ is.1
  names_command (BigSource a) other is = is_named _ is.1
  names_command BigImage other is = is_named _ is.1
  names_command Memory other is = is

  -- ---- of the text

  some_fault : (o : Option (List ℕ)) (fault : _) → IfSome o (λ text. (length text ≤ JOB_MAX) × (first_fault functions text ≡ Some fault)) → IfSome o (IsNoJob functions)
  some_fault None fault is = tt
  some_fault (Some text) fault is = (is.0, (fault, is.1))

  bad_script : (o : Option (List ℕ)) (line : ℕ) → IfSome o (HasBadLine line) → IfSome o IsNoScript
  bad_script None line is = tt
  bad_script (Some text) line is = (line, is)

  lacking : JobTextHasNoFault → (fault : _) → first_fault functions self_text ≡ Some fault → HasFunctions functions → ⊥
  lacking law fault is has = let none = self_clear law functions has in cc

  pub no_job : JobTextHasNoFault → (fault : Fault) → status_of fault ≡ 3 → IsFaultOf words functions contents held fault → NamesJob words contents (IsNoJob functions) ⊎ NamesScript words contents IsNoScript ⊎ LacksFunction words functions
  no_job law (JobLine line kind) three (inl is) = inl (record { job = is.job; options = is.options; is_run = is.is_run; holds = some_fault (contents is.job) (line, kind) is.holds })
  no_job law (JobLine line kind) three (inr self) = inr (inr (self.0, lacking law (line, kind) self.1))
  no_job law (ScriptLine line) three is = inr (inl (is.0, is.1, bad_script (contents is.0) line is.2))
  no_job law (Usage kind) three is = absurd (cc)
  no_job law JobInput three is = absurd (cc)
  no_job law (SourceInput a) three is = absurd (cc)
  no_job law Keeper three is = absurd (cc)
  no_job law (HoldsImage number) three is = absurd (cc)
  no_job law HoldsNoImage three is = absurd (cc)
  no_job law (NotImage number place) three is = absurd (cc)
  no_job law Link three is = absurd (cc)
  no_job law (OverCredit channel received announced) three is = absurd (cc)
  no_job law (Peer peer) three is = absurd (cc)
  no_job law Output three is = absurd (cc)
  no_job law LongJob three is = absurd (cc)
  no_job law (LongLine a) three is = absurd (cc)
  no_job law (BigSource a) three is = absurd (cc)
  no_job law BigImage three is = absurd (cc)
  no_job law ScriptInput three is = absurd (cc)
  no_job law LongScript three is = absurd (cc)
  no_job law (TooFewSegments have need) three is = absurd (cc)
  no_job law Memory three is = absurd (cc)

  -- ---- of the limits

  long_job : (options : RunOptions) (o : Option (List ℕ)) → IfSome o (λ text. JOB_MAX < length text) → IfSome o (IsOverLimits functions contents options)
  long_job options None is = tt
  long_job options (Some text) is = inl is

  over : (o : Option (List ℕ)) (P : List ℕ → Type 0) → ((bytes : List ℕ) → P bytes → IsOverLimit bytes) → IfSome o P → IfSome o IsOverLimit
  over None P leads is = tt
  over (Some bytes) P leads is = leads bytes is

  over_source : (options : RunOptions) (o : Option (List ℕ)) (a : ℕ) (P : List ℕ → Type 0) → ((bytes : List ℕ) → P bytes → IsOverLimit bytes)
      → IfSome o (λ text. IsGoodText functions (λ job. HasPool options job × IsOfSource job contents a P) text)
      → IfSome o (IsOverLimits functions contents options)
  over_source options None a P leads is = tt
  over_source options (Some text) a P leads is =
      inr (is.2.0, is.2.1, inr (inl (a, (is.2.2.1.0, over (contents (source_name is.2.0 a)) P leads is.2.2.1.1))))

  large_image : StartExists → LargeImageIsOfHeavyEdge → (options : RunOptions) (o : Option (List ℕ))
      → IfSome o (λ text. IsGoodText functions (λ job. HasPool options job × ((after : Option (List KeptImage)) × HasLargeImage job options.every contents held after)) text)
      → IfSome o (IsOverLimits functions contents options)
  large_image starts loads options None is = tt
  large_image starts loads options (Some text) is =
      let job = is.2.0 in
      let after = is.2.2.1.0 in
      let large = is.2.2.1.1 in
      inr (job, is.2.1, inr (inr (held, after, large, λ bytes tells. heavy_of_large starts loads job (λ a. lines (bytes a)) options.every held after is.2.1.is_job (large bytes tells))))

  small_pool : (options : RunOptions) (o : Option (List ℕ)) (have need : ℕ)
      → IfSome o (λ text. IsGoodText functions (λ job. HasSmallPool options job have need) text)
      → IfSome o (IsOverLimits functions contents options)
  small_pool options None have need is = tt
  small_pool options (Some text) have need is = let pool = is.2.2 in inr (is.2.0, is.2.1, inl (omega (arith, pool.have_is, pool.need_is, pool.few)))

  too_long : (o : Option (List ℕ)) → IfSome o (λ text. SCRIPT_MAX < length text) → IfSome o PassesScriptLimit
  too_long None is = tt
  too_long (Some text) is = inl is

  pub too_few : (o : Option (List ℕ)) (have need : ℕ) → IfSome o (IsScriptWith (λ script. HasTooFew script have need)) → IfSome o PassesScriptLimit
  too_few None have need is = tt
  too_few (Some text) have need is = let pool = is.1.2 in inr (is.0, (is.1.0, is.1.1, omega (arith, pool.have_is, pool.need_is, pool.few)))

  pub passes_limit : StartExists → LargeImageIsOfHeavyEdge → (fault : Fault) → status_of fault ≡ 10 → IsFaultOf words functions contents held fault → PassesLimit words functions contents ⊎ NamesScript words contents PassesScriptLimit
  passes_limit starts loads LongJob ten is = inl (record { job = is.job; options = is.options; is_run = is.is_run; holds = long_job is.options (contents is.job) is.holds })
  passes_limit starts loads (LongLine a) ten is = inl (record { job = is.1.job; options = is.1.options; is_run = is.1.is_run; holds = over_source is.1.options (contents is.1.job) a (λ bytes. HasLongLine (lines bytes)) (λ bytes long. inr long) is.1.holds })
  passes_limit starts loads (BigSource a) ten is = inl (record { job = is.1.job; options = is.1.options; is_run = is.1.is_run; holds = over_source is.1.options (contents is.1.job) a (λ bytes. SOURCE_MAX < length bytes) (λ bytes big. inl big) is.1.holds })
  passes_limit starts loads BigImage ten is = inl (record { job = is.1.job; options = is.1.options; is_run = is.1.is_run; holds = large_image starts loads is.1.options (contents is.1.job) is.1.holds })
  passes_limit starts loads (TooFewSegments have need) ten (inl is) = inl (record { job = is.job; options = is.options; is_run = is.is_run; holds = small_pool is.options (contents is.job) have need is.holds })
  passes_limit starts loads (TooFewSegments have need) ten (inr is) = inr (is.0, is.1, too_few (contents is.0) have need is.2)
  passes_limit starts loads (Usage kind) ten is = absurd (cc)
  passes_limit starts loads (JobLine line kind) ten is = absurd (cc)
  passes_limit starts loads JobInput ten is = absurd (cc)
  passes_limit starts loads (SourceInput a) ten is = absurd (cc)
  passes_limit starts loads Keeper ten is = absurd (cc)
  passes_limit starts loads (HoldsImage number) ten is = absurd (cc)
  passes_limit starts loads HoldsNoImage ten is = absurd (cc)
  passes_limit starts loads (NotImage number place) ten is = absurd (cc)
  passes_limit starts loads Link ten is = absurd (cc)
  passes_limit starts loads (OverCredit channel received announced) ten is = absurd (cc)
  passes_limit starts loads (Peer peer) ten is = absurd (cc)
  passes_limit starts loads Output ten is = absurd (cc)
  passes_limit starts loads Memory ten is = absurd (cc)
  passes_limit starts loads LongScript ten is = inr (is.0, is.1, too_long (contents is.0) is.2)
  passes_limit starts loads (ScriptLine line) ten is = absurd (cc)
  passes_limit starts loads ScriptInput ten is = absurd (cc)

  -- ---- of the keeper

  none_to_show : (o : Option (List KeptImage)) (number place : ℕ) → HoldsLast o (λ kept. (kept.number ≡ number) × IsNoImageAt place kept) → IfSome o HasNoneToShow
  none_to_show None number place is = tt
  none_to_show (Some images) number place is = inr (is.0, place, is.1, is.2.1)

  no_image : (o : Option (List KeptImage)) → HoldsNone o → IfSome o HasNoneToShow
  no_image None is = tt
  no_image (Some images) is = inl is

  an_image : (o : Option (List KeptImage)) (number : ℕ) → HoldsLast o (λ kept. kept.number ≡ number) → HoldsLast o (λ kept. ⊤)
  an_image None number is = tt
  an_image (Some images) number is = (is.0, is.1, tt)

  pub hindered : (fault : Fault) → status_of fault ≡ 8 → IsFaultOf words functions contents held fault → IsHindered words functions contents held
  hindered (HoldsImage number) eight is = inl (is.0, an_image held number is.1)
  hindered HoldsNoImage eight is = inr (is.0, no_image held is.1)
  hindered (NotImage number place) eight is = inr (is.0, none_to_show held number place is.1)
  hindered (Usage kind) eight is = absurd (cc)
  hindered (JobLine line kind) eight is = absurd (cc)
  hindered (ScriptLine line) eight is = absurd (cc)
  hindered JobInput eight is = absurd (cc)
  hindered ScriptInput eight is = absurd (cc)
  hindered (SourceInput a) eight is = absurd (cc)
  hindered Keeper eight is = absurd (cc)
  hindered Link eight is = absurd (cc)
  hindered Output eight is = absurd (cc)
  hindered LongJob eight is = absurd (cc)
  hindered LongScript eight is = absurd (cc)
  hindered (LongLine a) eight is = absurd (cc)
  hindered (BigSource a) eight is = absurd (cc)
  hindered BigImage eight is = absurd (cc)
  hindered (TooFewSegments have need) eight is = absurd (cc)
  hindered (OverCredit channel received announced) eight is = absurd (cc)
  hindered (Peer peer) eight is = absurd (cc)
  hindered Memory eight is = absurd (cc)
