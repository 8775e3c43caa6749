-- The job that `selfrun` runs, and what its run comes to.
use Rattle.std.proofs.Common.{◌≡◌, ℕ, zero, suc, ◌+◌, ◌*◌, ◌/◌, ◌%◌, ◌≤◌, List, [], ◌∷◌, length, Option, Some, None, refl, ap, subst, ◌∙◌, arith, lit≤}
use Rattle.std.specs.Fmt.{digits}
use Rattle.std.specs.Prelude.{codes, ◌^◌}
use Rattle.std.specs.FinMap.{entries}
use Rattle.std.proofs.lemmas.List.Elements.{All-cons, All-nil}
use Rattle.flow_defs.specs.declared.job.Job.{Job}
use Rattle.flow_defs.specs.declared.job.Exchange.TheVariants.{Rebalance, Forward}
use Rattle.flow_defs.specs.declared.job.StageKind.TheVariants.{Words}
use Rattle.flow_defs.specs.declared.job.AggKind.TheVariants.{Count}
use Rattle.flow_defs.specs.Jobs.{IsJob, exchange, segments_needed, tasks}
use Rattle.flow_defs.specs.Stages.{IsToken}
use Rattle.flow_defs.specs.Tables.{Values}
use Rattle.plain_machine.specs.Worth.{tally}
use Rattle.plain_machine.specs.Theorems.{StartExists}
use Rattle.plain_machine.specs.SizeTheorems.{FinishedChainIsCounted, TallyCountsRecords}
use Rattle.line_generator.specs.Theorems.{GeneratedAreCounted, EachHasTwoWords}
use Rattle.stage_fns.specs.Functions.{Functions}
use Rattle.outside.specs.Keepers.{KeptImage}
use Rattle.collecting_worker.specs.Accounts.{HasText}
use Rattle.job_text.specs.JobText.{IsJobText}
use Rattle.job_text.specs.JobFaults.{first_fault}
use Rattle.job_text.specs.KnownKinds.{every_kind}
use Rattle.job_text.specs.Laws.{JobTextHasNoFault, JobTextNamesItsFiles, JobTextSaysTasks, JobTextSaysWork, HaveSameWork}
use Rattle.job_outcome.specs.Storing.{EndsIn}
use Rattle.command_parts.specs.declared.fault.Fault.{Fault}
use Rattle.command_parts.specs.declared.fault.Fault.TheVariants.{JobLine, OverCredit, Peer, Memory}
use Rattle.commands.specs.declared.run.TheConstants.{JOB_MAX}
use Rattle.command_parts.specs.Causes.{status_of}
use Rattle.commands.specs.SelfRuns.{HasFunctions, HasRunOver, IsSelfFault, made_lines, of_self, self_text, counted_in, numbers_of, summary_of}
use Rattle.commands.proofs.SelfNumbers.{self_records, self_images}
use Rattle.job_command.specs.RunFaults.{IsRunFault}
use Rattle.command_parts.specs.Sources.{TellsSources}
use Rattle.commands.proofs.SegmentLemmas.{needs_same}
use Rattle.commands.proofs.TextJobs.{has_text, of_every_kind, tells_same}

-- a job of the text
abbrev self_job : Job
self_job = record {
  sources = record { items = record { items = codes "in"; room = 0 } ∷ []; room = 0 };
  stages = record { items = record { kind = Words; arg = record { items = []; room = 0 }; tasks = 2; exchange = Rebalance } ∷ []; room = 0 };
  agg = Count;
  agg_tasks = 2;
  text = record { items = self_text; room = 0 };
}

self_counts : (i : ℕ) → (1 ≤ tasks self_job i) × (tasks self_job i ≤ 8)
self_counts zero = (lit≤ tt, lit≤ tt)
self_counts (suc zero) = (lit≤ tt, lit≤ tt)
self_counts (suc (suc i)) = (lit≤ tt, lit≤ tt)

self_widths : (e : ℕ) → exchange self_job e ≡ Forward → ⊥
self_widths zero forward = cc
self_widths (suc e) forward = cc

self_is_job : IsJob self_job
self_is_job = record {
  stages = lit≤ tt;
  counts = λ i low. self_counts i;
  arguments = (refl, tt);
  widths = λ e low forward. absurd (self_widths e forward);
}

abbrev IsVisible : ℕ → Type 0
IsVisible b = (33 ≤ b) × (b ≤ 126)

in_is_token : IsToken (codes "in")
in_is_token = record {
  not_empty = lit≤ tt;
  not_long = lit≤ tt;
  visible = All-cons IsVisible 105 (110 ∷ []) (lit≤ tt, lit≤ tt) (All-cons IsVisible 110 [] (lit≤ tt, lit≤ tt) (All-nil IsVisible));
}

-- it is one of the text where its functions are there
pub self_is : (functions : Functions) → HasFunctions functions → IsJobText functions self_text self_job
unfolding self_text digits
self_is functions has = record {
  lines_are = refl;
  text_is = refl;
  is_job = self_is_job;
  names = (in_is_token, tt);
  stage_functions = (has.0, tt);
  agg_function = has.1;
}

pub self_clear : JobTextHasNoFault → (functions : Functions) → HasFunctions functions → first_fault functions self_text ≡ None
self_clear law functions has = law functions self_text self_job (self_is functions has)

-- ---- the job that was read

short : length self_text ≤ JOB_MAX
unfolding self_text
short = lit≤ tt

module _ (functions : Functions) (job : Job) (is : IsJobText functions self_text job) where
  of_every : IsJobText every_kind self_text job
  of_every = of_every_kind functions self_text job is

  pub self_has_text : HasText job
  self_has_text = has_text functions self_text job is short

  pub few_sources : length job.sources.items ≤ 8
  few_sources = (is.is_job.counts 0 (omega arith)).1

  -- the pool is large enough for it
  pub self_enough : segments_needed job ≤ 2048
  self_enough = let needs : segments_needed job ≡ 21 = needs_same every_kind self_text job self_job of_every (self_is every_kind (refl, refl)) in omega (arith, needs)

  -- its source is the file
  pub self_tells : JobTextNamesItsFiles → (contents : List ℕ → Option (List ℕ)) (bytes : List ℕ) → contents (codes "in") ≡ Some bytes → TellsSources job contents (λ a. bytes)
  self_tells names contents bytes told = tells_same self_job job contents (λ a. bytes) (names every_kind self_text job self_job of_every (self_is every_kind (refl, refl))) there
    where
      there : TellsSources self_job contents (λ a. bytes)
      there zero inside = told
      there (suc a) inside = absurd (omega (arith, inside))

-- what the run comes to
pub self_ran : StartExists → FinishedChainIsCounted → TallyCountsRecords → GeneratedAreCounted → EachHasTwoWords → JobTextSaysTasks → JobTextSaysWork → (functions : Functions) (job : Job) (is : IsJobText functions self_text job) (many seed : ℕ) (before after : List KeptImage) (table : Values) (text : List ℕ) →
    before ≡ [] → table ≡ tally job (made_lines many seed) → EndsIn job (made_lines many seed) (Some 100000) (Some before) (Some after) table → text ≡ summary_of many (counted_in table) (length (entries table)) (length after) →
    HasRunOver functions many seed (λ all. text ≡ all)
self_ran starts counts sums counted two says_tasks says_work functions job is many seed before after table text none table_is ends text_is = (
  record { job = job; is_job = is; kept = after; table = table; ends = told },
  text_is ∙ ap (λ n. summary_of many n (length (entries table)) (length after)) records ∙ ap (λ n. summary_of many (2 * many % 2 ^ 64) (length (entries table)) n) images
      ∙ ap (λ (t : Values). numbers_of many t) table_is,
)
  where
    told : EndsIn job (made_lines many seed) (Some 100000) (Some []) (Some after) table
    told = subst (λ (held : List KeptImage). EndsIn job (made_lines many seed) (Some 100000) (Some held) (Some after) table) none ends

    one : tasks job 0 ≡ 1
    one = (says_tasks every_kind self_text job self_job (of_every functions job is) (self_is every_kind (refl, refl))).widths 0

    work : HaveSameWork job self_job
    work = says_work every_kind self_text job self_job (of_every functions job is) (self_is every_kind (refl, refl))

    records : counted_in table ≡ 2 * many % 2 ^ 64
    records = ap counted_in table_is ∙ self_records job is.is_job one counted many seed sums two work.aggregate work.kinds

    images : length after ≡ 2 + many / 100000
    images = self_images job is.is_job one counted many seed starts counts after table told

-- ---- its faults

pub of_self_run : (functions : Functions) (job : Job) (interval : Option ℕ) (contents : List ℕ → Option (List ℕ)) (kept keeps : Option (List KeptImage)) (fault : Fault) → first_fault functions self_text ≡ None → IsRunFault job interval contents kept keeps fault → IsSelfFault functions (of_self fault)
of_self_run functions job interval contents kept keeps (OverCredit channel received announced) clear is = (clear, is)
of_self_run functions job interval contents kept keeps (Peer fault) clear is = clear
of_self_run functions job interval contents kept keeps fault clear is = tt

-- its status is none of an input, of a keeper or of an output
pub not_input : (functions : Functions) (fault : Fault) → IsSelfFault functions fault → status_of fault ≡ 4 → ⊥
not_input functions (JobLine line kind) is status = cc
not_input functions (OverCredit channel received announced) is status = cc
not_input functions (Peer fault) is status = cc
not_input functions Memory is status = cc
not_input functions fault is status = is

pub not_keeper : (functions : Functions) (fault : Fault) → IsSelfFault functions fault → status_of fault ≡ 5 → ⊥
not_keeper functions (JobLine line kind) is status = cc
not_keeper functions (OverCredit channel received announced) is status = cc
not_keeper functions (Peer fault) is status = cc
not_keeper functions Memory is status = cc
not_keeper functions fault is status = is

pub not_output : (functions : Functions) (fault : Fault) → IsSelfFault functions fault → status_of fault ≡ 7 → ⊥
not_output functions (JobLine line kind) is status = cc
not_output functions (OverCredit channel received announced) is status = cc
not_output functions (Peer fault) is status = cc
not_output functions Memory is status = cc
not_output functions fault is status = is
