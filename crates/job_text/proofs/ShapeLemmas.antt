-- The shape that a text says is that of its job, and it is read line by line.
use Rattle.std.proofs.Common.{◌≡◌, ℕ, zero, suc, ◌+◌, ◌<◌, ◌≤◌, false, List, [], ◌∷◌, ◌++◌, length, map, refl, sym, ap, ◌∙◌, subst, Bor, Option, None, arith, lit<, append_assoc, append-nil}
use Rattle.std.specs.Prelude.{codes, decimal, unwrap_or, slice_get}
use Rattle.std.specs.Option.{option_map_or}
use Rattle.std.specs.List.{AllByRecursion}
use Rattle.std.proofs.lemmas.List.{map-append, length_push, length-map, length-replicate}
use Rattle.flow_defs.specs.Items.{Items}
use Rattle.flow_defs.specs.Stages.{IsToken, IsArgument}
use Rattle.flow_defs.specs.Lines.{lines}
use Rattle.flow_defs.specs.Jobs.{tasks, IsJob}
use Rattle.flow_defs.specs.declared.job.TheConstants.{STAGES_MAX, SOURCES_MAX, TASKS_MAX}
use Rattle.flow_defs.specs.declared.job.Job.{Job}
use Rattle.flow_defs.specs.declared.job.Stage.{Stage}
use Rattle.flow_defs.specs.declared.job.AggKind.{AggKind}
use Rattle.flow_defs.specs.declared.job.Exchange.{Exchange}
use Rattle.flow_defs.specs.declared.job.Exchange.TheVariants.{Hash}
use Rattle.job_text.specs.declared.lines.JobLines.{JobLines}
use Rattle.job_text.specs.declared.lines.Line.TheVariants as line
use Rattle.job_text.specs.declared.shape.StageShape.{StageShape}
use Rattle.job_text.specs.KnownKinds.{every_kind}
use Rattle.job_text.specs.JobText.{head_lines, source_line, exchange_word, stage_line, aggregate_line}
use Rattle.job_text.specs.JobFaults.{Place, tasks_of, exchange_of, first_fault, fault_from}
use Rattle.job_text.specs.Reading.{lines_left, TakesLine}
use Rattle.job_text.specs.Laws.{HaveSameTasks, JobTextSaysShape}
use Rattle.job_text.specs.Shapes.{Shape, full, stage_shape, shape_of, with_words, shape_in, plain_stage, job_of, IsShapeOf}
use Rattle.job_text.proofs.SpellingLemmas.{decimal_number, exchange_spelled}
use Rattle.job_text.proofs.AcceptLemmas.{words_of_line, visible_no_space}
use Rattle.job_text.proofs.TaskLemmas.{IsGood, stage_words, agg_words, good_job, good_agg}
use Rattle.job_text.proofs.Drafts.{IsDraft}
use Rattle.job_text.proofs.DraftLemmas.{onto, takes_stage, job_read}

-- ---- what the lines of a job say

source_said : (file : List ℕ) (rest : List (List ℕ)) → IsToken file → shape_in (source_line file ∷ rest) ≡ record (shape_in rest) { sources = suc (shape_in rest).sources }
source_said file rest token = ap (λ words. with_words words (shape_in rest)) (words_of_line (codes "source") (file ∷ []) refl (visible_no_space file token.visible, tt))

tasks_said : (n : ℕ) → (1 ≤ n) × (n ≤ TASKS_MAX) → tasks_of (decimal n) ≡ n
tasks_said n bounds = ap (λ (o : Option ℕ). unwrap_or o 0) (decimal_number TASKS_MAX n (lit< tt) bounds.0 bounds.1)

exchange_said : (e : Exchange) → unwrap_or (exchange_of (exchange_word e)) Hash ≡ e
exchange_said e = ap (λ (o : Option Exchange). unwrap_or o Hash) (exchange_spelled e)

stage_said : (s : Stage) (rest : List (List ℕ)) → IsGood s → shape_in (stage_line s ∷ rest) ≡ record (shape_in rest) { stages = stage_shape s ∷ (shape_in rest).stages }
stage_said s rest good =
    ap (λ words. with_words words (shape_in rest)) (stage_words s good)
    ∙ ap (λ n. record (shape_in rest) { stages = record { tasks = n; exchange = unwrap_or (exchange_of (exchange_word s.exchange)) Hash } ∷ (shape_in rest).stages }) (tasks_said s.tasks good.bounds)
    ∙ ap (λ e. record (shape_in rest) { stages = record { tasks = s.tasks; exchange = e } ∷ (shape_in rest).stages }) (exchange_said s.exchange)

end_said : (kind : AggKind) (n : ℕ) → (1 ≤ n) × (n ≤ TASKS_MAX) → shape_in (aggregate_line kind n ∷ []) ≡ record { sources = 0; stages = []; aggregate = n }
end_said kind n bounds =
    ap (λ words. with_words words (shape_in [])) (agg_words kind n bounds) ∙ ap (λ k. let s : Shape = record { sources = 0; stages = []; aggregate = k } in s) (tasks_said n bounds)

stages_said : (stages : List Stage) (kind : AggKind) (n : ℕ) → AllByRecursion IsGood stages → (1 ≤ n) × (n ≤ TASKS_MAX) → shape_in (map stage_line stages ++ aggregate_line kind n ∷ []) ≡ record { sources = 0; stages = map stage_shape stages; aggregate = n }
stages_said [] kind n good bounds = end_said kind n bounds
stages_said (s ∷ stages) kind n good bounds =
    stage_said s (map stage_line stages ++ aggregate_line kind n ∷ []) good.0
    ∙ ap (λ (rest : Shape). record rest { stages = stage_shape s ∷ rest.stages }) (stages_said stages kind n good.1 bounds)

files_said : (files : List (Items ℕ)) (rest : List (List ℕ)) (stages : List StageShape) (n : ℕ) → AllByRecursion (λ (file : Items ℕ). IsToken file.items) files → shape_in rest ≡ record { sources = 0; stages = stages; aggregate = n }
    → shape_in (map (λ (file : Items ℕ). source_line file.items) files ++ rest) ≡ record { sources = length files; stages = stages; aggregate = n }
files_said [] rest stages n names is = is
files_said (f ∷ files) rest stages n names is =
    source_said f.items (map (λ (file : Items ℕ). source_line file.items) files ++ rest) names.0
    ∙ ap (λ (s : Shape). record s { sources = suc s.sources }) (files_said files rest stages n names.1 is)

pub says_shape : JobTextSaysShape
says_shape functions text job is =
    let front = map (λ (file : Items ℕ). source_line file.items) job.sources.items in
    let end = aggregate_line job.agg job.agg_tasks ∷ [] in
    ap shape_in (is.lines_are ∙ append_assoc front (map stage_line job.stages.items) end)
    ∙ files_said job.sources.items (map stage_line job.stages.items ++ end) (map stage_shape job.stages.items) job.agg_tasks is.names
    (stages_said job.stages.items job.agg job.agg_tasks (good_job functions text job is) (good_agg functions text job is))

-- ---- a shape as a job

pub tasks_mapped : (stages : List StageShape) (i n : ℕ) → option_map_or (λ (s : Stage). s.tasks) (slice_get (map plain_stage stages) i) n ≡ option_map_or (λ (s : StageShape). s.tasks) (slice_get stages i) n
tasks_mapped [] i n = refl
tasks_mapped (s ∷ stages) zero n = refl
tasks_mapped (s ∷ stages) (suc i) n = tasks_mapped stages i n

pub exchange_mapped : (stages : List StageShape) (i : ℕ) → option_map_or (λ (s : Stage). s.exchange) (slice_get (map plain_stage stages) i) Hash ≡ option_map_or (λ (s : StageShape). s.exchange) (slice_get stages i) Hash
exchange_mapped [] i = refl
exchange_mapped (s ∷ stages) zero = refl
exchange_mapped (s ∷ stages) (suc i) = exchange_mapped stages i

pub edges_mapped : (stages : List StageShape) → length (map plain_stage stages) ≡ length stages
edges_mapped stages = length-map stages plain_stage

-- ---- line by line

all_push : (P : Items ℕ → Type 0) (xs : List (Items ℕ)) (x : Items ℕ) → AllByRecursion P xs → P x → AllByRecursion P (xs ++ x ∷ [])
all_push P [] x all here = (here, tt)
all_push P (y ∷ xs) x all here = (all.0, all_push P xs x all.1 here)

-- a job under way, of which only the shape is kept
pub record IsTextUnderWay (text : List ℕ) (sources : ℕ) (stages : List StageShape) (reader : JobLines) : Type 0 where
  pub files : List (Items ℕ)
  pub made : List Stage
  pub draft : IsDraft every_kind text files made reader
  pub sources_are : sources ≡ length files
  pub stages_are : stages ≡ map stage_shape made

module _ (text : List ℕ) (old new : JobLines) where
  takes_source : (files : List (Items ℕ)) (made : List Stage) (file : Bor (List ℕ)) → IsDraft every_kind text files made old → TakesLine every_kind old new (line.Source file)
      → let item : Items ℕ = record { items = file.now; room = 0 } in IsDraft every_kind text (files ++ item ∷ []) made new
  takes_source files (s ∷ made) file draft takes = let count = draft.stage_count in let none = takes.is_line.no_stage in absurd (omega (arith, count, none))
  takes_source files [] file draft takes =
      let item : Items ℕ = record { items = file.now; room = 0 } in
      let spelled = λ (f : Items ℕ). source_line f.items in
      let is = takes.is_line in
      let place = takes.goes_on.0 in
      let few = is.few in
      let count = draft.source_count in
      let pushed = length_push files item in
      let now : new.sources ≡ suc old.sources = ap (λ (p : Place). p.sources) place in
      record {
        lines_are = onto takes.text (lines text) (head_lines files []) (lines_left old) (lines_left new) (source_line file.now) draft.lines_are takes.lines_are is.text_is
            ∙ ap (λ front. (front ++ source_line file.now ∷ []) ++ lines_left new) (append-nil (map spelled files))
            ∙ ap (λ front. front ++ lines_left new) (sym (map-append spelled files (item ∷ [])) ∙ sym (append-nil (map spelled (files ++ item ∷ []))));
        no_fault = sym takes.goes_on.1 ∙ draft.no_fault;
        source_count = omega (arith, now, count, pushed);
        stage_count = ap (λ (p : Place). p.stages) place ∙ draft.stage_count;
        tasks_are = ap (λ (p : Place). p.tasks) place ∙ omega (arith, count, pushed);
        few_sources = omega (arith, few, count, pushed);
        names = all_push (λ (f : Items ℕ). IsToken f.items) files item draft.names is.name;
        few_stages = draft.few_stages;
        stages_fit = tt;
      }

  module _ (sources : ℕ) (stages : List StageShape) (way : IsTextUnderWay text sources stages old) where
    pub next_source : (file : Bor (List ℕ)) → TakesLine every_kind old new (line.Source file) → IsTextUnderWay text (sources + 1) stages new × (sources < SOURCES_MAX)
    next_source file takes =
        let item : Items ℕ = record { items = file.now; room = 0 } in
        let pushed = length_push way.files item in
        let is = way.sources_are in
        let count = way.draft.source_count in
        let few = takes.is_line.few in (
          record {
            files = way.files ++ item ∷ [];
            made = way.made;
            draft = takes_source way.files way.made file way.draft takes;
            sources_are = omega (arith, is, pushed);
            stages_are = way.stages_are;
          },
          omega (arith, is, count, few),
        )

    pub next_stage : (kind : _) (arg : Bor (List ℕ)) (n : ℕ) (e : Exchange) → TakesLine every_kind old new (line.Stage kind arg n e) → IsTextUnderWay text sources (stages ++ record { tasks = n; exchange = e } ∷ []) new × (length stages < STAGES_MAX)
    next_stage kind arg n e takes =
        let item : Items ℕ = record { items = arg.now; room = 0 } in
        let s : Stage = record { kind = kind; arg = item; tasks = n; exchange = e } in
        let is = way.stages_are in
        let count = way.draft.stage_count in
        let mapped = length-map way.made stage_shape in
        let same = ap length is in
        let few = takes.is_line.few in (
          record {
            files = way.files;
            made = way.made ++ s ∷ [];
            draft = takes_stage every_kind text way.files old new way.made kind arg item n e way.draft takes refl;
            sources_are = way.sources_are;
            stages_are = ap (λ l. l ++ record { tasks = n; exchange = e } ∷ []) is ∙ sym (map-append stage_shape way.made (s ∷ []));
          },
          omega (arith, mapped, same, count, few),
        )

    pub last_line : (kind : AggKind) (n : ℕ) → TakesLine every_kind old new (line.Aggregate kind n) → IsShapeOf text (record { sources = sources; stages = stages; aggregate = n })
    last_line kind n takes =
        let job : Job = record { sources = record { items = way.files; room = 0 }; stages = record { items = way.made; room = 0 }; agg = kind; agg_tasks = n; text = record { items = text; room = 0 } } in
        record {
          job = job;
          job_text = job_read every_kind text job old new way.draft takes refl;
          shape_is = ap (λ k. let s : Shape = record { sources = k; stages = stages; aggregate = n } in s) way.sources_are ∙ ap (λ l. let s : Shape = record { sources = length way.files; stages = l; aggregate = n } in s) way.stages_are;
        }

pub none_under_way : (text : List ℕ) (reader : JobLines) → reader.rest.now ≡ text → reader.number ≡ 1 → reader.sources ≡ 0 → reader.stages ≡ 0 → reader.tasks ≡ 0 → first_fault every_kind text ≡ None → IsTextUnderWay text 0 [] reader
none_under_way text reader rest number sources stages before none =
    let at = λ (p : ℕ × ℕ × ℕ × ℕ × List ℕ). fault_from every_kind (record { sources = p.0; stages = p.1; tasks = p.2; ended = false }) p.3 (lines p.4) in
    let same : (reader.sources, reader.stages, reader.tasks, reader.number, reader.rest.now) ≡ (0, 0, 0, 1, text) = cc in
    record {
      files = [];
      made = [];
      draft = record {
        lines_are = ap lines (sym rest);
        no_fault = ap at same ∙ none;
        source_count = sources;
        stage_count = stages;
        tasks_are = before;
        few_sources = omega arith;
        names = tt;
        few_stages = omega arith;
        stages_fit = tt;
      };
      sources_are = refl;
      stages_are = refl;
    }

-- ---- a shape's job is one as the grammar allows it

shaped_tasks : (stages : List Stage) (i n : ℕ) → option_map_or (λ (s : Stage). s.tasks) (slice_get (map plain_stage (map stage_shape stages)) i) n ≡ option_map_or (λ (s : Stage). s.tasks) (slice_get stages i) n
shaped_tasks [] i n = refl
shaped_tasks (s ∷ stages) zero n = refl
shaped_tasks (s ∷ stages) (suc i) n = shaped_tasks stages i n

shaped_exchange : (stages : List Stage) (i : ℕ) → option_map_or (λ (s : Stage). s.exchange) (slice_get (map plain_stage (map stage_shape stages)) i) Hash ≡ option_map_or (λ (s : Stage). s.exchange) (slice_get stages i) Hash
shaped_exchange [] i = refl
shaped_exchange (s ∷ stages) zero = refl
shaped_exchange (s ∷ stages) (suc i) = shaped_exchange stages i

shaped_edges : (stages : List Stage) → length (map plain_stage (map stage_shape stages)) ≡ length stages
shaped_edges [] = refl
shaped_edges (s ∷ stages) = ap suc (shaped_edges stages)

shaped_arguments : (stages : List Stage) → AllByRecursion (λ (s : Stage). IsArgument s.kind s.arg.items) (map plain_stage (map stage_shape stages))
shaped_arguments [] = tt
shaped_arguments (s ∷ stages) = (refl, shaped_arguments stages)

pub same_shape : (job : Job) → HaveSameTasks job (job_of (shape_of job))
same_shape job = record { edges = sym (shaped_edges job.stages.items); widths = widths; exchanges = λ e. sym (shaped_exchange job.stages.items e) }
  where
    widths : (i : ℕ) → tasks job i ≡ tasks (job_of (shape_of job)) i
    widths zero = sym (length-replicate (length job.sources.items) (full []))
    widths (suc i) = sym (shaped_tasks job.stages.items i job.agg_tasks)

pub shaped_job : (job : Job) → IsJob job → IsJob (job_of (shape_of job))
shaped_job job is =
    let same = same_shape job in
    let edges = same.edges in
    record {
      stages = omega (arith, edges, is.stages);
      counts = λ i low. subst (λ n. (1 ≤ n) × (n ≤ TASKS_MAX)) (same.widths i) (is.counts i (omega (arith, low, edges)));
      arguments = shaped_arguments job.stages.items;
      widths = λ e low forward. sym (same.widths e) ∙ is.widths e (omega (arith, low, edges)) (same.exchanges e ∙ forward) ∙ same.widths (suc e);
    }

pub job_of_shape : (text : List ℕ) (shape : Shape) → IsShapeOf text shape → IsJob (job_of shape)
job_of_shape text shape is = subst (λ s. IsJob (job_of s)) (sym is.shape_is) (shaped_job is.job is.job_text.is_job)
