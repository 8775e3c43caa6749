-- The tasks and edges that a text says are those of its lines.
use Rattle.std.proofs.Common.{◌≡◌, ℕ, zero, suc, ◌<◌, ◌≤◌, List, [], ◌∷◌, ◌++◌, length, map, get_or, refl, sym, ap, ◌∙◌, subst, Option, arith, append_assoc, lit<}
use Rattle.std.specs.Prelude.{codes, decimal}
use Rattle.std.specs.Option.{option_map_or}
use Rattle.std.specs.List.{AllByRecursion}
use Rattle.flow_defs.specs.Items.{Items}
use Rattle.flow_defs.specs.Stages.{IsArgument, pieces}
use Rattle.flow_defs.specs.Jobs.{last_edge, tasks}
use Rattle.flow_defs.specs.declared.job.TheConstants.{TASKS_MAX}
use Rattle.flow_defs.specs.declared.job.Job.{Job}
use Rattle.flow_defs.specs.declared.job.Stage.{Stage}
use Rattle.flow_defs.specs.declared.job.AggKind.{AggKind}
use Rattle.flow_defs.specs.declared.job.Exchange.{Exchange}
use Rattle.flow_defs.proofs.Lists.{head_same, tail_same}
use Rattle.stage_fns.specs.Functions.{Functions}
use Rattle.job_text.specs.JobText.{IsJobText, source_line, kind_word, exchange_word, agg_word, stage_line, aggregate_line}
use Rattle.job_text.specs.JobFaults.{number_of, exchange_of}
use Rattle.job_text.specs.Laws.{JobTextSaysTasks}
use Rattle.job_text.proofs.Lists.{tasks_in, exchange_in}
use Rattle.job_text.proofs.SpellingLemmas.{decimal_number, exchange_spelled}
use Rattle.job_text.proofs.AcceptLemmas.{words_of_line, kind_no_space, decimal_no_space, exchange_no_space, agg_no_space}
use Rattle.job_text.proofs.FileLemmas.{file_of, line_for, rest_begins, same_files}
use Rattle.std.proofs.lemmas.List.{append_cancel_left}
use Rattle.std.proofs.lemmas.Option.{slice_get_past, same_Some}

-- numbers of tasks that are spelled alike are one
same_number : (m n : ℕ) → (1 ≤ m) × (m ≤ TASKS_MAX) → (1 ≤ n) × (n ≤ TASKS_MAX) → decimal m ≡ decimal n → m ≡ n
same_number m n first second same =
    same_Some m n (sym (decimal_number TASKS_MAX m (lit< tt) first.0 first.1) ∙ ap (number_of TASKS_MAX) same ∙ decimal_number TASKS_MAX n (lit< tt) second.0 second.1)

same_exchange : (x y : Exchange) → exchange_word x ≡ exchange_word y → x ≡ y
same_exchange x y same = same_Some x y (sym (exchange_spelled x) ∙ ap exchange_of same ∙ exchange_spelled y)

-- what is known of a stage of a job
pub record IsGood (s : Stage) : Type 0 where
  pub argument : IsArgument s.kind s.arg.items
  pub bounds : (1 ≤ s.tasks) × (s.tasks ≤ TASKS_MAX)

pub stage_words : (s : Stage) → IsGood s → pieces 32 (stage_line s) ≡ codes "stage" ∷ kind_word s.kind s.arg.items ∷ decimal s.tasks ∷ exchange_word s.exchange ∷ []
stage_words s good =
    words_of_line (codes "stage") (kind_word s.kind s.arg.items ∷ decimal s.tasks ∷ exchange_word s.exchange ∷ []) refl
    (kind_no_space s.kind s.arg.items good.argument, (decimal_no_space s.tasks good.bounds.0 (let high = good.bounds.1 in omega arith), (exchange_no_space s.exchange, tt)))

pub agg_words : (kind : AggKind) (n : ℕ) → (1 ≤ n) × (n ≤ TASKS_MAX) → pieces 32 (aggregate_line kind n) ≡ codes "aggregate" ∷ agg_word kind ∷ decimal n ∷ []
agg_words kind n bounds =
    words_of_line (codes "aggregate") (agg_word kind ∷ decimal n ∷ []) refl (agg_no_space kind, (decimal_no_space n bounds.0 (let high = bounds.1 in omega arith), tt))

same_tasks : (s t : Stage) → IsGood s → IsGood t → stage_line s ≡ stage_line t → s.tasks ≡ t.tasks
same_tasks s t first second same =
    same_number s.tasks t.tasks first.bounds second.bounds (ap (λ (ws : List (List ℕ)). get_or ws 2 []) (sym (stage_words s first) ∙ ap (pieces 32) same ∙ stage_words t second))

same_way : (s t : Stage) → IsGood s → IsGood t → stage_line s ≡ stage_line t → s.exchange ≡ t.exchange
same_way s t first second same =
    same_exchange s.exchange t.exchange (ap (λ (ws : List (List ℕ)). get_or ws 3 []) (sym (stage_words s first) ∙ ap (pieces 32) same ∙ stage_words t second))

same_agg : (kind other : AggKind) (m n : ℕ) → (1 ≤ m) × (m ≤ TASKS_MAX) → (1 ≤ n) × (n ≤ TASKS_MAX) → aggregate_line kind m ≡ aggregate_line other n → m ≡ n
same_agg kind other m n first second same =
    same_number m n first second (ap (λ (ws : List (List ℕ)). get_or ws 2 []) (sym (agg_words kind m first) ∙ ap (pieces 32) same ∙ agg_words other n second))

pub no_agg : (s : Stage) (kind : AggKind) (n : ℕ) → stage_line s ≡ aggregate_line kind n → ⊥
no_agg s kind n same = let first : 115 ≡ 97 = ap (λ l. get_or l 0 0) same in omega (arith, first)

-- stages and the aggregate behind them, with the same tasks and exchanges
pub record SameStages (stages others : List Stage) (m n : ℕ) : Type 0 where
  pub count : length stages ≡ length others
  pub widths : (i : ℕ) → tasks_in stages m i ≡ tasks_in others n i
  pub ways : (i : ℕ) → exchange_in stages i ≡ exchange_in others i

one_more : (s t : Stage) (stages others : List Stage) (m n : ℕ) → s.tasks ≡ t.tasks → s.exchange ≡ t.exchange → SameStages stages others m n → SameStages (s ∷ stages) (t ∷ others) m n
one_more s t stages others m n widths ways rest = record { count = ap suc rest.count; widths = each; ways = each_way }
  where
    each : (i : ℕ) → tasks_in (s ∷ stages) m i ≡ tasks_in (t ∷ others) n i
    each zero = widths
    each (suc i) = rest.widths i

    each_way : (i : ℕ) → exchange_in (s ∷ stages) i ≡ exchange_in (t ∷ others) i
    each_way zero = ways
    each_way (suc i) = rest.ways i

same_stages : (stages others : List Stage) (kind other : AggKind) (m n : ℕ) → AllByRecursion IsGood stages → AllByRecursion IsGood others → (1 ≤ m) × (m ≤ TASKS_MAX) → (1 ≤ n) × (n ≤ TASKS_MAX)
    → map stage_line stages ++ aggregate_line kind m ∷ [] ≡ map stage_line others ++ aggregate_line other n ∷ [] → SameStages stages others m n
same_stages [] [] kind other m n good better low high same =
    let agg : m ≡ n = same_agg kind other m n low high (head_same (aggregate_line kind m) (aggregate_line other n) [] [] same) in
    record { count = refl; widths = λ i. agg; ways = λ i. refl }
same_stages [] (t ∷ others) kind other m n good better low high same = absurd (no_agg t kind m (sym (head_same (aggregate_line kind m) (stage_line t) _ _ same)))
same_stages (s ∷ stages) [] kind other m n good better low high same = absurd (no_agg s other n (head_same (stage_line s) (aggregate_line other n) _ _ same))
same_stages (s ∷ stages) (t ∷ others) kind other m n good better low high same =
    let here = head_same (stage_line s) (stage_line t) _ _ same in
    one_more s t stages others m n (same_tasks s t good.0 better.0 here) (same_way s t good.0 better.0 here)
    (same_stages stages others kind other m n good.1 better.1 low high (tail_same (stage_line s) (stage_line t) _ _ same))

good_stages : (agg : ℕ) (stages : List Stage) → AllByRecursion (λ (s : Stage). IsArgument s.kind s.arg.items) stages → ((i : ℕ) → i < length stages → (1 ≤ tasks_in stages agg i) × (tasks_in stages agg i ≤ TASKS_MAX)) → AllByRecursion IsGood stages
good_stages agg [] arguments counts = tt
good_stages agg (s ∷ stages) arguments counts = (record { argument = arguments.0; bounds = counts 0 (omega arith) }, good_stages agg stages arguments.1 (λ i low. counts (suc i) (omega arith)))

pub good_job : (functions : Functions) (text : List ℕ) (job : Job) → IsJobText functions text job → AllByRecursion IsGood job.stages.items
good_job functions text job is = good_stages job.agg_tasks job.stages.items is.is_job.arguments (λ i low. is.is_job.counts (suc i) (omega arith))

pub good_agg : (functions : Functions) (text : List ℕ) (job : Job) → IsJobText functions text job → (1 ≤ job.agg_tasks) × (job.agg_tasks ≤ TASKS_MAX)
good_agg functions text job is =
    let past : tasks job (suc (last_edge job)) ≡ job.agg_tasks = ap (λ (o : Option Stage). option_map_or (λ (s : Stage). s.tasks) o job.agg_tasks) (slice_get_past job.stages.items (last_edge job) (omega arith)) in
    subst (λ n. (1 ≤ n) × (n ≤ TASKS_MAX)) past (is.is_job.counts (suc (last_edge job)) (omega arith))

length-map_files : (files : List (Items ℕ)) → length (map file_of files) ≡ length files
length-map_files [] = refl
length-map_files (f ∷ files) = ap suc (length-map_files files)

pub lines_of_files : (files : List (Items ℕ)) → map line_for files ≡ map source_line (map file_of files)
lines_of_files [] = refl
lines_of_files (f ∷ files) = ap (λ l. line_for f ∷ l) (lines_of_files files)

pub says_tasks : JobTextSaysTasks
says_tasks functions text job other is is_other =
    let end = aggregate_line job.agg job.agg_tasks ∷ [] in
    let other_end = aggregate_line other.agg other.agg_tasks ∷ [] in
    let rest = map stage_line job.stages.items ++ end in
    let other_rest = map stage_line other.stages.items ++ other_end in
    let all : map line_for job.sources.items ++ rest ≡ map line_for other.sources.items ++ other_rest =
    sym (append_assoc (map line_for job.sources.items) (map stage_line job.stages.items) end) ∙ sym is.lines_are ∙ is_other.lines_are
    ∙ append_assoc (map line_for other.sources.items) (map stage_line other.stages.items) other_end in
    let files = same_files job.sources.items other.sources.items rest other_rest
    (rest_begins job.stages.items job.agg job.agg_tasks) (rest_begins other.stages.items other.agg other.agg_tasks) all in
    let fronts : map line_for job.sources.items ≡ map line_for other.sources.items = lines_of_files job.sources.items ∙ ap (map source_line) files ∙ sym (lines_of_files other.sources.items) in
    let behind : rest ≡ other_rest = append_cancel_left (map line_for job.sources.items) rest other_rest (all ∙ ap (λ l. l ++ other_rest) (sym fronts)) in
    let stages = same_stages job.stages.items other.stages.items job.agg other.agg job.agg_tasks other.agg_tasks (good_job functions text job is) (good_job functions text other is_other) (good_agg functions text job is) (good_agg functions text other is_other) behind in
    let sources : length job.sources.items ≡ length other.sources.items = sym (length-map_files job.sources.items) ∙ ap length files ∙ length-map_files other.sources.items in
    record { edges = stages.count; widths = each sources stages; exchanges = stages.ways }
  where
    each : length job.sources.items ≡ length other.sources.items → SameStages job.stages.items other.stages.items job.agg_tasks other.agg_tasks → (i : ℕ) → tasks job i ≡ tasks other i
    each sources stages zero = sources
    each sources stages (suc i) = stages.widths i
