-- All jobs of a text need the same segments: its lines say how many tasks each stage has, and how records come into it.
use Rattle.std.proofs.Common.{◌≡◌, ℕ, zero, suc, ◌+◌, ◌*◌, ◌<◌, ◌≤◌, true, List, [], ◌∷◌, ◌++◌, length, map, get_or, refl, sym, ap, ◌∙◌, subst, arith, append_assoc, lit<}
use Rattle.std.specs.Prelude.{codes, decimal, slice_get, All}
use Rattle.std.specs.Option.{option_map_or}
use Rattle.std.specs.List.{AllByRecursion}
use Rattle.std.specs.Str.{all_ascii_digits}
use Rattle.std.proofs.lemmas.Bool.{and_from, and_parts, not_from_false, ne_eqb, leb-true}
use Rattle.std.proofs.lemmas.List.{append_cancel_left}
use Rattle.std.proofs.lemmas.List.Elements.{All-head, All-tail}
use Rattle.std.proofs.lemmas.Option.{same_Some}
use Rattle.flow_defs.specs.Items.{Items}
use Rattle.flow_defs.specs.declared.job.Job.{Job}
use Rattle.flow_defs.specs.declared.job.Stage.{Stage}
use Rattle.flow_defs.specs.declared.job.StageKind.{StageKind}
use Rattle.flow_defs.specs.declared.job.StageKind.TheVariants.{Words, Upper, Keep, Field}
use Rattle.flow_defs.specs.declared.job.AggKind.{AggKind}
use Rattle.flow_defs.specs.declared.job.AggKind.TheVariants.{Count, Sum, Max}
use Rattle.flow_defs.specs.declared.job.Exchange.{Exchange}
use Rattle.flow_defs.specs.declared.job.Exchange.TheVariants.{Hash, Rebalance, Forward}
use Rattle.flow_defs.specs.declared.job.TheConstants.{TASKS_MAX}
use Rattle.flow_defs.specs.Jobs.{segments_needed, sum_below, edge_width, exchange, tasks, last_edge, width}
use Rattle.flow_defs.specs.Stages.{IsArgument, pieces}
use Rattle.flow_defs.proofs.Lists.{head_same, tail_same}
use Rattle.stage_fns.specs.Functions.{Functions}
use Rattle.job_text.specs.JobText.{IsJobText, kind_word, exchange_word, agg_word, source_line, stage_line, aggregate_line}
use Rattle.job_text.specs.JobFaults.{number_of, exchange_of}
use Rattle.job_text.specs.Laws.{source_files}
use Rattle.job_text.proofs.AcceptLemmas.{has_no_space, words_of_line}
use Rattle.job_text.proofs.FileLemmas.{names_its_files}
use Rattle.job_text.proofs.Numbers.{decimal_spelled}
use Rattle.job_text.proofs.SpellingLemmas.{decimal_number, exchange_spelled}

-- ---- words without spaces

visible_no_space : (word : List ℕ) → All (λ b. (33 ≤ b) × (b ≤ 126)) word → has_no_space word ≡ true
visible_no_space [] is = refl
visible_no_space (b ∷ word) is =
    let here = All-head (λ c. (33 ≤ c) × (c ≤ 126)) b word is in
    and_from _ _ (not_from_false _ (ne_eqb b 32 (λ space. let low = here.0 in omega (arith, low, space)))) (visible_no_space word (All-tail (λ c. (33 ≤ c) × (c ≤ 126)) b word is))

digits_no_space : (word : List ℕ) → all_ascii_digits word ≡ true → has_no_space word ≡ true
digits_no_space [] is = refl
digits_no_space (b ∷ word) is =
    let parts = and_parts _ _ is in
    let here = and_parts _ _ parts.0 in
    and_from _ _ (not_from_false _ (ne_eqb b 32 (λ space. let low = leb-true 48 b here.0 in omega (arith, low, space)))) (digits_no_space word parts.1)

decimal_no_space : (n : ℕ) → 1 ≤ n → n ≤ 9999 → has_no_space (decimal n) ≡ true
decimal_no_space n low high = let is = decimal_spelled 9999 n (lit< tt) low high in digits_no_space (decimal n) is.digits

kind_no_space : (kind : StageKind) (arg : List ℕ) → IsArgument kind arg → has_no_space (kind_word kind arg) ≡ true
kind_no_space Words arg is = refl
kind_no_space Upper arg is = refl
kind_no_space Keep arg is = visible_no_space arg is.visible
kind_no_space Field arg is = ap has_no_space is.1 ∙ decimal_no_space is.0 is.2 is.3

exchange_no_space : (exchange : Exchange) → has_no_space (exchange_word exchange) ≡ true
exchange_no_space Hash = refl
exchange_no_space Rebalance = refl
exchange_no_space Forward = refl

agg_no_space : (kind : AggKind) → has_no_space (agg_word kind) ≡ true
agg_no_space Count = refl
agg_no_space Sum = refl
agg_no_space Max = refl

-- ---- what lines say

abbrev HasTasks : ℕ → Type 0
HasTasks n = (1 ≤ n) × (n ≤ TASKS_MAX)

-- the word at a place of a line
abbrev word_at : List ℕ → ℕ → List ℕ
word_at line n = get_or (pieces 32 line) n []

stage_words : (s : Stage) → IsArgument s.kind s.arg.items → HasTasks s.tasks → pieces 32 (stage_line s) ≡ codes "stage" ∷ kind_word s.kind s.arg.items ∷ decimal s.tasks ∷ exchange_word s.exchange ∷ []
stage_words s argument many =
    words_of_line (codes "stage") (kind_word s.kind s.arg.items ∷ decimal s.tasks ∷ exchange_word s.exchange ∷ []) refl
    (kind_no_space s.kind s.arg.items argument, (decimal_no_space s.tasks many.0 (let high = many.1 in omega (arith, high)), (exchange_no_space s.exchange, tt)))

aggregate_words : (kind : AggKind) (n : ℕ) → HasTasks n → pieces 32 (aggregate_line kind n) ≡ codes "aggregate" ∷ agg_word kind ∷ decimal n ∷ []
aggregate_words kind n many =
    words_of_line (codes "aggregate") (agg_word kind ∷ decimal n ∷ []) refl (agg_no_space kind, (decimal_no_space n many.0 (let high = many.1 in omega (arith, high)), tt))

same_number : (m n : ℕ) → HasTasks m → HasTasks n → decimal m ≡ decimal n → m ≡ n
same_number m n first second same =
    same_Some m n (sym (decimal_number TASKS_MAX m (lit< tt) first.0 first.1) ∙ ap (number_of TASKS_MAX) same ∙ decimal_number TASKS_MAX n (lit< tt) second.0 second.1)

same_exchange : (a b : Exchange) → exchange_word a ≡ exchange_word b → a ≡ b
same_exchange a b same = same_Some a b (sym (exchange_spelled a) ∙ ap exchange_of same ∙ exchange_spelled b)

same_stage_tasks : (s t : Stage) → IsArgument s.kind s.arg.items → HasTasks s.tasks → IsArgument t.kind t.arg.items → HasTasks t.tasks → stage_line s ≡ stage_line t → s.tasks ≡ t.tasks
same_stage_tasks s t s_arg s_many t_arg t_many same =
    same_number s.tasks t.tasks s_many t_many
    (sym (ap (λ (ws : List (List ℕ)). get_or ws 2 []) (stage_words s s_arg s_many)) ∙ ap (λ l. word_at l 2) same ∙ ap (λ (ws : List (List ℕ)). get_or ws 2 []) (stage_words t t_arg t_many))

same_stage_exchange : (s t : Stage) → IsArgument s.kind s.arg.items → HasTasks s.tasks → IsArgument t.kind t.arg.items → HasTasks t.tasks → stage_line s ≡ stage_line t → s.exchange ≡ t.exchange
same_stage_exchange s t s_arg s_many t_arg t_many same =
    same_exchange s.exchange t.exchange
    (sym (ap (λ (ws : List (List ℕ)). get_or ws 3 []) (stage_words s s_arg s_many)) ∙ ap (λ l. word_at l 3) same ∙ ap (λ (ws : List (List ℕ)). get_or ws 3 []) (stage_words t t_arg t_many))

same_aggregate_tasks : (a b : AggKind) (m n : ℕ) → HasTasks m → HasTasks n → aggregate_line a m ≡ aggregate_line b n → m ≡ n
same_aggregate_tasks a b m n first second same =
    same_number m n first second
    (sym (ap (λ (ws : List (List ℕ)). get_or ws 2 []) (aggregate_words a m first)) ∙ ap (λ l. word_at l 2) same ∙ ap (λ (ws : List (List ℕ)). get_or ws 2 []) (aggregate_words b n second))

no_stage : (s : Stage) (kind : AggKind) (n : ℕ) → stage_line s ≡ aggregate_line kind n → ⊥
no_stage s kind n same = let first : 115 ≡ 97 = ap (λ l. get_or l 0 0) same in omega (arith, first)

-- ---- what a list of lines says

abbrev AreArguments : List Stage → Type 0
AreArguments stages = AllByRecursion (λ (s : Stage). IsArgument s.kind s.arg.items) stages

abbrev HaveTasks : List Stage → Type 0
HaveTasks stages = AllByRecursion (λ (s : Stage). HasTasks s.tasks) stages

abbrev tasks_in : List Stage → ℕ → ℕ → ℕ
tasks_in stages last i = option_map_or (λ (s : Stage). s.tasks) (slice_get stages i) last

abbrev exchange_in : List Stage → ℕ → Exchange
exchange_in stages i = option_map_or (λ (s : Stage). s.exchange) (slice_get stages i) Hash

-- two lists of stages, each with the tasks of an aggregate, that say the same
record SaySame (xs ys : List Stage) (m n : ℕ) : Type 0 where
  many : length xs ≡ length ys
  tasks_too : (i : ℕ) → tasks_in xs m i ≡ tasks_in ys n i
  exchanges_too : (i : ℕ) → exchange_in xs i ≡ exchange_in ys i

say_same : (xs ys : List Stage) (a b : AggKind) (m n : ℕ) → AreArguments xs → HaveTasks xs → HasTasks m → AreArguments ys → HaveTasks ys → HasTasks n
    → map stage_line xs ++ aggregate_line a m ∷ [] ≡ map stage_line ys ++ aggregate_line b n ∷ [] → SaySame xs ys m n
say_same [] [] a b m n xa xt first ya yt second same =
    let here = same_aggregate_tasks a b m n first second (head_same (aggregate_line a m) (aggregate_line b n) [] [] same) in
    record { many = refl; tasks_too = λ i. here; exchanges_too = λ i. refl }
say_same [] (t ∷ ys) a b m n xa xt first ya yt second same = absurd (no_stage t a m (sym (head_same (aggregate_line a m) (stage_line t) [] (map stage_line ys ++ aggregate_line b n ∷ []) same)))
say_same (s ∷ xs) [] a b m n xa xt first ya yt second same = absurd (no_stage s b n (head_same (stage_line s) (aggregate_line b n) (map stage_line xs ++ aggregate_line a m ∷ []) [] same))
say_same (s ∷ xs) (t ∷ ys) a b m n xa xt first ya yt second same =
    let line : stage_line s ≡ stage_line t = head_same (stage_line s) (stage_line t) (map stage_line xs ++ aggregate_line a m ∷ []) (map stage_line ys ++ aggregate_line b n ∷ []) same in
    let rest : SaySame xs ys m n = say_same xs ys a b m n xa.1 xt.1 first ya.1 yt.1 second (tail_same (stage_line s) (stage_line t) (map stage_line xs ++ aggregate_line a m ∷ []) (map stage_line ys ++ aggregate_line b n ∷ []) same) in
    let many : s.tasks ≡ t.tasks = same_stage_tasks s t xa.0 xt.0 ya.0 yt.0 line in
    let by : s.exchange ≡ t.exchange = same_stage_exchange s t xa.0 xt.0 ya.0 yt.0 line in
    record { many = ap suc rest.many; tasks_too = tasks_here many rest; exchanges_too = exchanges_here by rest }
  where
    tasks_here : s.tasks ≡ t.tasks → SaySame xs ys m n → (i : ℕ) → tasks_in (s ∷ xs) m i ≡ tasks_in (t ∷ ys) n i
    tasks_here many rest zero = many
    tasks_here many rest (suc i) = rest.tasks_too i

    exchanges_here : s.exchange ≡ t.exchange → SaySame xs ys m n → (i : ℕ) → exchange_in (s ∷ xs) i ≡ exchange_in (t ∷ ys) i
    exchanges_here by rest zero = by
    exchanges_here by rest (suc i) = rest.exchanges_too i

-- ---- the segments

tasks_of_all : (stages : List Stage) (last : ℕ) → ((i : ℕ) → i < length stages → HasTasks (tasks_in stages last i)) → HaveTasks stages
tasks_of_all [] last each = tt
tasks_of_all (s ∷ stages) last each = (each 0 (omega arith), tasks_of_all stages last (λ i inside. each (suc i) (omega (arith, inside))))

past_last : (stages : List Stage) (last : ℕ) → tasks_in stages last (length stages) ≡ last
past_last [] last = refl
past_last (s ∷ stages) last = past_last stages last

sum_same : (n : ℕ) (f g : ℕ → ℕ) → ((e : ℕ) → f e ≡ g e) → sum_below n f ≡ sum_below n g
sum_same zero f g same = refl
sum_same (suc n) f g same = let here = same n in let before = sum_same n f g same in omega (arith, here, before)

map_map : (files : List (Items ℕ)) → map (λ (file : Items ℕ). source_line file.items) files ≡ map source_line (map (λ (file : Items ℕ). file.items) files)
map_map [] = refl
map_map (f ∷ files) = ap (λ l. source_line f.items ∷ l) (map_map files)

abbrev rest_lines : Job → List (List ℕ)
rest_lines job = map stage_line job.stages.items ++ aggregate_line job.agg job.agg_tasks ∷ []

abbrev first_lines : Job → List (List ℕ)
first_lines job = map (λ (file : Items ℕ). source_line file.items) job.sources.items

all_lines : (job : Job) → (first_lines job ++ map stage_line job.stages.items) ++ aggregate_line job.agg job.agg_tasks ∷ [] ≡ first_lines job ++ rest_lines job
all_lines job = append_assoc (first_lines job) (map stage_line job.stages.items) (aggregate_line job.agg job.agg_tasks ∷ [])

have_tasks : (functions : Functions) (text : List ℕ) (job : Job) → IsJobText functions text job → HaveTasks job.stages.items
have_tasks functions text job is = tasks_of_all job.stages.items job.agg_tasks (λ i inside. is.is_job.counts (suc i) (omega (arith, inside)))

last_tasks : (functions : Functions) (text : List ℕ) (job : Job) → IsJobText functions text job → HasTasks job.agg_tasks
last_tasks functions text job is = subst HasTasks (past_last job.stages.items job.agg_tasks) (is.is_job.counts (suc (length job.stages.items)) (omega arith))

pub needs_same : (functions : Functions) (text : List ℕ) (job other : Job) → IsJobText functions text job → IsJobText functions text other → segments_needed job ≡ segments_needed other
needs_same functions text job other is too =
    let files : source_files job ≡ source_files other = names_its_files functions text job other is too in
    let fronts : first_lines job ≡ first_lines other = map_map job.sources.items ∙ ap (map source_line) files ∙ sym (map_map other.sources.items) in
    let whole : first_lines job ++ rest_lines job ≡ first_lines other ++ rest_lines other = sym (all_lines job) ∙ sym is.lines_are ∙ too.lines_are ∙ all_lines other in
    let rests : rest_lines job ≡ rest_lines other = append_cancel_left (first_lines other) (rest_lines job) (rest_lines other) (ap (λ l. l ++ rest_lines job) (sym fronts) ∙ whole) in
    let say : SaySame job.stages.items other.stages.items job.agg_tasks other.agg_tasks =
    say_same job.stages.items other.stages.items job.agg other.agg job.agg_tasks other.agg_tasks is.is_job.arguments (have_tasks functions text job is) (last_tasks functions text job is)
    too.is_job.arguments (have_tasks functions text other too) (last_tasks functions text other too) rests in
    by_stages files say
  where
    same_tasks : source_files job ≡ source_files other → SaySame job.stages.items other.stages.items job.agg_tasks other.agg_tasks → (i : ℕ) → tasks job i ≡ tasks other i
    same_tasks files say zero = sym (many_files job.sources.items) ∙ ap length files ∙ many_files other.sources.items
      where
        many_files : (files : List (Items ℕ)) → length (map (λ (file : Items ℕ). file.items) files) ≡ length files
        many_files [] = refl
        many_files (f ∷ files) = ap suc (many_files files)
    same_tasks files say (suc i) = say.tasks_too i

    by_stages : source_files job ≡ source_files other → SaySame job.stages.items other.stages.items job.agg_tasks other.agg_tasks → segments_needed job ≡ segments_needed other
    by_stages files say =
        ap (λ (n : ℕ). sum_below (suc n) (λ e. 3 * edge_width job e + tasks job e)) say.many
        ∙ sum_same (suc (last_edge other)) (λ e. 3 * edge_width job e + tasks job e) (λ e. 3 * edge_width other e + tasks other e) each
      where
        wide : (e : ℕ) → edge_width job e ≡ edge_width other e
        wide e =
            ap (λ (x : Exchange). width x (tasks job e) (tasks job (suc e))) (say.exchanges_too e)
            ∙ ap (λ (m : ℕ). width (exchange other e) m (tasks job (suc e))) (same_tasks files say e)
            ∙ ap (λ (n : ℕ). width (exchange other e) (tasks other e) n) (same_tasks files say (suc e))

        each : (e : ℕ) → 3 * edge_width job e + tasks job e ≡ 3 * edge_width other e + tasks other e
        each e = ap (λ (w : ℕ). 3 * w + tasks job e) (wide e) ∙ ap (λ (m : ℕ). 3 * edge_width other e + m) (same_tasks files say e)
