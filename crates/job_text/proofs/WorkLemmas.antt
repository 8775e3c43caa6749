-- The work that a text says is that of its lines.
use Rattle.std.proofs.Common.{◌≡◌, ℕ, ◌≤◌, List, [], ◌∷◌, ◌++◌, map, get_or, drop, refl, sym, ap, ◌∙◌, arith, append_assoc}
use Rattle.std.specs.List.{AllByRecursion}
use Rattle.std.proofs.lemmas.List.{append_cancel_left}
use Rattle.flow_defs.specs.Stages.{IsArgument, pieces}
use Rattle.flow_defs.specs.declared.job.TheConstants.{TASKS_MAX}
use Rattle.flow_defs.specs.declared.job.Stage.{Stage}
use Rattle.flow_defs.specs.declared.job.StageKind.{StageKind}
use Rattle.flow_defs.specs.declared.job.StageKind.TheVariants.{Words, Upper, Keep, Field}
use Rattle.flow_defs.specs.declared.job.AggKind.{AggKind}
use Rattle.flow_defs.specs.declared.job.AggKind.TheVariants.{Count, Sum, Max}
use Rattle.flow_defs.proofs.Lists.{head_same, tail_same}
use Rattle.job_text.specs.JobText.{source_line, kind_word, agg_word, stage_line, aggregate_line}
use Rattle.job_text.specs.Laws.{JobTextSaysWork}
use Rattle.job_text.proofs.FileLemmas.{line_for, rest_begins, same_files}
use Rattle.job_text.proofs.TaskLemmas.{IsGood, stage_words, agg_words, good_job, good_agg, no_agg, lines_of_files}

-- kinds that are spelled alike are one, with one argument
same_kind : (k l : StageKind) (a b : List ℕ) → IsArgument k a → IsArgument l b → kind_word k a ≡ kind_word l b → (k ≡ l) × (a ≡ b)
same_kind Words Words a b first second same = (refl, first ∙ sym second)
same_kind Upper Upper a b first second same = (refl, first ∙ sym second)
same_kind Keep Keep a b first second same = (refl, ap (drop 5) same)
same_kind Field Field a b first second same = (refl, ap (drop 6) same)
same_kind Words Upper a b first second same = let letter : 119 ≡ 117 = ap (λ l. get_or l 0 0) same in absurd (omega (arith, letter))
same_kind Words Keep a b first second same = let letter : 119 ≡ 107 = ap (λ l. get_or l 0 0) same in absurd (omega (arith, letter))
same_kind Words Field a b first second same = let letter : 119 ≡ 102 = ap (λ l. get_or l 0 0) same in absurd (omega (arith, letter))
same_kind Upper Words a b first second same = let letter : 117 ≡ 119 = ap (λ l. get_or l 0 0) same in absurd (omega (arith, letter))
same_kind Upper Keep a b first second same = let letter : 117 ≡ 107 = ap (λ l. get_or l 0 0) same in absurd (omega (arith, letter))
same_kind Upper Field a b first second same = let letter : 117 ≡ 102 = ap (λ l. get_or l 0 0) same in absurd (omega (arith, letter))
same_kind Keep Words a b first second same = let letter : 107 ≡ 119 = ap (λ l. get_or l 0 0) same in absurd (omega (arith, letter))
same_kind Keep Upper a b first second same = let letter : 107 ≡ 117 = ap (λ l. get_or l 0 0) same in absurd (omega (arith, letter))
same_kind Keep Field a b first second same = let letter : 107 ≡ 102 = ap (λ l. get_or l 0 0) same in absurd (omega (arith, letter))
same_kind Field Words a b first second same = let letter : 102 ≡ 119 = ap (λ l. get_or l 0 0) same in absurd (omega (arith, letter))
same_kind Field Upper a b first second same = let letter : 102 ≡ 117 = ap (λ l. get_or l 0 0) same in absurd (omega (arith, letter))
same_kind Field Keep a b first second same = let letter : 102 ≡ 107 = ap (λ l. get_or l 0 0) same in absurd (omega (arith, letter))

same_agg_word : (k l : AggKind) → agg_word k ≡ agg_word l → k ≡ l
same_agg_word Count Count same = refl
same_agg_word Sum Sum same = refl
same_agg_word Max Max same = refl
same_agg_word Count Sum same = let letter : 99 ≡ 115 = ap (λ l. get_or l 0 0) same in absurd (omega (arith, letter))
same_agg_word Count Max same = let letter : 99 ≡ 109 = ap (λ l. get_or l 0 0) same in absurd (omega (arith, letter))
same_agg_word Sum Count same = let letter : 115 ≡ 99 = ap (λ l. get_or l 0 0) same in absurd (omega (arith, letter))
same_agg_word Sum Max same = let letter : 115 ≡ 109 = ap (λ l. get_or l 0 0) same in absurd (omega (arith, letter))
same_agg_word Max Count same = let letter : 109 ≡ 99 = ap (λ l. get_or l 0 0) same in absurd (omega (arith, letter))
same_agg_word Max Sum same = let letter : 109 ≡ 115 = ap (λ l. get_or l 0 0) same in absurd (omega (arith, letter))

same_stage : (s t : Stage) → IsGood s → IsGood t → stage_line s ≡ stage_line t → (s.kind ≡ t.kind) × (s.arg.items ≡ t.arg.items)
same_stage s t first second same =
    same_kind s.kind t.kind s.arg.items t.arg.items first.argument second.argument
    (ap (λ (ws : List (List ℕ)). get_or ws 1 []) (sym (stage_words s first) ∙ ap (pieces 32) same ∙ stage_words t second))

same_aggregate : (kind other : AggKind) (m n : ℕ) → (1 ≤ m) × (m ≤ TASKS_MAX) → (1 ≤ n) × (n ≤ TASKS_MAX) → aggregate_line kind m ≡ aggregate_line other n → kind ≡ other
same_aggregate kind other m n first second same =
    same_agg_word kind other (ap (λ (ws : List (List ℕ)). get_or ws 1 []) (sym (agg_words kind m first) ∙ ap (pieces 32) same ∙ agg_words other n second))

abbrev kinds_of : List Stage → List StageKind
kinds_of stages = map (λ (s : Stage). s.kind) stages

abbrev arguments_of : List Stage → List (List ℕ)
arguments_of stages = map (λ (s : Stage). s.arg.items) stages

-- stages and the aggregate behind them, with the same kinds and arguments
record DoTheSame (stages others : List Stage) (kind other : AggKind) : Type 0 where
  pub kinds : kinds_of stages ≡ kinds_of others
  pub arguments : arguments_of stages ≡ arguments_of others
  pub aggregate : kind ≡ other

one_more : (s t : Stage) (stages others : List Stage) (kind other : AggKind) → (s.kind ≡ t.kind) × (s.arg.items ≡ t.arg.items) → DoTheSame stages others kind other → DoTheSame (s ∷ stages) (t ∷ others) kind other
one_more s t stages others kind other here rest = record {
  kinds = ap (λ k. k ∷ kinds_of stages) here.0 ∙ ap (λ ks. t.kind ∷ ks) rest.kinds;
  arguments = ap (λ a. a ∷ arguments_of stages) here.1 ∙ ap (λ l. t.arg.items ∷ l) rest.arguments;
  aggregate = rest.aggregate;
}

same_stages : (stages others : List Stage) (kind other : AggKind) (m n : ℕ) → AllByRecursion IsGood stages → AllByRecursion IsGood others → (1 ≤ m) × (m ≤ TASKS_MAX) → (1 ≤ n) × (n ≤ TASKS_MAX)
    → map stage_line stages ++ aggregate_line kind m ∷ [] ≡ map stage_line others ++ aggregate_line other n ∷ [] → DoTheSame stages others kind other
same_stages [] [] kind other m n good better low high same =
    record { kinds = refl; arguments = refl; aggregate = same_aggregate kind other m n low high (head_same (aggregate_line kind m) (aggregate_line other n) [] [] same) }
same_stages [] (t ∷ others) kind other m n good better low high same = absurd (no_agg t kind m (sym (head_same (aggregate_line kind m) (stage_line t) _ _ same)))
same_stages (s ∷ stages) [] kind other m n good better low high same = absurd (no_agg s other n (head_same (stage_line s) (aggregate_line other n) _ _ same))
same_stages (s ∷ stages) (t ∷ others) kind other m n good better low high same =
    one_more s t stages others kind other (same_stage s t good.0 better.0 (head_same (stage_line s) (stage_line t) _ _ same))
    (same_stages stages others kind other m n good.1 better.1 low high (tail_same (stage_line s) (stage_line t) _ _ same))

pub says_work : JobTextSaysWork
says_work functions text job other is is_other =
    let end = aggregate_line job.agg job.agg_tasks ∷ [] in
    let other_end = aggregate_line other.agg other.agg_tasks ∷ [] in
    let rest = map stage_line job.stages.items ++ end in
    let other_rest = map stage_line other.stages.items ++ other_end in
    let all : map line_for job.sources.items ++ rest ≡ map line_for other.sources.items ++ other_rest =
    sym (append_assoc (map line_for job.sources.items) (map stage_line job.stages.items) end) ∙ sym is.lines_are ∙ is_other.lines_are
    ∙ append_assoc (map line_for other.sources.items) (map stage_line other.stages.items) other_end in
    let files = same_files job.sources.items other.sources.items rest other_rest
    (rest_begins job.stages.items job.agg job.agg_tasks) (rest_begins other.stages.items other.agg other.agg_tasks) all in
    let fronts : map line_for job.sources.items ≡ map line_for other.sources.items = lines_of_files job.sources.items ∙ ap (map source_line) files ∙ sym (lines_of_files other.sources.items) in
    let behind : rest ≡ other_rest = append_cancel_left (map line_for job.sources.items) rest other_rest (all ∙ ap (λ l. l ++ other_rest) (sym fronts)) in
    let same = same_stages job.stages.items other.stages.items job.agg other.agg job.agg_tasks other.agg_tasks (good_job functions text job is) (good_job functions text other is_other) (good_agg functions text job is) (good_agg functions text other is_other) behind in
    record { kinds = same.kinds; arguments = same.arguments; aggregate = same.aggregate }
