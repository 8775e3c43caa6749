-- The files that a text names are those of its first lines.
use Rattle.std.proofs.Common.{◌≡◌, ℕ, List, [], ◌∷◌, ◌++◌, map, drop, get_or, refl, sym, ap, ◌∙◌, subst, arith, append_assoc}
use Rattle.flow_defs.specs.Items.{Items}
use Rattle.flow_defs.specs.declared.job.Job.{Job}
use Rattle.flow_defs.specs.declared.job.Stage.{Stage}
use Rattle.flow_defs.specs.declared.job.AggKind.{AggKind}
use Rattle.flow_defs.proofs.Lists.{head_same, tail_same}
use Rattle.stage_fns.specs.Functions.{Functions}
use Rattle.job_text.specs.JobText.{IsJobText, source_line, stage_line, aggregate_line}
use Rattle.job_text.specs.Laws.{source_files}

abbrev pub file_of : Items ℕ → List ℕ
file_of file = file.items

abbrev pub line_for : Items ℕ → List ℕ
line_for file = source_line file.items

-- the first line is no source's
abbrev pub BeginsOtherwise : List (List ℕ) → Type 0
BeginsOtherwise [] = Unit
BeginsOtherwise (line ∷ lines) = (file : List ℕ) → line ≡ source_line file → ⊥

no_stage : (stage : Stage) (file : List ℕ) → stage_line stage ≡ source_line file → ⊥
no_stage stage file same = let second : 116 ≡ 111 = ap (λ l. get_or l 1 0) same in omega (arith, second)

no_aggregate : (kind : AggKind) (n : ℕ) (file : List ℕ) → aggregate_line kind n ≡ source_line file → ⊥
no_aggregate kind n file same = let first : 97 ≡ 115 = ap (λ l. get_or l 0 0) same in omega (arith, first)

pub rest_begins : (stages : List Stage) (kind : AggKind) (n : ℕ) → BeginsOtherwise (map stage_line stages ++ aggregate_line kind n ∷ [])
rest_begins [] kind n = no_aggregate kind n
rest_begins (stage ∷ stages) kind n = no_stage stage

same_file : (a b : List ℕ) → source_line a ≡ source_line b → a ≡ b
same_file a b same = ap (drop 7) same

pub same_files : (files others : List (Items ℕ)) (rest more : List (List ℕ)) → BeginsOtherwise rest → BeginsOtherwise more
    → map line_for files ++ rest ≡ map line_for others ++ more → map file_of files ≡ map file_of others
same_files [] [] rest more first second same = refl
same_files [] (o ∷ others) rest more first second same = absurd (subst BeginsOtherwise same first o.items refl)
same_files (f ∷ files) [] rest more first second same = absurd (subst BeginsOtherwise (sym same) second f.items refl)
same_files (f ∷ files) (o ∷ others) rest more first second same =
    let here : f.items ≡ o.items = same_file f.items o.items (head_same (line_for f) (line_for o) _ _ same) in
    ap (λ l. l ∷ map file_of files) here ∙ ap (λ l. o.items ∷ l) (same_files files others rest more first second (tail_same (line_for f) (line_for o) _ _ same))

pub names_its_files : (functions : Functions) (text : List ℕ) (job other : Job) → IsJobText functions text job → IsJobText functions text other → source_files job ≡ source_files other
names_its_files functions text job other is is_other =
    let end = aggregate_line job.agg job.agg_tasks ∷ [] in
    let other_end = aggregate_line other.agg other.agg_tasks ∷ [] in
    same_files job.sources.items other.sources.items (map stage_line job.stages.items ++ end) (map stage_line other.stages.items ++ other_end)
    (rest_begins job.stages.items job.agg job.agg_tasks) (rest_begins other.stages.items other.agg other.agg_tasks)
    (sym (append_assoc (map line_for job.sources.items) (map stage_line job.stages.items) end) ∙ sym is.lines_are ∙ is_other.lines_are
    ∙ append_assoc (map line_for other.sources.items) (map stage_line other.stages.items) other_end)
