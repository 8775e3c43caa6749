use Rattle.std.proofs.Common.{◌≡◌, ℕ, zero, suc, ◌≤◌, List, [], ◌∷◌, ◌++◌, length, refl, sym, ap, subst, ◌∙◌, arith}
use Rattle.std.specs.Prelude.{slice_get}
use Rattle.std.specs.Option.{option_map_or}
use Rattle.std.specs.Fmt.{digits}
use Rattle.std.specs.List.{AllByRecursion}
use Rattle.std.proofs.lemmas.List.Elements.{All-cons}
use Rattle.flow_defs.specs.declared.job.Job.{Job}
use Rattle.flow_defs.specs.declared.job.Stage.{Stage}
use Rattle.flow_defs.specs.declared.job.StageKind.{StageKind}
use Rattle.flow_defs.specs.declared.job.StageKind.TheVariants.{Keep, Field}
use Rattle.flow_defs.specs.Jobs.{IsJob, tasks}
use Rattle.flow_defs.specs.Stages.{IsToken, IsNumber, IsArgument}
use Rattle.job_tests.proofs.job_cells_tests.job_of.Goals as goal

-- The arguments `GET` and `2`.
get_is : IsToken (71 ∷ 69 ∷ 84 ∷ [])
get_is =
    let Seen : ℕ → Type 0 = λ b. (33 ≤ b) × (b ≤ 126) in
    record {
      not_empty = omega arith;
      not_long = omega arith;
      visible = All-cons Seen 71 (69 ∷ 84 ∷ []) (omega arith, omega arith) (All-cons Seen 69 (84 ∷ []) (omega arith, omega arith) (All-cons Seen 84 [] (omega arith, omega arith) (λ k d low. absurd (omega arith))));
    }

two_is : IsNumber 1 9999 (50 ∷ [])
unfolding digits
two_is = (2, refl, omega arith, omega arith)

argument_of : (kind kind' : StageKind) (arg arg' : List ℕ) → kind ≡ kind' → arg ≡ arg' → IsArgument kind' arg' → IsArgument kind arg
argument_of kind kind' arg arg' same equal is = subst (λ k. IsArgument k arg) (sym same) (subst (λ a. IsArgument kind' a) (sym equal) is)

-- Each stage of such a job has two tasks.
all_two : (job : Job) (x y : _) (s t : Stage) → job.sources.items ≡ x ∷ y ∷ [] → job.stages.items ≡ s ∷ t ∷ [] → s.tasks ≡ 2 → t.tasks ≡ 2 → job.agg_tasks ≡ 2 → (i : ℕ) → tasks job i ≡ 2
all_two job x y s t xs ss one two agg zero = ap length xs
all_two job x y s t xs ss one two agg (suc zero) = ap (λ l. option_map_or (λ (r : Stage). r.tasks) (slice_get l 0) job.agg_tasks) ss ∙ one
all_two job x y s t xs ss one two agg (suc (suc zero)) = ap (λ l. option_map_or (λ (r : Stage). r.tasks) (slice_get l 1) job.agg_tasks) ss ∙ two
all_two job x y s t xs ss one two agg (suc (suc (suc i))) = ap (λ l. option_map_or (λ (r : Stage). r.tasks) (slice_get l (suc (suc i))) job.agg_tasks) ss ∙ agg

small_job : (job : Job) (x y : _) (s t : Stage) → job.sources.items ≡ x ∷ y ∷ [] → job.stages.items ≡ s ∷ t ∷ [] → s.tasks ≡ 2 → t.tasks ≡ 2 → job.agg_tasks ≡ 2 →
    IsArgument s.kind s.arg.items → IsArgument t.kind t.arg.items → IsJob job
small_job job x y s t xs ss one two agg first second =
    let all = all_two job x y s t xs ss one two agg in
    record {
      stages = (let l = ap length ss in omega (arith, l));
      counts = λ i low. (let e = all i in omega (arith, e), let e = all i in omega (arith, e));
      arguments = subst (λ (l : List Stage). AllByRecursion (λ (r : Stage). IsArgument r.kind r.arg.items) l) (sym ss) (first, (second, tt));
      widths = λ e low forward. all e ∙ sym (all (suc e));
    }

pub returns : goal.returns
returns c =
    let keep = c.in_ok-keep.keep in let field = c.in_ok-field.field in
    let one = c.in_ok-keep.ensures in let two = c.in_ok-field.ensures in
    small_job (record { sources = c.push-2.new.self; stages = c.push-4.new.self; agg = Rattle.flow_defs.specs.declared.job.AggKind.AggKind.Count; agg_tasks = 2; text = c.new.result })
    c.in_ok-of.field-0 c.in_ok-of-2.field-0 keep field
    (c.in_ok-push-2.ensures.ok ∙ ap (λ l. l ++ c.in_ok-of-2.field-0 ∷ []) (c.in_ok-push.ensures.ok ∙ ap (λ l. l ++ c.in_ok-of.field-0 ∷ []) c.new-sources.ensures))
    (c.in_ok-push-4.ensures.ok ∙ ap (λ l. l ++ field ∷ []) (c.in_ok-push-3.ensures.ok ∙ ap (λ l. l ++ keep ∷ []) c.new-stages.ensures))
    one.tasks two.tasks refl
    (argument_of keep.kind Keep keep.arg.items (71 ∷ 69 ∷ 84 ∷ []) one.kind one.arg get_is)
    (argument_of field.kind Field field.arg.items (50 ∷ []) two.kind two.arg two_is)
