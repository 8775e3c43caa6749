-- The tasks and the channels of a job.
use Rattle.std.proofs.Common.{◌≡◌, ℕ, zero, suc, ◌<◌, ◌≤◌, ◌&&◌, true, leb, ltb, get_or, Some, refl, sym, ap, subst, ◌∙◌, arith, inl, inr}
use Rattle.std.specs.Prelude.{slice_get}
use Rattle.std.specs.Option.{option_map_or}
use Rattle.std.proofs.lemmas.Bool.{cases_lt, le-leb, lt-ltb}
use Rattle.std.proofs.lemmas.Option.{slice_get_past, slice_get_read}
use Rattle.flow_defs.specs.declared.job.Job.{Job}
use Rattle.flow_defs.specs.declared.job.Stage.{Stage}
use Rattle.flow_defs.specs.Limits.{tasks_max}
use Rattle.flow_defs.specs.Jobs.{IsJob, last_edge, tasks, exchange, joins, is_channel}

-- what the stage at a place says is what the job says of it
pub tasks_at : (job : Job) (stage i : ℕ) (s : Stage) → stage ≡ suc i → i < last_edge job → s ≡ get_or job.stages.items i s → s.tasks ≡ tasks job stage
tasks_at job stage i s is within here =
    ap (λ found. option_map_or (λ (s : Stage). s.tasks) found job.agg_tasks) (sym (slice_get_read job.stages.items (last_edge job) i s refl within here)) ∙ ap (tasks job) (sym is)

-- behind the last stage stands the aggregate
pub tasks_past : (job : Job) (stage i : ℕ) → stage ≡ suc i → last_edge job ≤ i → job.agg_tasks ≡ tasks job stage
tasks_past job stage i is past =
    ap (λ found. option_map_or (λ (s : Stage). s.tasks) found job.agg_tasks) (sym (slice_get_past job.stages.items i past)) ∙ ap (tasks job) (sym is)

pub few_tasks : (job : Job) (stage : ℕ) → IsJob job → tasks job stage ≤ tasks_max
few_tasks job zero is = (is.counts 0 (omega arith)).1
few_tasks job (suc i) is = elim (cases_lt i (suc (last_edge job))) [
  | inl within ↦ (is.counts (suc i) (omega (arith, within))).1
  | inr past ↦ subst (λ n. n ≤ tasks_max) (sym (tasks_past job (suc (last_edge job)) (last_edge job) refl (omega arith)) ∙ tasks_past job (suc i) i refl (omega (arith, past))) (is.counts (suc (last_edge job)) (omega arith)).1
]

-- between two tasks of an edge its exchange decides
pub joined_by : (job : Job) (e a b : ℕ) → e ≤ last_edge job → a < tasks job e → b < tasks job (suc e) → joins (exchange job e) a b ≡ is_channel job e a b
joined_by job e a b edge from to =
    sym (ap (λ t. t && ltb a (tasks job e) && ltb b (tasks job (suc e)) && joins (exchange job e) a b) (le-leb _ _ edge)
    ∙ ap (λ t. t && ltb b (tasks job (suc e)) && joins (exchange job e) a b) (lt-ltb _ _ from)
    ∙ ap (λ t. t && joins (exchange job e) a b) (lt-ltb _ _ to))
