-- Jobs, their edges and channels. As in Flink a job is a graph of tasks that are joined by exchanges;
-- here it is a chain of stages, and its limits are this project's own. Stage 0 is the sources, of one
-- task each; stages 1 to S are the stateless ones, and stage S + 1 is the aggregate. Edge e leads from
-- stage e to stage e + 1.
-- A channel is one only where its edge is one of the job's.
use Rattle.std.specs.Prelude.{◌≡◌, ℕ, zero, suc, ◌+◌, ◌*◌, ◌≤◌, Bool, true, ◌&&◌, ◌==◌, nat_le, nat_lt, List, length, slice_get, if◌then◌else◌}
use Rattle.std.specs.Option.{option_map_or}
use Rattle.std.specs.List.{AllByRecursion}
use Rattle.flow_defs.specs.Limits.{stages_max, tasks_max}
use Rattle.flow_defs.specs.declared.job.Job.{Job}
use Rattle.flow_defs.specs.declared.job.Stage.{Stage}
use Rattle.flow_defs.specs.declared.job.Exchange.{Exchange}
use Rattle.flow_defs.specs.declared.job.Exchange.TheVariants.{Hash, Rebalance, Forward}
use Rattle.flow_defs.specs.Aggregates.{key_of}
use Rattle.flow_defs.specs.Stages.{IsArgument}

-- The last edge, which leads to the aggregate: the number of stateless stages.
abbrev pub last_edge : Job → ℕ
last_edge job = length job.stages.items

-- How many tasks a stage has.
abbrev pub tasks : Job → ℕ → ℕ
tasks job zero = length job.sources.items
tasks job (suc i) = option_map_or (λ (s : Stage). s.tasks) (slice_get job.stages.items i) job.agg_tasks

-- How records go over an edge. Those to the aggregate go by the hash of its key.
abbrev pub exchange : Job → ℕ → Exchange
exchange job e = option_map_or (λ (s : Stage). s.exchange) (slice_get job.stages.items e) Hash

-- The key by which an edge routes a record: the aggregate's on the last edge, and else the whole record.
abbrev pub key_on : Job → ℕ → List ℕ → List ℕ
key_on job e r = if e == last_edge job then key_of job.agg r else r

-- Whether an exchange joins these two tasks.
abbrev pub joins : Exchange → ℕ → ℕ → Bool
joins Hash a b = true
joins Rebalance a b = true
joins Forward a b = a == b

-- Whether edge e has a channel from task a to task b.
abbrev pub is_channel : Job → ℕ → ℕ → ℕ → Bool
is_channel job e a b = nat_le e (last_edge job) && nat_lt a (tasks job e) && nat_lt b (tasks job (suc e)) && joins (exchange job e) a b

-- How many channels an exchange makes between so many tasks and so many.
abbrev pub width : Exchange → ℕ → ℕ → ℕ
width Hash m n = m * n
width Rebalance m n = m * n
width Forward m n = m

abbrev pub edge_width : Job → ℕ → ℕ
edge_width job e = width (exchange job e) (tasks job e) (tasks job (suc e))

-- f 0 + f 1 and so on, n terms.
abbrev pub sum_below : ℕ → (ℕ → ℕ) → ℕ
sum_below zero f = 0
sum_below (suc n) f = sum_below n f + f n

-- The segments that the channels of a job need: on each edge three for each channel and one for each sending task.
abbrev pub segments_needed : Job → ℕ
segments_needed job = sum_below (suc (last_edge job)) (λ e. 3 * edge_width job e + tasks job e)

-- A job as its grammar allows it: its numbers are within their limits, each stage has an argument of
-- its kind, and an edge by forward leads to as many tasks as it comes from.
pub record IsJob (job : Job) : Type 0 where
  pub stages : length job.stages.items ≤ stages_max
  pub counts : (i : ℕ) → i ≤ suc (last_edge job) → (1 ≤ tasks job i) × (tasks job i ≤ tasks_max)
  pub arguments : AllByRecursion (λ (s : Stage). IsArgument s.kind s.arg.items) job.stages.items
  pub widths : (e : ℕ) → e ≤ last_edge job → exchange job e ≡ Forward → tasks job e ≡ tasks job (suc e)
