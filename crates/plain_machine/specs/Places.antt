-- Where tasks and channels stand in the lists of an image: tasks by stage and then by index, channels
-- by edge, then by sending task, then by receiving task. The order is this project's own choice.
-- A task of a stateless stage both sends and receives, so it has a place in each of the two orders.
use Rattle.std.specs.Prelude.{ℕ, suc, ◌+◌, ◌*◌, List, [], ◌∷◌, if◌then◌else◌}
use Rattle.flow_defs.specs.declared.job.Job.{Job}
use Rattle.flow_defs.specs.declared.job.Exchange.{Exchange}
use Rattle.flow_defs.specs.declared.job.Exchange.TheVariants.{Hash, Rebalance, Forward}
use Rattle.flow_defs.specs.Jobs.{last_edge, tasks, exchange, is_channel, edge_width, sum_below}
use Rattle.plain_machine.specs.Worth.{concat_below}

-- All tasks that send, those of the sources and stages, by stage and index.
abbrev pub sending_tasks : Job → List (ℕ × ℕ)
sending_tasks job = concat_below (suc (last_edge job)) (λ i. concat_below (tasks job i) (λ a. (i, a) ∷ []))

-- All tasks that receive, those of the stages and the aggregate.
abbrev pub receiving_tasks : Job → List (ℕ × ℕ)
receiving_tasks job = concat_below (suc (last_edge job)) (λ e. concat_below (tasks job (suc e)) (λ b. (suc e, b) ∷ []))

-- The channels from task a of stage e.
abbrev pub channels_from : Job → ℕ → ℕ → List (ℕ × ℕ × ℕ)
channels_from job e a = concat_below (tasks job (suc e)) (λ b. if is_channel job e a b then (e, a, b) ∷ [] else [])

-- All channels.
abbrev pub channels : Job → List (ℕ × ℕ × ℕ)
channels job = concat_below (suc (last_edge job)) (λ e. concat_below (tasks job e) (channels_from job e))

-- The place of task a of stage i among those that send.
abbrev pub sender_place : Job → ℕ → ℕ → ℕ
sender_place job i a = sum_below i (tasks job) + a

-- The place of task b behind edge e among those that receive.
abbrev pub receiver_place : Job → ℕ → ℕ → ℕ
receiver_place job e b = sum_below e (λ i. tasks job (suc i)) + b

-- The place of the channel from task a to task b on its edge, which leads to n tasks.
abbrev pub place_on_edge : Exchange → ℕ → ℕ → ℕ → ℕ
place_on_edge Hash n a b = a * n + b
place_on_edge Rebalance n a b = a * n + b
place_on_edge Forward n a b = a

-- Its place among all channels.
abbrev pub channel_place : Job → ℕ → ℕ → ℕ → ℕ
channel_place job e a b = sum_below e (edge_width job) + place_on_edge (exchange job e) (tasks job (suc e)) a b
