-- How many passes of the stop cell the workers of a job have. That a gate has one beside its task's is this project's own choice.
use Rattle.std.specs.Prelude.{ℕ, suc, ◌+◌, ◌*◌}
use Rattle.flow_defs.specs.declared.job.Job.{Job}
use Rattle.flow_defs.specs.Jobs.{last_edge, tasks, sum_below}

-- A task of the sources has one, each other task two, and each loop of an edge one.
abbrev pub stops_needed : Job → ℕ
stops_needed job = tasks job 0 + sum_below (suc (last_edge job)) (λ e. 2 * tasks job (suc e) + 4)
