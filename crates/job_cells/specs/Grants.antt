-- What the local pools of a job's tasks may have. The needs are those of Flink's network memory as this project counts them: for each
-- channel two exclusive buffers at its gate and one at its partition, and one more for each partition.
use Rattle.std.specs.Prelude.{◌≡◌, ℕ, suc, ◌+◌, ◌*◌, List, ◌++◌, length, map, replicate}
use Rattle.std.specs.List.{All}
use Rattle.flow_defs.specs.declared.job.Job.{Job}
use Rattle.flow_defs.specs.Jobs.{last_edge, tasks}
use Rattle.local_pool.specs.declared.shares.Want.{Want}
use Rattle.local_pool.specs.Shares.{share_of}
use Rattle.segment_pool.specs.declared.pool.Pool.{Pool}
use Rattle.segment_pool.specs.Passes.{out}
use Rattle.segment_pool.specs.Pools.{AreAll, limits_of, total_of}
use Rattle.plain_machine.specs.Worth.{concat_below}
use Rattle.record_writer.specs.Writers.{ways_on, ways_into}
use Rattle.job_cells.specs.declared.open.Grants.{Grants}

-- What a partition of so many channels wants, and a gate.
abbrev pub partition_want : ℕ → Want
partition_want s = record { need = s + 1; most = 2 * s + 8 }

abbrev pub gate_want : ℕ → Want
gate_want g = record { need = 2 * g; most = 2 * g + 8 }

-- What the tasks at both ends of an edge want, and those of all edges.
abbrev pub wants_on : Job → ℕ → List Want
wants_on job e = replicate (tasks job e) (partition_want (ways_on job e)) ++ replicate (tasks job (suc e)) (gate_want (ways_into job e))

abbrev pub wants_of : Job → List Want
wants_of job = concat_below (suc (last_edge job)) (wants_on job)

-- There is a pass of the pool for each of them, with nothing out, whose limit is its share.
pub record AreGrantsOf (job : Job) (pool : Pool) (grants : Grants) : Type 0 where
  pub wants : grants.wants.items ≡ wants_of job
  pub limits : grants.limits.items ≡ map (share_of (wants_of job) (total_of pool)) (wants_of job)
  pub granted : limits_of pool ≡ grants.limits.items
  pub passes : AreAll pool grants.passes.items
  pub many : length grants.passes.items ≡ length (wants_of job)
  pub none_out : All (λ pass. out pass ≡ 0) grants.passes.items
