-- The network memory of a run. As in Flink it is one pool of segments, all made when it starts, which the tasks of the run share. That fewer
-- are made where more would never be lent is this project's own choice.
use Rattle.std.specs.Prelude.{◌≡◌, ℕ, ◌≤◌, map}
use Rattle.flow_defs.specs.declared.job.Job.{Job}
use Rattle.segment_pool.specs.Pools.{size_of, total_of}
use Rattle.local_pool.specs.Shares.{share_of}
use Rattle.job_cells.specs.declared.open.Network.{Network}
use Rattle.job_cells.specs.Grants.{AreGrantsOf, wants_of}

-- The network memory of a run of the job, of at most so many segments of so many bytes. What each local pool may have of it is its share of
-- so many, as if all of them were made.
pub record IsNetworkOf (job : Job) (segments size : ℕ) (network : Network) : Type 0 where
  pub within : total_of network.pool ≤ segments
  pub size_is : size_of network.pool ≡ size
  pub shares : network.grants.limits.items ≡ map (share_of (wants_of job) segments) (wants_of job)
  pub grants : AreGrantsOf job network.pool network.grants
