-- The grants of a job as they are turned into local pools, one after another. This is this project's own choice.
use Rattle.std.specs.Prelude.{◌≡◌, ℕ, suc, ◌+◌, ◌≤◌, length, map, slice_get, Some}
use Rattle.std.specs.List.{All}
use Rattle.flow_defs.specs.declared.job.Job.{Job}
use Rattle.flow_defs.specs.Jobs.{tasks, sum_below}
use Rattle.segment_pool.specs.declared.pool.Pool.{Pool}
use Rattle.segment_pool.specs.declared.pass.PoolPass.{PoolPass}
use Rattle.segment_pool.specs.Passes.{number, out}
use Rattle.segment_pool.specs.Pools.{IsPassOf, IsLimited, limits_of, total_of, limit_of as granted_to}
use Rattle.local_pool.specs.declared.local.LocalPool.{LocalPool}
use Rattle.local_pool.specs.declared.shares.Want.{Want}
use Rattle.local_pool.specs.Locals.{IsLocalOf, lent_of, limit_of}
use Rattle.local_pool.specs.Shares.{IsWant, share_of}
use Rattle.job_cells.specs.declared.lender.Lender.{Lender}
use Rattle.job_cells.specs.Grants.{wants_of}

-- A pass with nothing out, which may have so many out; the limit is enough for what is needed, and no more than is wanted.
pub record IsGrant (pool : Pool) (pass : PoolPass) (want : Want) (limit : ℕ) : Type 0 where
  pub of_pool : IsPassOf pool pass
  pub none_out : out pass ≡ 0
  pub granted : limit ≤ granted_to pool pass
  pub enough : want.need ≤ limit
  pub most : limit ≤ want.most

-- Those that are left are lent from the last of its passes on, each for the want whose place is its number.
pub record MayLend (pool : Pool) (lender : Lender) : Type 0 where
  pub limited : IsLimited pool
  pub wants : All IsWant lender.wants.items
  pub limits : lender.limits.items ≡ map (share_of lender.wants.items (total_of pool)) lender.wants.items
  pub granted : limits_of pool ≡ lender.limits.items
  pub many : lender.given + length lender.passes.items ≡ length lender.wants.items
  pub each : (k : ℕ) (pass : PoolPass) → slice_get lender.passes.items k ≡ Some pass →
      IsPassOf pool pass × (out pass ≡ 0) × (number pass + suc k ≡ length lender.wants.items)

-- So many more were lent.
pub record HasLent (n : ℕ) (before after : Lender) : Type 0 where
  pub wants : after.wants.items ≡ before.wants.items
  pub given : after.given ≡ before.given + n

-- A local pool of this pool which has lent nothing, and may lend what the next want needs and up to its share.
pub record IsNext (pool : Pool) (lender : Lender) (local : LocalPool) : Type 0 where
  pub of_pool : IsLocalOf pool local
  pub none_lent : lent_of local ≡ 0
  pub enough : (want : Want) → slice_get lender.wants.items lender.given ≡ Some want → want.need ≤ limit_of local
  pub shared : (want : Want) → slice_get lender.wants.items lender.given ≡ Some want → limit_of local ≡ share_of lender.wants.items (total_of pool) want

-- How many local pools there are at both ends of an edge, and how many at the edges before it.
abbrev pub ends : Job → ℕ → ℕ
ends job e = tasks job e + tasks job (suc e)

abbrev pub wants_before : Job → ℕ → ℕ
wants_before job e = sum_below e (ends job)

-- Of this job those of the edges before edge e are lent.
pub record IsAt (job : Job) (e : ℕ) (lender : Lender) : Type 0 where
  pub wants : lender.wants.items ≡ wants_of job
  pub given : lender.given ≡ wants_before job e
