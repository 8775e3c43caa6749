-- Where tasks and channels stand.
use Rattle.std.proofs.Common.{◌≡◌, ℕ, zero, suc, ◌+◌, ◌-◌, arith}
use Rattle.flow_defs.specs.declared.job.Job.{Job}
use Rattle.flow_defs.specs.Jobs.{tasks, sum_below}
use Rattle.plain_machine.specs.Places.{sender_place, receiver_place}

behind_first : (f : ℕ → ℕ) (n : ℕ) → sum_below (suc n) f ≡ f 0 + sum_below n (λ i. f (suc i))
behind_first f zero = omega arith
behind_first f (suc n) = omega (arith, behind_first f n)

-- The place among those that receive is that among all, less the sources.
pub receiver_behind : (job : Job) (e b : ℕ) → sender_place job (suc e) b - tasks job 0 ≡ receiver_place job e b
receiver_behind job e b = omega (arith, behind_first (tasks job) e)
