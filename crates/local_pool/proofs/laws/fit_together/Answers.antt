use Rattle.std.proofs.Common.{◌+◌, ◌<◌, ◌≤◌, ℕ, get_or, length, arith}
use Rattle.segment_pool.specs.Passes.{number}
use Rattle.segment_pool.specs.Pools.{limits_of}
use Rattle.local_pool.specs.declared.local.LocalPool.{LocalPool}
use Rattle.local_pool.specs.Locals.{kept_of, lent_of, pass_of}
use Rattle.local_pool.proofs.Fitting.{fits_from}
use Rattle.local_pool.proofs.laws.fit_together.Goals as goal

pub returns : goal.returns
returns c = λ pool locals limited are_locals.
    let held : LocalPool → ℕ = λ local. kept_of local + lent_of local in
    let within_limit : (k : ℕ) (d : LocalPool) → k < length locals → held (get_or locals k d) ≤ get_or (limits_of pool) (number (pass_of (get_or locals k d))) 0 =
    λ k d within. let local = get_or locals k d in let few = (are_locals.0 k d within).out limited in let counts = local.counts in omega arith in
    fits_from held (λ local. number (pass_of local)) (limits_of pool) locals 0 within_limit are_locals.1 (λ k d within. omega arith)
