use Rattle.std.proofs.Common.{◌≡◌, ℕ, ◌+◌, ap, ◌∙◌, arith}
use Rattle.std.specs.Prelude.{map}
use Rattle.segment_pool.specs.Pools.{total_of}
use Rattle.local_pool.specs.Shares.{beyond, dealt, share_of, wish, wishes}
use Rattle.job_cells.specs.Grants.{wants_of}
use Rattle.job_cells.proofs.open.open_network.Goals as goal

pub returns : goal.returns
returns c =
    let wants = wants_of c.args.job.now in
    let total = total_of c.in_ok-pool.pool in
    let made = c.in_ok-pool.ensures.terms in
    let same : dealt wants total ≡ dealt wants c.args.segments = ap (dealt wants) made.0 ∙ c.opened.ensures.dealt in
    record {
      within = (let within = c.opened.ensures.within in let is = made.0 in omega (arith, within, is));
      size_is = made.1;
      shares = c.in_ok-pool.ensures.grants.limits ∙ ap (λ (n : ℕ). map (λ want. want.need + beyond n (wishes wants) (wish want)) wants) same;
      grants = c.in_ok-pool.ensures.grants;
    }
