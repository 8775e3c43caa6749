use Rattle.benches.proofs.One.{only_one}
use Rattle.benches.proofs.pools.small_pool.Goals as goal

pub returns-clause-pass : goal.returns-clause-pass
returns-clause-pass c =
    (c.in-Ok.ensures.made.0.1 0 c.in_ok-pass.pass (only_one c.in-Ok.passes.items c.pop.new.self.items c.in_ok-pass.pass c.in_ok-pass.ensures.items c.in-Ok.ensures.opened.1)).0
