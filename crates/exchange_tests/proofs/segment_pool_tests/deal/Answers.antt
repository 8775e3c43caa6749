use Rattle.std.proofs.Common.{◌≡◌, ◌∷◌, [], length, ap, arith, length-append}
use Rattle.segment_pool.specs.Passes.{number}
use Rattle.segment_pool.specs.Pools.{IsPassOf}
use Rattle.exchange_tests.proofs.InOrder.{last_fits, rest_fits}
use Rattle.exchange_tests.proofs.segment_pool_tests.deal.Goals as goal

pub returns-clause-pass : goal.returns-clause-pass
returns-clause-pass c = let pool = c.args.pool.now in
    last_fits (λ k pass. IsPassOf pool pass × (number pass ≡ k)) c.args.passes.now.items c.take_last.new.self.items c.take_last.result c.take_last.ensures.items c.requires.0

pub returns-clause-rest : goal.returns-clause-rest
returns-clause-rest c = let rest = c.take_last.new.self.items in let pool = c.args.pool.now in let is = c.take_last.ensures.items in
    let count = ap length is in let one = length-append rest (c.take_last.result ∷ []) in
    (rest_fits (λ k pass. IsPassOf pool pass × (number pass ≡ k)) c.args.passes.now.items rest c.take_last.result is c.requires.0, omega arith)
