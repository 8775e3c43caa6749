use Rattle.std.proofs.Common.{◌≡◌, ◌∷◌, [], length, ap, arith, length-append}
use Rattle.segment_pool.specs.Passes.{number}
use Rattle.segment_pool.specs.Pools.{IsPassOf}
use Rattle.exchange_tests.proofs.InOrder.{all_fit}
use Rattle.exchange_tests.proofs.segment_pool_tests.take_back.Goals as goal

pub returns-clause-all : goal.returns-clause-all
returns-clause-all c = let rest = c.args.passes.now.items in let pool = c.args.pool.now in let count = ap length c.give_back.ensures.items in let one = length-append rest (c.args.pass ∷ []) in
    (all_fit (λ k pass. IsPassOf pool pass × (number pass ≡ k)) c.give_back.new.passes.items rest c.args.pass c.give_back.ensures.items c.requires.passes.0 c.requires.pass, omega arith)
