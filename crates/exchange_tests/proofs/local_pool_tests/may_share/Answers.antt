use Rattle.std.proofs.Common.{arith}
use Rattle.std.proofs.lemmas.List.Elements.{All-more}
use Rattle.std.proofs.lemmas.List.Sums.{sum_by_more}
use Rattle.local_pool.specs.declared.shares.Want.{Want}
use Rattle.local_pool.specs.Shares.{IsWant}
use Rattle.exchange_tests.proofs.local_pool_tests.may_share.Goals as goal

pub loop-want-preserved : goal.loop-want-preserved
loop-want-preserved c =
    let i = c.loop-want.want-index in let wants = c.args.wants.now in
    let default : Want = record { need = 0; most = 0 } in
    let more = sum_by_more (λ want. want.need) wants i default c.loop-want-test.true in
    let counted = c.loop-want.invariant.0 in let enough = c.if-left-want.false in
    (omega arith, All-more IsWant wants i default c.loop-want-test.true c.loop-want.invariant.1 c.if-want.false)
