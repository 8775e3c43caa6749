use Rattle.std.proofs.Common.{length, replicate, refl}
use Rattle.segment_pool.specs.declared.stock.Dealing.TheVariants.{Claimed, Given}
use Rattle.local_pool.proofs.Moving.{HasDone-then, FoundNone-later}
use Rattle.local_pool.proofs.local.LocalPool.new.Goals as goal

pub returns-then-free-need-clause-refused : goal.returns-then-free-need-clause-refused
returns-then-free-need-clause-refused g c =
    let pool = c.args.pool.now in let before = c.args.pass in
    let between = c.claim_up_to.new.pass in let after = c.give_all.new.pass in
    let n = length c.claim_up_to.new.segments.items in
    let few = rw c.as_slice.ensures at c.if-free-need.true in
    let claimed = c.claim_up_to.ensures in let given = c.give_all.ensures in
    rw c.as_slice.ensures (
      refl,
      few,
      FoundNone-later pool n before between after (replicate n Given) (claimed.none few) given.done,
      HasDone-then before between after (replicate n Claimed) (replicate n Given) claimed.done given.done,
    )
