use Rattle.std.proofs.Common.{◌≡◌, ◌+◌, ℕ, List, length, refl, ap, ◌∙◌, arith}
use Rattle.std.proofs.lemmas.List.{length_push}
use Rattle.std.proofs.lemmas.List.Elements.{All-same, All-push}
use Rattle.segment_pool.specs.declared.stock.Dealing.TheVariants.{Claimed}
use Rattle.segment_pool.specs.Pools.{size_of}
use Rattle.local_pool.proofs.Moving.{HasDone-again}
use Rattle.local_pool.proofs.moves.claim_up_to.Goals as goal

pub loop-claim-preserved : goal.loop-claim-preserved
loop-claim-preserved g c =
    let n = c.loop-claim._claim in let invariant = c.loop-claim.invariant in
    let old = c.loop-claim.segments.items in let segment = c.in-Some.segment in
    let IsSized : List ℕ → Type 0 = λ s. length s ≡ size_of c.args.pool.now in
    let pushed = c.in-Ok.ensures.ok in
    let longer : length c.push.new.self.items ≡ length old + 1 = ap length pushed ∙ length_push old segment in
    let counted = invariant.count in let claimed = invariant.out in let roomy = invariant.room in
    let more = c.in-Some.ensures.out in let room_left = c.push.ensures.room in
    record {
      pass = c.claim.ensures.pass;
      done = HasDone-again c.args.pass.now c.loop-claim.pass c.claim.new.pass n _ Claimed _ refl invariant.done c.in-Some.ensures.turn;
      out = omega arith;
      count = omega arith;
      room = omega arith;
      sizes = All-same IsSized _ _ pushed (All-push IsSized old segment invariant.sizes c.in-Some.ensures.size);
    }
