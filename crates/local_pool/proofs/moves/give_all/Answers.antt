use Rattle.std.proofs.Common.{◌≡◌, ◌+◌, ℕ, List, length, ap, ◌∙◌, arith}
use Rattle.std.proofs.lemmas.List.{length_push}
use Rattle.std.proofs.lemmas.List.Elements.{All-pop}
use Rattle.segment_pool.specs.declared.stock.Dealing.TheVariants.{Given}
use Rattle.segment_pool.specs.Pools.{size_of}
use Rattle.local_pool.proofs.Moving.{HasDone-again}
use Rattle.local_pool.proofs.moves.give_all.Goals as goal

pub loop-segment-preserved : goal.loop-segment-preserved
loop-segment-preserved g c =
    let invariant = c.loop-segment.invariant in
    let left = c.pop.new.self.items in let segment = c.in-Some.segment in
    let IsSized : List ℕ → Type 0 = λ s. length s ≡ size_of c.args.pool.now in
    let shorter : length c.loop-segment.rest.items ≡ length left + 1 = ap length c.in-Some.ensures.items ∙ length_push left segment in
    let few = invariant.few in let count = invariant.out in let less = c.give.ensures.out in
    record {
      pass = c.give.ensures.pass;
      done = HasDone-again c.args.pass.now c.loop-segment.pass c.give.new.pass _ _ Given _ (omega arith) invariant.done c.give.ensures.turn;
      out = omega arith;
      few = omega arith;
      sizes = (All-pop IsSized _ left _ c.pop.ensures.items invariant.sizes).0;
    }
