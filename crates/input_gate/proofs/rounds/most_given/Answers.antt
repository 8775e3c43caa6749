use Rattle.std.proofs.Common.{rules, ◌≡◌, max, ◌<◌, ◌+◌, length, sym, subst, arith}
use Rattle.input_gate.proofs.RoundLaws.{most_more, reached_more, most_all, MostBelow, Reached}
use Rattle.input_gate.proofs.rounds.most_given.Goals as goal

pub loop-i-init : goal.loop-i-init
loop-i-init c = record { within = omega arith; below = λ d low. absurd (omega (arith, low)); reached = λ some. absurd (omega (arith, some)) }

pub loop-i-preserved : goal.loop-i-preserved
loop-i-preserved c =
    let low : c.loop-i.i < length c.args.lanes.now.items = search rules in
    let m : c.max-most.result ≡ max c.loop-i.most c.index.result.now.barriers = search rules in
    record {
      within = omega (arith, low);
      below = subst (MostBelow (c.loop-i.i + 1) c.args.lanes.now.items) (sym m) (most_more c.requires.0 c.args.lanes.now.items c.loop-i.i _ c.index.result.now c.index.ensures low c.requires.1 c.loop-i.most c.loop-i.invariant.below);
      reached = subst (Reached c.args.lanes.now.items) (sym m) (reached_more c.requires.0 c.args.lanes.now.items c.loop-i.i _ c.index.result.now c.index.ensures low c.requires.1 c.loop-i.most c.loop-i.invariant.reached);
    }

pub returns : goal.returns
returns c = most_all c.args.lanes.now.items c.loop-i.i c.loop-i.most (search rules) c.loop-i.invariant.below c.loop-i.invariant.reached
