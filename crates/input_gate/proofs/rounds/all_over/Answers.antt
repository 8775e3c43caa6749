use Rattle.std.proofs.Common.{rules, ◌<◌, ◌≤◌, length, arith}
use Rattle.input_gate.proofs.RoundLaws.{over_more}
use Rattle.input_gate.proofs.rounds.all_over.Goals as goal

pub loop-i-init : goal.loop-i-init
loop-i-init c = record { within = omega arith; over = λ d low. absurd (omega (arith, low)) }

pub loop-i-preserved : goal.loop-i-preserved
loop-i-preserved c =
    let low : c.loop-i.i < length c.args.lanes.now.items = search rules in
    record { within = omega (arith, low); over = over_more c.args.lanes.now.items c.loop-i.i _ c.index.result.now c.index.ensures low (c.is_over.ensures (search rules)) c.loop-i.invariant.over }

pub returns : goal.returns
returns c is d low = c.loop-i.invariant.over d (let e : length c.args.lanes.now.items ≤ c.loop-i.i = search rules in omega (arith, low, e))
