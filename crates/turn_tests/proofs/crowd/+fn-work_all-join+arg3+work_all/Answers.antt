use Rattle.std.proofs.Common.{rules, ◌≡◌, ◌+◌, ◌*◌, ◌<◌, ◌∷◌, [], length, ap, arith, length-append}
use Rattle.turn_tests.proofs.Outings.{last_goes, rest_goes, comes_back}
use Rattle.turn_tests.proofs.crowd.+fn-work_all-join+arg3+work_all.Goals as goal

pub join-pass-requires-after_bounds : goal.join-pass-requires-after_bounds
join-pass-requires-after_bounds g t c κs within = let is = c.in-Some.ensures.items in let rest = c.pop.new.self.items in
    let fewer = ap length is in let one = length-append rest (c.in-Some.pass ∷ []) in
    (last_goes c.args.shared.now c.args.passes.items rest c.in-Some.pass is c.requires, ((let d : 2 * length c.args.passes.items ≡ t = c.decreases in let f : 2 * length rest + 1 < t = omega arith in f), (search rules, (rest_goes c.args.shared.now c.args.passes.items rest c.in-Some.pass is c.requires, search rules))))

pub returns-clause-back : goal.returns-clause-back
returns-clause-back g t c = comes_back c.args.shared.now c.args.passes.items c.pop.new.self.items c.join-pass.result.1.items c.give_back.new.passes.items c.in-Some.pass c.join-pass.result.0 c.in-Some.ensures.items c.give_back.ensures.items c.join-pass.ensures.second.0 c.join-pass.ensures.first
