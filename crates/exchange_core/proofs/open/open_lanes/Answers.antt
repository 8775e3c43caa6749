use Rattle.std.proofs.Common.{◌≡◌, ◌+◌, length, Some, ap, subst, ◌∙◌, arith}
use Rattle.std.proofs.lemmas.List.{length_push}
use Rattle.std.proofs.lemmas.List.Elements.{All-pop}
use Rattle.exchange_core.specs.Exchanges.{IsLaneOf}
use Rattle.exchange_core.specs.Opening.{IsPoolReady}
use Rattle.exchange_core.proofs.Opening.{lanes_more}
use Rattle.exchange_core.proofs.open.open_lanes.Goals as goal

pub passes-preserved : goal.passes-preserved
passes-preserved g c =
    let pool = c.args.pool.now in let limit = c.args.limit in let before = c.passes.invariant in
    let gate = c.in_ok-lane.ensures.gate in let lane = c.in_ok-lane.lane in
    let pushed = c.in_ok-push.ensures.ok in
    let longer : length c.push.new.self.items ≡ length c.passes.lanes.items + 1 = ap length pushed ∙ length_push c.passes.lanes.items lane in
    let shorter : length c.passes.passes.items ≡ length c.pop.new.self.items + 1 = ap length c.in-Some.ensures.items ∙ length_push c.pop.new.self.items c.in-Some.pass in
    let lent = gate.lent_is in let lent_before = before.gate.lent_is in let count = before.count in
    record {
      gate = record { of_pool = gate.of_pool; need_is = gate.need_is ∙ before.gate.need_is; limit_is = gate.limit_is ∙ before.gate.limit_is; lent_is = omega arith };
      passes = (All-pop (IsPoolReady pool limit) c.passes.passes.items c.pop.new.self.items (Some c.in-Some.pass) c.in-Some.ensures.items before.passes).0;
      lanes = lanes_more pool limit c.passes.lanes.items c.push.new.self.items lane pushed before.lanes (subst (λ l. IsLaneOf pool l lane) c.in_ok-partition.ensures.limit_is c.in_ok-lane.ensures.lane) c.in_ok-lane.ensures.new;
      count = omega arith;
    }
