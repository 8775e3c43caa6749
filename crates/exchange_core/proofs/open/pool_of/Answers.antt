use Rattle.std.proofs.Common.{length, ap, ◌∙◌}
use Rattle.exchange_core.specs.Opening.{lane_share, gate_share}
use Rattle.exchange_core.proofs.Readying.{lanes_ready, gate_ready, shares_count}
use Rattle.exchange_core.proofs.Shares.{shares_are}
use Rattle.exchange_core.proofs.open.pool_of.Goals as goal

pub returns-clause-gate : goal.returns-clause-gate
returns-clause-gate c =
    let m = c.args.channels in let total = c.args.total in let made = c.in_ok-pool.ensures in
    gate_ready c.in_ok-pool.pool m (lane_share m total) (gate_share m total) c.in_ok-pool.passes.items c.take_last-gate.new.self.items c.take_last-gate.result made.made made.none_out
    (made.opened.0.2 ∙ (c.requires.limits ∙ shares_are m total)) (made.opened.1 ∙ ap length (c.requires.limits ∙ shares_are m total) ∙ shares_count m total) c.take_last-gate.ensures.items

pub returns-clause-lanes : goal.returns-clause-lanes
returns-clause-lanes c =
    let m = c.args.channels in let total = c.args.total in let made = c.in_ok-pool.ensures in
    lanes_ready c.in_ok-pool.pool m (lane_share m total) (gate_share m total) c.in_ok-pool.passes.items c.take_last-gate.new.self.items c.take_last-gate.result made.made made.none_out
    (made.opened.0.2 ∙ (c.requires.limits ∙ shares_are m total)) (made.opened.1 ∙ ap length (c.requires.limits ∙ shares_are m total) ∙ shares_count m total) c.take_last-gate.ensures.items
