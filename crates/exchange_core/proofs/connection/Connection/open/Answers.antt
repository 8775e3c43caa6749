use Rattle.std.proofs.Common.{◌≡◌, ◌*◌, ◌≤◌, All, ap, sym, subst, ◌∙◌, get_or, arith}
use Rattle.exchange_core.specs.declared.connection.Connection.{Connection}
use Rattle.exchange_core.specs.Opening.{lane_share, gate_share, IsPoolReady}
use Rattle.exchange_core.proofs.Shares.{lane_gets, gate_gets, first_share, last_share}
use Rattle.exchange_core.proofs.Opening.{opened_world, opened_whole}
use Rattle.exchange_core.proofs.connection.Connection.open.Goals as goal

pub local_of-requires-clause-pass : goal.local_of-requires-clause-pass
local_of-requires-clause-pass g c =
    let m = c.args.channels in let total = c.args.total in
    let gate : c.index-gate_limit.result.now ≡ gate_share m total = c.index-gate_limit.ensures ∙ (ap (λ ls. get_or ls m c.index-gate_limit.result.now) c.in_ok-limits.ensures.limits ∙ last_share m total c.index-gate_limit.result.now) in
    subst (λ l. IsPoolReady c.in_ok-pool.pool l c.in_ok-pool.pass) (sym gate) c.in_ok-pool.ensures.gate

pub local_of-requires-clause-limit : goal.local_of-requires-clause-limit
local_of-requires-clause-limit g c =
    let m = c.args.channels in let total = c.args.total in
    let gate : c.index-gate_limit.result.now ≡ gate_share m total = c.index-gate_limit.ensures ∙ (ap (λ ls. get_or ls m c.index-gate_limit.result.now) c.in_ok-limits.ensures.limits ∙ last_share m total c.index-gate_limit.result.now) in
    subst (λ l. 2 * m ≤ l) (sym gate) (gate_gets m total)

pub open_lanes-requires-clause-passes : goal.open_lanes-requires-clause-passes
open_lanes-requires-clause-passes g c =
    let m = c.args.channels in let total = c.args.total in
    let lane : c.index-partition_limit.result.now ≡ lane_share m total = c.index-partition_limit.ensures ∙ (ap (λ ls. get_or ls 0 c.index-partition_limit.result.now) c.in_ok-limits.ensures.limits ∙ first_share m total c.index-partition_limit.result.now c.requires.opening.some_channels) in
    subst (λ l. All (IsPoolReady c.in_ok-pool.pool l) c.in_ok-pool.passes.items) (sym lane) c.in_ok-pool.ensures.lanes

pub open_lanes-requires-clause-limit : goal.open_lanes-requires-clause-limit
open_lanes-requires-clause-limit g c =
    let m = c.args.channels in let total = c.args.total in
    let lane : c.index-partition_limit.result.now ≡ lane_share m total = c.index-partition_limit.ensures ∙ (ap (λ ls. get_or ls 0 c.index-partition_limit.result.now) c.in_ok-limits.ensures.limits ∙ first_share m total c.index-partition_limit.result.now c.requires.opening.some_channels) in
    subst (λ l. 2 ≤ l) (sym lane) (lane_gets m total)

pub returns-clause-whole : goal.returns-clause-whole
returns-clause-whole g c =
    let m = c.args.channels in let size = c.args.size in let total = c.args.total in
    let pool = c.in_ok-pool.ensures.pool in let made = c.in_ok-lanes.ensures in
    let count = made.count ∙ c.in_ok-pool.ensures.count in
    let opened : Connection = record {
      pool = c.in_ok-pool.pool;
      lanes = c.in_ok-lanes.lanes;
      gate = c.open_lanes.new.gate;
      readers = c.in_ok-readers.readers;
      frames = c.new.result;
      controls = c.new-2.result;
      size = size;
      total = total;
      partition_limit = c.index-partition_limit.result.now;
    } in
    let lane : c.index-partition_limit.result.now ≡ lane_share m total = c.index-partition_limit.ensures ∙ (ap (λ ls. get_or ls 0 c.index-partition_limit.result.now) c.in_ok-limits.ensures.limits ∙ first_share m total c.index-partition_limit.result.now c.requires.opening.some_channels) in
    let gate : c.index-gate_limit.result.now ≡ gate_share m total = c.index-gate_limit.ensures ∙ (ap (λ ls. get_or ls m c.index-gate_limit.result.now) c.in_ok-limits.ensures.limits ∙ last_share m total c.index-gate_limit.result.now) in
    let before = c.in_ok-gate.ensures in let after = made.gate in let passes = c.in_ok-pool.ensures.count in let none_lent = before.lent_is in let lent = after.lent_is in
    opened_whole opened m size total
    (opened_world opened m made.lanes count pool.1 c.in_ok-readers.ensures c.new.ensures.items c.new-2.ensures.items)
    (c.connections_stay_sound.ensures.opened m size total (record { opening = c.requires.opening; enough = c.requires.enough }))
    pool.0 pool.1 pool.2 lane made.lanes count
    (record { of_pool = after.of_pool; need_is = after.need_is ∙ before.need_is; limit_is = after.limit_is ∙ (before.limit_is ∙ gate); lent_is = omega arith })
