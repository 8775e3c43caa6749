use Rattle.std.proofs.Common.{refl, sym, subst, arith}
use Rattle.turn_cell.specs.Passes.{opened_with, mine}
use Rattle.segment_pool.specs.Pools.{size_of}
use Rattle.local_pool.specs.Helds.{pool_of}
use Rattle.local_pool.specs.Lending.{PoolPass}
use Rattle.input_gate.specs.Channels.{passes_in}
use Rattle.input_gate.specs.Segments.{LoseNone}
use Rattle.input_gate.proofs.GateLaws.{first_of, lanes_fresh, cells_fresh, length_fresh, is_new, no_spare_fresh, lose_fresh}
use Rattle.input_gate.proofs.cell_gate.CellGate.new.Goals as goal

pub invariant_of-result : goal.invariant_of-result
invariant_of-result c =
    let same = length_fresh c.args.cells.now c.args.passes.items c.deal_lanes-lanes.result.items c.deal_lanes-lanes.ensures.lanes in
    let few = c.requires.few in
    let first = first_of (size_of (pool_of (opened_with c.args.gate_pool.now))) c.args.cells.now c.args.passes.items c.requires.passes.0 c.requires.passes.1 c.requires.fresh c.requires.sizes in
    let room = c.deal_lanes-lanes.ensures.passes.1 in (
      record {
        few = omega (arith, same, few);
        lanes_are = lanes_fresh (size_of (pool_of (opened_with c.args.gate_pool.now))) c.args.cells.now c.args.passes.items c.deal_lanes-lanes.result.items c.deal_lanes-lanes.ensures.lanes first;
        lender_is = c.requires.pool;
        stop_is = c.requires.stop.0;
        no_fault = c.requires.stop.1;
        none_lost = subst (λ (pass : PoolPass). LoseNone (mine pass) (mine c.args.pool_pass) (passes_in c.deal_lanes-lanes.result.items)) (sym c.of-first.ensures) (lose_fresh (size_of (pool_of (opened_with c.args.gate_pool.now))) c.args.cells.now c.args.passes.items c.deal_lanes-lanes.result.items c.deal_lanes-lanes.ensures.lanes first (mine c.args.pool_pass));
      },
      c.deal_lanes-lanes.ensures.passes.0,
      omega (arith, same, room),
      λ read. no_spare_fresh (size_of (pool_of (opened_with c.args.gate_pool.now))) c.args.cells.now c.args.passes.items c.deal_lanes-lanes.result.items c.deal_lanes-lanes.ensures.lanes first,
    )

pub returns-clause-account : goal.returns-clause-account
returns-clause-account c = (length_fresh c.args.cells.now c.args.passes.items c.deal_lanes-lanes.result.items c.deal_lanes-lanes.ensures.lanes, is_new (size_of (pool_of (opened_with c.args.gate_pool.now))) c.args.cells.now c.args.passes.items c.deal_lanes-lanes.result.items c.deal_lanes-lanes.ensures.lanes (first_of (size_of (pool_of (opened_with c.args.gate_pool.now))) c.args.cells.now c.args.passes.items c.requires.passes.0 c.requires.passes.1 c.requires.fresh c.requires.sizes))

pub returns-clause-gate : goal.returns-clause-gate
returns-clause-gate c = (record { cells_are = cells_fresh c.args.cells.now c.args.passes.items c.deal_lanes-lanes.result.items c.deal_lanes-lanes.ensures.lanes; pool_is = refl; stop_is = refl }, refl)
