use Rattle.std.proofs.Common.{◌≡◌, length, Some, refl, sym, ap, subst, ◌∙◌, arith}
use Rattle.std.specs.Prelude.{slice_get}
use Rattle.input_gate.specs.Channels.{cells_in}
use Rattle.job_deploy.specs.declared.takers.Takers.{Takers}
use Rattle.job_deploy.specs.Placing.{AreGateCells}
use Rattle.job_deploy.proofs.Dealing as deal
use Rattle.job_deploy.proofs.takers.Takers.next.Goals as goal

pub returns-clause-takers : goal.returns-clause-takers
returns-clause-takers c =
    let after : Takers = record { own = c.take_last-own.new.self; pools = c.take_last-pool_pass.new.self } in
    deal.takers_rest c.args.job.now c.args.e c.args.edge.now c.args.self.now after c.take_last-own.result c.take_last-pool_pass.result c.requires.takers c.take_last-own.ensures.items c.take_last-pool_pass.ensures.items

pub returns-clause-fewer : goal.returns-clause-fewer
returns-clause-fewer c =
    let after : Takers = record { own = c.take_last-own.new.self; pools = c.take_last-pool_pass.new.self } in
    deal.takers_fewer c.args.job.now c.args.e c.args.edge.now c.args.self.now after c.take_last-own.result c.take_last-pool_pass.result c.requires.takers c.take_last-own.ensures.items c.take_last-pool_pass.ensures.items

pub overflow_mul-first : goal.overflow_mul-first
overflow_mul-first c =
    let after : Takers = record { own = c.take_last-own.new.self; pools = c.take_last-pool_pass.new.self } in
    let job = c.args.job.now in let e = c.args.e in let edge = c.args.edge.now in let own = c.take_last-own.result in let pool = c.take_last-pool_pass.result in
    let here = deal.taker_within job e edge c.args.self.now after own pool c.requires.takers c.take_last-own.ensures.items c.take_last-pool_pass.ensures.items in
    let gate = deal.last_taker job e edge c.args.self.now after own pool c.requires.takers c.take_last-own.ensures.items c.take_last-pool_pass.ensures.items in
    let within = deal.cells_within job e c.args.size edge c.requires.is_job.0 c.requires.is_job.1 c.requires.edge (length after.own.items) (length c.as_slice-index.result.now) (length c.as_slice-ways.result.now) own.items
    here gate (ap length c.as_slice-index.ensures) (ap length c.as_slice-ways.ensures) edge.inputs.items refl edge.gates.items refl in
    let few = deal.few_cells job e c.args.size edge c.requires.is_job.0 c.requires.is_job.1 c.requires.edge (length after.own.items) (length c.as_slice-index.result.now) (length c.as_slice-ways.result.now) own.items
    here gate (ap length c.as_slice-index.ensures) (ap length c.as_slice-ways.ensures) edge.inputs.items refl edge.gates.items refl in
    omega (arith, within, few)

pub part_of-cells-requires : goal.part_of-cells-requires
part_of-cells-requires c =
    let after : Takers = record { own = c.take_last-own.new.self; pools = c.take_last-pool_pass.new.self } in
    let job = c.args.job.now in let e = c.args.e in let edge = c.args.edge.now in let own = c.take_last-own.result in let pool = c.take_last-pool_pass.result in
    let here = deal.taker_within job e edge c.args.self.now after own pool c.requires.takers c.take_last-own.ensures.items c.take_last-pool_pass.ensures.items in
    let gate = deal.last_taker job e edge c.args.self.now after own pool c.requires.takers c.take_last-own.ensures.items c.take_last-pool_pass.ensures.items in
    let few = deal.few_cells job e c.args.size edge c.requires.is_job.0 c.requires.is_job.1 c.requires.edge (length after.own.items) (length c.as_slice-index.result.now) (length c.as_slice-ways.result.now) own.items
    here gate (ap length c.as_slice-index.ensures) (ap length c.as_slice-ways.ensures) c.as_slice.result.now c.as_slice.ensures edge.gates.items refl in
    record {
      within = deal.cells_within job e c.args.size edge c.requires.is_job.0 c.requires.is_job.1 c.requires.edge (length after.own.items) (length c.as_slice-index.result.now) (length c.as_slice-ways.result.now) own.items
          here gate (ap length c.as_slice-index.ensures) (ap length c.as_slice-ways.ensures) c.as_slice.result.now c.as_slice.ensures edge.gates.items refl;
      few = omega (arith, few);
    }

pub item_at-pool-requires : goal.item_at-pool-requires
item_at-pool-requires c =
    let after : Takers = record { own = c.take_last-own.new.self; pools = c.take_last-pool_pass.new.self } in
    let job = c.args.job.now in let e = c.args.e in let edge = c.args.edge.now in let own = c.take_last-own.result in let pool = c.take_last-pool_pass.result in
    let here = deal.taker_within job e edge c.args.self.now after own pool c.requires.takers c.take_last-own.ensures.items c.take_last-pool_pass.ensures.items in
    let gate = deal.last_taker job e edge c.args.self.now after own pool c.requires.takers c.take_last-own.ensures.items c.take_last-pool_pass.ensures.items in
    deal.gate_inside job e c.args.size edge c.requires.is_job.0 c.requires.is_job.1 c.requires.edge (length after.own.items) (length c.as_slice-index.result.now) (length c.as_slice-ways.result.now) own.items
    here gate (ap length c.as_slice-index.ensures) (ap length c.as_slice-ways.ensures) edge.inputs.items refl c.as_slice-2.result.now c.as_slice-2.ensures

-- What `gate_of` is called with.
pub gate_of-requires : goal.gate_of-requires
gate_of-requires c =
    let after : Takers = record { own = c.take_last-own.new.self; pools = c.take_last-pool_pass.new.self } in
    let job = c.args.job.now in let e = c.args.e in let edge = c.args.edge.now in let own = c.take_last-own.result in let pool = c.take_last-pool_pass.result in
    let here = deal.taker_within job e edge c.args.self.now after own pool c.requires.takers c.take_last-own.ensures.items c.take_last-pool_pass.ensures.items in
    let gate = deal.last_taker job e edge c.args.self.now after own pool c.requires.takers c.take_last-own.ensures.items c.take_last-pool_pass.ensures.items in
    let index_is = ap length c.as_slice-index.ensures in let ways_is = ap length c.as_slice-ways.ensures in
    let index = length c.as_slice-index.result.now in let ways = length c.as_slice-ways.result.now in
    let inputs = c.as_slice.result.now in let gates = c.as_slice-2.result.now in
    let cells = c.part_of-cells.result.now in let many = c.part_of-cells.ensures.many in let each = c.part_of-cells.ensures.each in
    let own_passes = deal.own_passes job e c.args.size edge c.requires.is_job.0 c.requires.is_job.1 c.requires.edge (length after.own.items) index ways own.items here gate index_is ways_is inputs c.as_slice.ensures gates c.as_slice-2.ensures cells many each in
    let few = deal.few_cells job e c.args.size edge c.requires.is_job.0 c.requires.is_job.1 c.requires.edge (length after.own.items) index ways own.items here gate index_is ways_is inputs c.as_slice.ensures gates c.as_slice-2.ensures in
    let within = deal.cells_within job e c.args.size edge c.requires.is_job.0 c.requires.is_job.1 c.requires.edge (length after.own.items) index ways own.items here gate index_is ways_is inputs c.as_slice.ensures gates c.as_slice-2.ensures in
    let pool_stands : slice_get edge.gates.items (length after.own.items) ≡ Some c.item_at-pool.result.now =
    ap (λ l. slice_get l (length after.own.items)) (sym c.as_slice-2.ensures) ∙ ap (slice_get gates) (sym index_is) ∙ c.item_at-pool.ensures in
    record {
      few = omega (arith, many, few, within);
      passes = own_passes;
      fresh = deal.own_fresh job e c.args.size edge c.requires.is_job.0 c.requires.is_job.1 c.requires.edge (length after.own.items) index ways own.items here gate index_is ways_is inputs c.as_slice.ensures gates c.as_slice-2.ensures cells many each;
      pool = deal.last_gate_pool job e edge c.args.self.now after own pool c.requires.takers c.take_last-own.ensures.items c.take_last-pool_pass.ensures.items c.item_at-pool.result.now pool_stands;
      stop = c.next_stop-stop_pass.ensures.pass;
      sizes = deal.cell_sizes job e c.args.size edge c.requires.is_job.0 c.requires.is_job.1 c.requires.edge (length after.own.items) index ways own.items here gate index_is ways_is inputs c.as_slice.ensures gates c.as_slice-2.ensures cells many each c.item_at-pool.result.now c.item_at-pool.ensures;
    }

pub returns-clause-cells : goal.returns-clause-cells
returns-clause-cells c =
    let after : Takers = record { own = c.take_last-own.new.self; pools = c.take_last-pool_pass.new.self } in
    let job = c.args.job.now in let e = c.args.e in let edge = c.args.edge.now in let own = c.take_last-own.result in let pool = c.take_last-pool_pass.result in
    let here = deal.taker_within job e edge c.args.self.now after own pool c.requires.takers c.take_last-own.ensures.items c.take_last-pool_pass.ensures.items in
    let gate = deal.last_taker job e edge c.args.self.now after own pool c.requires.takers c.take_last-own.ensures.items c.take_last-pool_pass.ensures.items in
    let cells = deal.gate_cells job e c.args.size edge c.requires.is_job.0 c.requires.is_job.1 c.requires.edge (length after.own.items) (length c.as_slice-index.result.now) (length c.as_slice-ways.result.now) own.items
    here gate (ap length c.as_slice-index.ensures) (ap length c.as_slice-ways.ensures) c.as_slice.result.now c.as_slice.ensures c.as_slice-2.result.now c.as_slice-2.ensures c.part_of-cells.result.now c.part_of-cells.ensures.many c.part_of-cells.ensures.each in
    deal.if_ok_more (λ gate. cells_in gate.lanes ≡ c.part_of-cells.result.now) (λ gate. AreGateCells job e (length after.own.items) edge (cells_in gate.lanes)) c.gate_of.result
    (λ gate same. subst (AreGateCells job e (length after.own.items) edge) (sym same) cells) c.gate_of.ensures.cells
