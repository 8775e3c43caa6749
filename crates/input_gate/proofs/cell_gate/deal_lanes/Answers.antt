use Rattle.std.proofs.Common.{rules, ◌<◌, ◌+◌, ◌∙◌, length, take, sym, subst, refl, arith}
use Rattle.input_gate.specs.Making.{AreFreshLanes}
use Rattle.input_gate.proofs.GateLaws.{dealt}
use Rattle.input_gate.proofs.cell_gate.deal_lanes.Goals as goal

pub loop-cell-preserved : goal.loop-cell-preserved
loop-cell-preserved c =
    let i = c.loop-cell.cell-index in
    let low : i < length c.args.cells.now = search rules in
    let r = dealt c.args.cells.now c.args.passes.now.items c.take_last-pass.new.self.items i _ c.take_last-pass.result _ c.loop-cell.lanes.items c.requires.many low (sym c.take_last-pass.ensures.items ∙ c.loop-cell.invariant.left)
    (record { cell_is = c.cell-item.is; pass_is = refl; reader_is = c.new.ensures.rest; ready_is = refl; spare_is = refl; barriers_are = refl; blocked_is = refl; ended_is = refl; clear_is = refl }) c.loop-cell.invariant.lanes in
    record {
      within = omega (arith, low);
      left = r.0;
      room = search (rules, arith);
      lanes = subst (AreFreshLanes (take (i + 1) c.args.cells.now) (take (i + 1) c.args.passes.now.items)) (sym c.in-Ok.ensures.items) r.1;
      len = search (rules, arith);
      capacity = search (rules, arith);
    }
