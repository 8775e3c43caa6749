use Rattle.std.proofs.Common.{[], ◌∙◌, subst, sym, ap}
use Rattle.std.specs.Option.{option_map_or}
use Rattle.turn_cell.specs.Passes.{mine}
use Rattle.local_pool.specs.Lending.{PoolPass}
use Rattle.conn_parts.specs.Shares.{AreOwn}
use Rattle.input_gate.specs.Channels.{cells_in, passes_in}
use Rattle.input_gate.specs.Lanes.{lent_size}
use Rattle.input_gate.specs.Segments.{LoseNone}
use Rattle.input_gate.specs.States.{GateState, passes_of}
use Rattle.input_gate.proofs.GateLaws.{own_of}
use Rattle.input_gate.proofs.cell_gate.CellGate.into_passes.Goals as goal

pub returns-clause-cells : goal.returns-clause-cells
returns-clause-cells c =
    let is = c.gather_passes.ensures ∙ ap (λ (gate : GateState). passes_of gate) c.self.view_is in (
      is,
      subst (λ (gate : GateState). AreOwn 0 (cells_in gate.lanes) c.gather_passes.result.items) c.self.view_is
          (subst (AreOwn 0 (cells_in c.self.inside.lanes.items)) (sym c.gather_passes.ensures) (own_of (lent_size c.self.inside.lender) c.self.inside.lanes.items c.self.invariant.0.lanes_are)),
    )

pub returns-clause-none_lost : goal.returns-clause-none_lost
returns-clause-none_lost c =
    subst (λ (gate : GateState). LoseNone (mine gate.first) (mine c.in-Some.pool) c.gather_passes.result.items) c.self.view_is
    (subst (LoseNone (mine c.self.inside.first.value) (mine c.in-Some.pool)) (sym c.gather_passes.ensures)
    (subst (λ own. LoseNone (mine c.self.inside.first.value) own (passes_in c.self.inside.lanes.items)) (ap (λ pass. option_map_or (λ (pass : PoolPass). mine pass) pass []) c.in-Some.is) c.self.invariant.0.none_lost))
