use Rattle.std.proofs.Common.{rules, sym, ◌∙◌, subst, arith}
use Rattle.std.specs.Prelude.{IfOk}
use Rattle.input_gate.specs.Lanes.{lent_size}
use Rattle.input_gate.specs.States.{GateState, LookedFirst, shows_of}
use Rattle.input_gate.proofs.RoundLaws.{kept_on}
use Rattle.input_gate.proofs.GateLaws.{cells_length, looked_first, all_came_back, none_left}
use Rattle.input_gate.proofs.SegmentLaws.{lose_then}
use Rattle.input_gate.proofs.cell_gate.CellGateGate.next.Goals as goal

pub invariant_of-self : goal.invariant_of-self
invariant_of-self g c =
    let same = cells_length c.self.inside.lanes.items c.next_of-result.new.lanes.items c.next_of-result.ensures.cells in
    let few = c.self.invariant.0.few in
    let room = c.self.invariant.2 in (
      record {
        few = omega (arith, same, few);
        lanes_are = search (rules, c.next_of-result.ensures.lanes, c.next_of-result.ensures.lender.1);
        lender_is = c.next_of-result.ensures.lender.0;
        stop_is = c.next_of-result.ensures.stop.0;
        no_fault = c.next_of-result.ensures.stop.1.1 ∙ c.self.invariant.0.no_fault;
        none_lost = lose_then _ _ _ c.self.inside.lanes.items c.next_of-result.new.lanes.items c.self.invariant.0.none_lost c.next_of-result.ensures.segments;
      },
      c.self.invariant.1,
      omega (arith, same, room),
      none_left c.next_of-result.result c.is_err-self-inside.result c.next_of-result.new.lanes.items c.is_err-self-inside.ensures.value c.next_of-result.ensures.spare,
    )

pub returns-clause-looked : goal.returns-clause-looked
returns-clause-looked g c =
    let new : GateState = record { lanes = c.next_of-result.new.lanes.items; lender = c.next_of-result.new.lender; first = c.self.inside.first.value; stop = c.self.inside.stop.now; stop_pass = c.next_of-result.new.stop_pass } in
    let old : GateState = record { lanes = c.self.inside.lanes.items; lender = c.self.inside.lender; first = c.self.inside.first.value; stop = c.self.inside.stop.now; stop_pass = c.self.inside.stop_pass } in
    subst (λ gate. IfOk c.next_of-result.result (λ item. LookedFirst c.args.hold gate new item)) c.self.view_is (looked_first c.args.hold old new c.next_of-result.result c.next_of-result.ensures.looked)

pub returns-clause-back : goal.returns-clause-back
returns-clause-back g c =
    let new : GateState = record { lanes = c.next_of-result.new.lanes.items; lender = c.next_of-result.new.lender; first = c.self.inside.first.value; stop = c.self.inside.stop.now; stop_pass = c.next_of-result.new.stop_pass } in
    all_came_back (lent_size c.self.inside.lender) new c.next_of-result.result c.next_of-result.ensures.lanes c.next_of-result.ensures.spare

pub returns-clause-kept : goal.returns-clause-kept
returns-clause-kept g c at cut shown =
    kept_on c.self.inside.lanes.items c.next_of-result.new.lanes.items c.next_of-result.ensures.later at cut
    (subst (λ (gate : GateState). shows_of gate at cut) (sym c.self.view_is) shown)
