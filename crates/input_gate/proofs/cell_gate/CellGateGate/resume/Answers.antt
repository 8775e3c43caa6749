use Rattle.std.proofs.Common.{◌<◌, length, sym, subst, arith}
use Rattle.gate_account.specs.Accounts.{IsBlocked}
use Rattle.input_gate.specs.States.{GateState, account_in, shows_of}
use Rattle.input_gate.proofs.RoundLaws.{kept_on}
use Rattle.input_gate.proofs.GateLaws.{cells_length}
use Rattle.input_gate.proofs.SegmentLaws.{lose_then, all_untouched}
use Rattle.input_gate.proofs.cell_gate.CellGateGate.resume.Goals as goal

pub resume_at-requires-clause-within : goal.resume_at-requires-clause-within
resume_at-requires-clause-within g c = subst (λ (gate : GateState). c.args.channel < length gate.lanes) (sym c.self.view_is) c.requires.within

pub resume_at-requires-clause-lanes : goal.resume_at-requires-clause-lanes
resume_at-requires-clause-lanes g c = (_, c.self.invariant.0.lanes_are)

pub resume_at-requires-clause-stopped : goal.resume_at-requires-clause-stopped
resume_at-requires-clause-stopped g c = subst (λ (gate : GateState). IsBlocked (account_in gate) c.args.channel) (sym c.self.view_is) c.requires.stopped

pub invariant_of-self : goal.invariant_of-self
invariant_of-self g c =
    let same = cells_length c.self.inside.lanes.items c.resume_at.new.lanes.items c.resume_at.ensures.cells in
    let few = c.self.invariant.0.few in
    let room = c.self.invariant.2 in (
      record {
        few = omega (arith, same, few);
        lanes_are = c.resume_at.ensures.lanes _ c.self.invariant.0.lanes_are;
        lender_is = c.self.invariant.0.lender_is;
        stop_is = c.self.invariant.0.stop_is;
        no_fault = c.self.invariant.0.no_fault;
        none_lost = lose_then _ _ _ c.self.inside.lanes.items c.resume_at.new.lanes.items c.self.invariant.0.none_lost (all_untouched c.self.inside.lanes.items c.resume_at.new.lanes.items c.resume_at.ensures.segments);
      },
      c.self.invariant.1,
      omega (arith, same, room),
      λ read. c.resume_at.ensures.spare (c.self.invariant.3 read),
    )

pub returns-clause-kept : goal.returns-clause-kept
returns-clause-kept g c at cut shown =
    kept_on c.self.inside.lanes.items c.resume_at.new.lanes.items c.resume_at.ensures.later at cut
    (subst (λ (gate : GateState). shows_of gate at cut) (sym c.self.view_is) shown)
