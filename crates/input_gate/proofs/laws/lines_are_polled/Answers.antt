use Rattle.std.proofs.Common.{◌≡◌, ℕ, ◌++◌, true, subst}
use Rattle.std.specs.List.{AllByRecursion}
use Rattle.flow_defs.specs.Parcels.{data_of, has_end}
use Rattle.flow_defs.specs.Records.{all_encoded, IsShort}
use Rattle.input_gate.specs.Lanes.{lent_size}
use Rattle.input_gate.specs.States.{GateState, account_in, given_at}
use Rattle.input_gate.proofs.GateLaws.{bytes_at, ends_of, short_at}
use Rattle.input_gate.proofs.laws.lines_are_polled.Goals as goal

pub returns : goal.returns
returns c =
    let size = lent_size c.gate.inside.lender in let lanes = c.gate.inside.lanes.items in let are = c.gate.invariant.0.lanes_are in
    record {
      bytes = subst (λ (gate : GateState). (c : ℕ) → data_of (given_at gate c) ≡ all_encoded ((account_in gate).lines c) ++ (account_in gate).left c) c.gate.view_is (bytes_at size lanes are);
      ends = subst (λ (gate : GateState). (c : ℕ) → (account_in gate).ended c ≡ true → has_end (given_at gate c) ≡ true) c.gate.view_is (ends_of size lanes are);
      short = subst (λ (gate : GateState). (c : ℕ) → AllByRecursion IsShort ((account_in gate).lines c)) c.gate.view_is (short_at size lanes are);
    }
