use Rattle.std.proofs.Common.{subst, sym}
use Rattle.std.specs.Prelude.{IfNone, IfSome}
use Rattle.collecting_worker.specs.Gathering.{IsInHand, IsOpen}
use Rattle.collecting_worker.proofs.Opens.{in_hand_if, in_hand_of, open_if_none}
use Rattle.collecting_worker.proofs.gathering.Gathering.next_snapshot.Goals as goal

pub returns-in-Some-clause-in_hand : goal.returns-in-Some-clause-in_hand
returns-in-Some-clause-in_hand g c = in_hand_of c.args.self.now c.take_numbered.new.ahead c.args.checkpoint c.in-Some.snapshot c.in-Some.ensures.some c.requires

pub returns-clause-in_hand : goal.returns-clause-in_hand
returns-clause-in_hand g c =
    let old = c.args.self.now in
    subst (λ v. IfSome c.receive.result (IsInHand c.args.checkpoint (record { collector = old.collector; channel = old.channel; pass = c.receive.new.pass; ahead = v }))) (sym c.in_default.ensures.none)
    (in_hand_if old c.receive.new.pass c.args.checkpoint c.receive.result c.receive.ensures.pass c.receive.ensures.received c.receive.ensures.next c.requires)

pub returns-clause-open : goal.returns-clause-open
returns-clause-open g c =
    let old = c.args.self.now in
    subst (λ v. IfNone c.receive.result (IsOpen c.args.checkpoint (record { collector = old.collector; channel = old.channel; pass = c.receive.new.pass; ahead = v }))) (sym c.in_default.ensures.none)
    (open_if_none old c.receive.new.pass c.args.checkpoint c.receive.result c.receive.ensures.pass c.receive.ensures.received c.requires)
