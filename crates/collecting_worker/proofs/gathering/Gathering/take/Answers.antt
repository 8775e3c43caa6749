use Rattle.std.proofs.Common.{◌≡◌, rules, arith}
use Rattle.collecting_worker.proofs.Opens.{due, open_waiting, open_if_more, complete_if, between_if}
use Rattle.collecting_worker.proofs.gathering.Gathering.take.Goals as goal

pub ack-requires-clause-due : goal.ack-requires-clause-due
ack-requires-clause-due c =
    let at : c.args.snapshot.number ≡ c.args.checkpoint.number = search (rules, arith) in
    due c.args.self.now c.args.checkpoint c.args.snapshot c.requires at

pub returns-in-Ok-ack-clause-open : goal.returns-in-Ok-ack-clause-open
returns-in-Ok-ack-clause-open c =
    let at : c.args.snapshot.number ≡ c.args.checkpoint.number = search (rules, arith) in
    open_if_more c.args.self.now c.args.checkpoint c.args.snapshot c.requires at c.ack.new.self c.ack.ensures.collector c.ack.ensures.job c.in-Ok-ack.made c.in-Ok-ack.ensures.none

pub returns-in-Ok-ack-clause-between : goal.returns-in-Ok-ack-clause-between
returns-in-Ok-ack-clause-between c =
    let at : c.args.snapshot.number ≡ c.args.checkpoint.number = search (rules, arith) in
    between_if c.args.self.now c.args.checkpoint c.args.snapshot c.requires at c.ack.new.self c.ack.ensures.collector c.ack.ensures.job c.in-Ok-ack.made c.in-Ok-ack.ensures.some

pub returns-in-Ok-ack-clause-complete : goal.returns-in-Ok-ack-clause-complete
returns-in-Ok-ack-clause-complete c =
    let at : c.args.snapshot.number ≡ c.args.checkpoint.number = search (rules, arith) in
    complete_if c.args.self.now c.args.checkpoint c.args.snapshot c.requires at c.ack.new.self c.ack.ensures.collector c.ack.ensures.job c.in-Ok-ack.made c.in-Ok-ack.ensures.some

pub returns-then-snapshot-checkpoint-clause-open : goal.returns-then-snapshot-checkpoint-clause-open
returns-then-snapshot-checkpoint-clause-open c =
    open_waiting c.args.self.now c.push.new.self c.args.checkpoint c.args.snapshot (search (rules, arith)) c.in-Ok.ensures.items c.requires
