use Rattle.std.proofs.Common.{arith}
use Rattle.conn_read_items.proofs.AccountLaws.{items_account}
use Rattle.conn_read_items.proofs.receive.read_items.Goals as goal

pub returns-clause-account : goal.returns-clause-account
returns-clause-account g c =
    let messages = c.read_messages-cause.ensures in let rest = c.read_rest.ensures in let middle = c.read_messages-cause.new.input in
    items_account c.args.share c.read_messages-cause.new.passes (g.I.LinkIn.got c.args.input) (g.I.LinkIn.got middle) (g.I.LinkIn.got c.read_rest.new.input)
    (g.I.LinkIn.ended c.args.input) (g.I.LinkIn.ended middle) (g.I.LinkIn.ended c.read_rest.new.input)
    (g.I.LinkIn.faults c.args.input) (g.I.LinkIn.faults middle) (g.I.LinkIn.faults c.read_rest.new.input) c.read_messages-cause.result
    messages.account rest.came rest.never_falls rest.cut (omega (arith, messages.never_falls, rest.never_falls))
