use Rattle.std.proofs.Common.{refl, inl, [], arith}
use Rattle.flow_defs.specs.declared.cause.Cause.TheVariants.{Memory}
use Rattle.conn_parts.proofs.Telling.{appended_none}
use Rattle.conn_read_items.proofs.Asking.{for_none}
use Rattle.conn_read_items.proofs.EndLaws.{nothing_same}
use Rattle.conn_read_items.proofs.RoundLaws.{went_nowhere, read_to_end}
use Rattle.conn_read_items.proofs.receive.read_messages.Goals as goal

pub returns-in-Err-clause-account : goal.returns-in-Err-clause-account
returns-in-Err-clause-account g c =
    let passes = c.args.passes.now in let got = g.I.LinkIn.got c.args.input.now in let ended = g.I.LinkIn.ended c.args.input.now in let faults = g.I.LinkIn.faults c.args.input.now in
    read_to_end c.args.cells.now passes passes _ got got got ended ended ended [] faults faults faults Memory
    (went_nowhere c.args.cells.now.channels.now passes.inputs.items got [] refl) refl (omega arith) (appended_none got)
    (nothing_same passes.inputs.items passes.inputs.items Memory refl) (inl tt)

pub returns-in-Err-clause-asked : goal.returns-in-Err-clause-asked
returns-in-Err-clause-asked g c = λ task. for_none c.args.cells.now.channels.now task c.args.passes.now _ refl refl
