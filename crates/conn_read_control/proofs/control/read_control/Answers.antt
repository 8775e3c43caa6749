use Rattle.std.proofs.Common.{◌≡◌, [], sym, subst, ◌∙◌}
use Rattle.std.proofs.lemmas.Option.{same_Some}
use Rattle.turn_cell.specs.Passes.{mine}
use Rattle.reader_state.specs.Turning.{ReaderPass}
use Rattle.conn_read_control.proofs.Accounting.{accounted}
use Rattle.conn_read_control.proofs.control.read_control.Goals as goal

pub returns-clause-account : goal.returns-clause-account
returns-clause-account g c =
    let link = g.I.LinkIn in let first = c.args.input in let read = c.read_frames-met in let end = c.finish-cause in let readers = c.in-Some.reader_pass in
    let new : mine readers ≡ [] =
    subst (λ (p : ReaderPass). mine p ≡ []) (sym (same_Some readers c.requires.reader_pass (sym c.in-Some.is ∙ c.requires.readers))) c.requires.new in
    accounted c.args.share readers read.new.passes end.new.pass (link.got first) (link.got read.new.input) (link.got end.new.input)
    (link.ended first) (link.ended read.new.input) (link.ended end.new.input) (link.faults first) (link.faults read.new.input) (link.faults end.new.input)
    read.result end.result new read.ensures.ended read.ensures.never_falls end.ensures.came end.ensures.never_falls end.ensures.finished
