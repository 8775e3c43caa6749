use Rattle.std.proofs.Common.{◌≡◌, ◌++◌, ◌∷◌, [], length, ap, sym, subst, arith}
use Rattle.std.proofs.lemmas.Bool.Decides.{nat_tests}
use Rattle.source_task.specs.Emitting.{HasEmitted, BrokeAmong}
use Rattle.source_task.proofs.CuttingLemmas.{none_is}
use Rattle.source_task.proofs.OneLine.{before_line}
use Rattle.source_task.proofs.lines.Lines.end_line.Goals as goal

pub returns-in-Err-clause-emitted : goal.returns-in-Err-clause-emitted
returns-in-Err-clause-emitted g c = λ job size ended was. before_line c.what_was_sent_was_begun.ensures.sent job size c.args.output.now ended (c.args.self.now.line.items ++ c.args.bytes.now) c.requires.not_ended was

pub returns-then-bytes-gt-RECORD_MAX-clause-emitted : goal.returns-then-bytes-gt-RECORD_MAX-clause-emitted
returns-then-bytes-gt-RECORD_MAX-clause-emitted g c = λ job size ended was. before_line c.what_was_sent_was_begun.ensures.sent job size c.args.output.now ended (c.args.self.now.line.items ++ c.args.bytes.now) c.requires.not_ended was

-- ---- the line lies in a single piece

pub returns-in-Ok-emit_line-clause-emitted : goal.returns-in-Ok-emit_line-clause-emitted
returns-in-Ok-emit_line-clause-emitted g c = λ job size ended was.
    let none : length c.args.self.now.line.items ≡ 0 = grind (arith, nat_tests) in
    let whole = ap (λ l. l ++ c.args.bytes.now) (sym (none_is c.args.self.now.line.items none)) in
    subst (λ l. HasEmitted job size c.emit_line.new.self (ended ++ l ∷ [])) whole (c.in-Ok-emit_line.ensures.emitted job size ended was)

pub returns-in-Err-emit_line-clause-emitted : goal.returns-in-Err-emit_line-clause-emitted
returns-in-Err-emit_line-clause-emitted g c = λ job size ended was.
    let none : length c.args.self.now.line.items ≡ 0 = grind (arith, nat_tests) in
    let whole = ap (λ l. l ++ c.args.bytes.now) (sym (none_is c.args.self.now.line.items none)) in
    subst (λ l. BrokeAmong job size c.emit_line.new.self ended (l ∷ [])) whole (c.in-Err-emit_line.ensures.emitted job size ended was)
