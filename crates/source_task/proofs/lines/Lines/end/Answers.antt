use Rattle.std.proofs.Common.{◌<◌, length, arith}
use Rattle.std.proofs.lemmas.Bool.Decides.{nat_tests}
use Rattle.source_task.proofs.CuttingLemmas.{ended_lines}
use Rattle.source_task.proofs.lines.Lines.end.Goals as goal

pub returns-clause-ended : goal.returns-clause-ended
returns-clause-ended g c = λ job size ended way.
    let some : 0 < length c.args.self.now.line.items = grind (arith, nat_tests) in
    ended_lines job size c.args.output.now c.put_line.new.output ended c.args.self.now.line.items c.put_line.result way some c.put_line.ensures.short c.put_line.ensures.fault (c.put_line.ensures.emitted job size ended way.emitted)
