use Rattle.std.proofs.Common.{[], ◌++◌, inl, inr}
use Rattle.flow_defs.specs.Lines.{lines}
use Rattle.source_task.proofs.Emitting.{may_end_now}
use Rattle.source_task.proofs.reading.end_lines.Goals as goal

pub returns-in-Err-clause-ended : goal.returns-in-Err-clause-ended
returns-in-Err-clause-ended g c = λ job size ended way. inr (c.in-Err.fault, c.cause.ensures, c.in-Err.ensures.ended job size ended way)

pub end_source-requires-clause-interval : goal.end_source-requires-clause-interval
end_source-requires-clause-interval g c = may_end_now c.end.new.output.every c.end.new.output.since c.in-Ok.ensures.reading.not_due

pub returns-clause-ended : goal.returns-clause-ended
returns-clause-ended g c = λ job size ended way.
    let last = c.in-Ok.ensures.ended job size ended way in
    inl (last.short, c.end_source.ensures.ended job size (ended ++ lines (c.args.lines.now.line.items ++ [])) last.emitted)
