use Rattle.source_task.proofs.output.SourceOutput.end.Goals as goal

pub returns-then-last-clause-ended : goal.returns-then-last-clause-ended
returns-then-last-clause-ended g c = λ job size lines was. c.finish.ensures.ended job size lines (c.in-Ok.ensures.taken job size lines (c.loop-checkpoint.invariant.emitted job size lines was))
