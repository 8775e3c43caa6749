use Rattle.source_task.specs.Emitting.{from_in}
use Rattle.source_task.proofs.Taking.{broken_at_end, ended_there}
use Rattle.source_task.proofs.output.SourceOutput.finish.Goals as goal

pub returns-clause-ended : goal.returns-clause-ended
returns-clause-ended g c = λ job size lines was.
    let out = c.args.self.now in
    ended_there job size out c.finish.new.self lines c.requires.source was c.requires.last c.requires.at_end (c.in-Ok.ensures.finished (from_in job out).emitted job 0 out.index size was.groups was.rest was.sent)

pub returns-in-Err-clause-ended : goal.returns-in-Err-clause-ended
returns-in-Err-clause-ended g c = λ job size lines was.
    let out = c.args.self.now in
    broken_at_end job size out c.finish.new.self lines c.requires.source was c.requires.last c.requires.at_end (c.in-Err.ensures.finished (from_in job out).emitted job 0 out.index size was.groups was.rest was.sent)
