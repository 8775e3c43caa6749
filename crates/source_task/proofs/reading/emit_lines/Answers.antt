use Rattle.std.proofs.Common.{arith, subst, sym, ◌∙◌, IfSome}
use Rattle.job_start.specs.Starts.{was_ended}
use Rattle.snapshot_channel.specs.Passes.{sent_by}
use Rattle.outside.specs.Told.{Reads}
use Rattle.outside.proofs.Faults.{risen_before}
use Rattle.source_task.specs.Emitting.{start_of}
use Rattle.source_task.specs.Sources.{SourceEnd}
use Rattle.source_task.proofs.Emitting.{same_twice, was_same, was_not}
use Rattle.source_task.proofs.ReadingLemmas.{risen_most, read_on, read_broke, read_ended, read_failed, read_much}
use Rattle.source_task.proofs.reading.emit_lines.Goals as goal

pub returns-in_default-clause-ended : goal.returns-in_default-clause-ended
returns-in_default-clause-ended g c = λ job size emitted.
    let v = c.reads.invariant in
    let law = c.what_was_sent_was_begun.ensures in
    let fell = g.S.Source.faults c.args.input.now in
    let rose = g.S.Source.faults c.read.new.self in
    let middle = g.S.Source.faults c.reads.input in
    read_failed law.sent law.finished job size fell rose (risen_most fell middle rose v.faults c.read.ensures.never_falls) (g.S.Source.left c.args.input.now) (g.S.Source.left c.reads.input) c.reads.taken c.reads.output c.args.output.now.index c.reads.lines.line.items
    v.same.index v.reading.not_ended (v.way job size emitted) (risen_before fell middle rose v.faults c.in_default.ensures.failed)

pub returns-then-count-eq0-clause-ended : goal.returns-then-count-eq0-clause-ended
returns-then-count-eq0-clause-ended g c = λ job size emitted.
    let v = c.reads.invariant in
    let law = c.what_was_sent_was_begun.ensures in
    let fell = g.S.Source.faults c.args.input.now in
    let rose = g.S.Source.faults c.read.new.self in
    let middle = g.S.Source.faults c.reads.input in
    let way = v.way job size emitted in
    let now = c.end_lines.ensures.same in
    let out = c.reads.output in
    read_ended law.sent law.finished job size fell rose (risen_most fell middle rose v.faults c.read.ensures.never_falls) (g.S.Source.left c.args.input.now) (g.S.Source.left c.reads.input) (g.S.Source.left c.read.new.self) c.reads.taken c.read.new.room
    c.reads.output c.end_lines.new.output c.reads.output.index c.reads.lines.line.items c.end_lines.result now.index (was_same out c.end_lines.new.output now.snapshots now.index ∙ was_not (was_ended (start_of out) out.index) (sent_by out.acks.pass) v.reading.not_ended)
    (subst (λ n. IfSome (g.S.Source.left c.reads.input) (λ bytes. Reads bytes n c.read.new.room (g.S.Source.left c.read.new.self))) c.if-count-eq0.true c.in-Ok.ensures.told) c.reads-test.true way
    (c.end_lines.ensures.ended job size way.0 way.1)

pub returns-in-Err-clause-ended : goal.returns-in-Err-clause-ended
returns-in-Err-clause-ended g c = λ job size emitted.
    let v = c.reads.invariant in
    let law = c.what_was_sent_was_begun.ensures in
    let fell = g.S.Source.faults c.args.input.now in
    let rose = g.S.Source.faults c.read.new.self in
    let middle = g.S.Source.faults c.reads.input in
    let way = v.way job size emitted in
    subst (SourceEnd job size c.feed.new.output (g.S.Source.left c.args.input.now) fell rose) (sym c.cause.ensures)
    (read_broke law.sent law.finished job size fell rose (risen_most fell middle rose v.faults c.read.ensures.never_falls) (g.S.Source.left c.args.input.now) (g.S.Source.left c.reads.input) (g.S.Source.left c.read.new.self) c.reads.taken c.in-Ok.count c.read.new.room c.in-Ok.ensures.told
    c.reads.output c.reads.lines.line.items way c.feed.new.output c.args.output.now.index c.in-Err.fault (c.feed.ensures.same.index ∙ v.same.index) (c.in-Err.ensures.fed job size way.0 way.1))

pub reads-preserved : goal.reads-preserved
reads-preserved g c =
    let v = c.reads.invariant in
    let law = c.what_was_sent_was_begun.ensures in
    let fell = g.S.Source.faults c.args.input.now in
    let rose = g.S.Source.faults c.read.new.self in
    let middle = g.S.Source.faults c.reads.input in
    let rises = risen_most fell middle rose v.faults c.read.ensures.never_falls in
    record {
      faults = rises;
      same = same_twice c.args.output.now c.reads.output c.feed.new.output v.same c.feed.ensures.same;
      reading = c.in-Ok-feed.ensures.reading;
      way = λ job size emitted.
          let way = v.way job size emitted in
          read_on law.sent law.finished job size fell rose rises (g.S.Source.left c.args.input.now) (g.S.Source.left c.reads.input) (g.S.Source.left c.read.new.self) c.reads.taken c.in-Ok.count c.read.new.room c.in-Ok.ensures.told
          c.reads.output c.reads.lines.line.items way c.feed.new.output c.feed.new.self.line.items (c.in-Ok-feed.ensures.fed job size way.0 way.1);
    }

pub returns-clause-ended : goal.returns-clause-ended
returns-clause-ended g c = λ job size emitted.
    let v = c.reads.invariant in
    let law = c.what_was_sent_was_begun.ensures in
    read_much law.sent law.finished job size (g.S.Source.faults c.args.input.now) (g.S.Source.faults c.reads.input) v.faults (g.S.Source.left c.args.input.now) (g.S.Source.left c.reads.input) c.reads.taken c.reads.output c.args.output.now.index c.reads.lines.line.items
    v.same.index v.reading.not_ended (v.way job size emitted) (omega (arith, c.reads-test.false))
