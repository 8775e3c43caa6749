use Rattle.std.proofs.Common.{Bool, false, [], ◌∙◌, ap, sym, arith}
use Rattle.snapshot_channel.specs.Passes.{sent_by}
use Rattle.snapshot_channel.specs.Snapshots.{has_ended}
use Rattle.source_task.proofs.Emitting.{was_same, not_due_now}
use Rattle.source_task.proofs.ReadingLemmas.{ended_before}
use Rattle.source_task.proofs.reading.emit_input.Goals as goal

pub returns-then-was_at_end-clause-ended : goal.returns-then-was_at_end-clause-ended
returns-then-was_at_end-clause-ended g c = λ job size emitted.
    let law = c.what_was_sent_was_begun.ensures in
    let out = c.args.output.now in
    let fell = g.S.Source.faults c.args.input.now in
    let same = c.end_source.ensures.same in
    ended_before law.sent law.finished job size fell fell (omega arith) c.end_source.new.output (g.S.Source.left c.args.input.now) c.end_source.result
    (was_same out c.end_source.new.output same.snapshots same.index ∙ sym c.requires.at_end ∙ c.if-was_at_end.true) (c.end_source.ensures.ended job size [] emitted)

pub emit_lines-requires : goal.emit_lines-requires
emit_lines-requires g c =
    let out = c.args.output.now in
    record {
      source = c.requires.source;
      not_ended = ap (λ (b : Bool). has_ended b (sent_by out.acks.pass)) (sym c.requires.at_end ∙ c.if-was_at_end.false) ∙ ap (has_ended false) c.requires.fresh;
      not_due = not_due_now out.every out.since c.requires.interval;
    }
