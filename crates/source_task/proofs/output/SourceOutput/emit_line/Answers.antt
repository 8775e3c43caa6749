use Rattle.std.proofs.Common.{rules, ◌≡◌, ◌+◌, ◌-◌, ◌++◌, ◌∷◌, [], ℕ, Option, subst, sym, ◌∙◌, arith}
use Rattle.std.specs.Prelude.{◌<◌, IfSome}
use Rattle.source_task.specs.Emitting.{from_in}
use Rattle.source_task.proofs.OneLine.{line_left_out, source_left_out, line_emitted, line_source, line_stopped, before_line, behind_line}
use Rattle.source_task.proofs.output.SourceOutput.emit_line.Goals as goal

-- ---- a line that was read before the start

pub returns-then-self-gt0-clause-own : goal.returns-then-self-gt0-clause-own
returns-then-self-gt0-clause-own g c =
    let own = c.requires.reading.source.own in
    record { passes = own.passes; task = own.task; waited = own.waited }

pub returns-then-self-gt0-clause-reading : goal.returns-then-self-gt0-clause-reading
returns-then-self-gt0-clause-reading g c =
    let out = c.args.self.now in
    let one : out.skip ≡ (out.skip - 1) + 1 = omega (arith, c.if-self-gt0.true) in
    record {
      source = source_left_out out c.args.line.now (out.skip - 1) one c.requires.reading.source;
      not_ended = c.requires.reading.not_ended;
      not_due = c.requires.reading.not_due;
    }

pub returns-then-self-gt0-clause-emitted : goal.returns-then-self-gt0-clause-emitted
returns-then-self-gt0-clause-emitted g c = λ job size lines was.
    let out = c.args.self.now in
    let one : out.skip ≡ (out.skip - 1) + 1 = omega (arith, c.if-self-gt0.true) in
    line_left_out out c.args.line.now (out.skip - 1) one job size lines was

-- ---- one that comes behind those

pub returns-in_default-2-clause-emitted : goal.returns-in_default-2-clause-emitted
returns-in_default-2-clause-emitted g c = λ job size lines was. before_line c.what_was_sent_was_begun.ensures.sent job size c.args.self.now lines c.args.line.now c.requires.reading.not_ended was

pub returns-in-Err-clause-emitted : goal.returns-in-Err-clause-emitted
returns-in-Err-clause-emitted g c = λ job size lines was.
    let out = c.args.self.now in
    let none : out.skip ≡ 0 = omega (arith, c.if-self-gt0.false) in
    line_stopped out c.args.line.now c.requires.short c.requires.reading.not_ended none c.emit.new.self job size lines was (c.in-Err.ensures.emitted (from_in job out).emitted job 0 out.index size was.groups was.rest was.sent)

pub returns-in_default-every-clause-emitted : goal.returns-in_default-every-clause-emitted
returns-in_default-every-clause-emitted g c = λ job size lines was.
    let out = c.args.self.now in
    let none : out.skip ≡ 0 = omega (arith, c.if-self-gt0.false) in
    let one : c.in-Some-Some.offset ≡ out.offset + 1 = search rules in
    let one_since : c.in-Some-Some.since ≡ out.since + 1 = search rules in
    line_emitted out c.args.line.now c.requires.short c.requires.reading.not_ended none c.emit.new.self c.in-Some-Some.offset c.in-Some-Some.since one one_since job size lines was
    (c.in-Ok.ensures.emitted (from_in job out).emitted job 0 out.index size was.groups was.rest was.sent)

pub returns-then-since-interval-clause-emitted : goal.returns-then-since-interval-clause-emitted
returns-then-since-interval-clause-emitted g c = λ job size lines was.
    let out = c.args.self.now in
    let none : out.skip ≡ 0 = omega (arith, c.if-self-gt0.false) in
    let one : c.in-Some-Some.offset ≡ out.offset + 1 = search rules in
    let one_since : c.in-Some-Some.since ≡ out.since + 1 = search rules in
    line_emitted out c.args.line.now c.requires.short c.requires.reading.not_ended none c.emit.new.self c.in-Some-Some.offset c.in-Some-Some.since one one_since job size lines was
    (c.in-Ok.ensures.emitted (from_in job out).emitted job 0 out.index size was.groups was.rest was.sent)

pub take_checkpoint-requires-clause-source : goal.take_checkpoint-requires-clause-source
take_checkpoint-requires-clause-source g c =
    let out = c.args.self.now in
    let none : out.skip ≡ 0 = omega (arith, c.if-self-gt0.false) in
    let one : c.in-Some-Some.offset ≡ out.offset + 1 = search rules in
    let one_since : c.in-Some-Some.since ≡ out.since + 1 = search rules in
    let source = c.requires.reading.source in
    let was = source.emitted in
    line_source out c.args.line.now c.requires.short c.requires.reading.not_ended none c.emit.new.self c.in-Some-Some.offset c.in-Some-Some.since one one_since source
    (c.in-Ok.ensures.emitted (from_in source.job out).emitted source.job 0 out.index source.size was.groups was.rest was.sent)

pub returns-in_default-every-clause-reading : goal.returns-in_default-every-clause-reading
returns-in_default-every-clause-reading g c =
    let out = c.args.self.now in
    let none : out.skip ≡ 0 = omega (arith, c.if-self-gt0.false) in
    let one : c.in-Some-Some.offset ≡ out.offset + 1 = search rules in
    let one_since : c.in-Some-Some.since ≡ out.since + 1 = search rules in
    let source = c.requires.reading.source in
    let was = source.emitted in
    record {
      source = line_source out c.args.line.now c.requires.short c.requires.reading.not_ended none c.emit.new.self c.in-Some-Some.offset c.in-Some-Some.since one one_since source
          (c.in-Ok.ensures.emitted (from_in source.job out).emitted source.job 0 out.index source.size was.groups was.rest was.sent);
      not_ended = c.requires.reading.not_ended;
      not_due = search rules;
    }

pub returns-then-since-interval-clause-reading : goal.returns-then-since-interval-clause-reading
returns-then-since-interval-clause-reading g c =
    let out = c.args.self.now in
    let none : out.skip ≡ 0 = omega (arith, c.if-self-gt0.false) in
    let one : c.in-Some-Some.offset ≡ out.offset + 1 = search rules in
    let one_since : c.in-Some-Some.since ≡ out.since + 1 = search rules in
    let source = c.requires.reading.source in
    let was = source.emitted in
    record {
      source = line_source out c.args.line.now c.requires.short c.requires.reading.not_ended none c.emit.new.self c.in-Some-Some.offset c.in-Some-Some.since one one_since source
          (c.in-Ok.ensures.emitted (from_in source.job out).emitted source.job 0 out.index source.size was.groups was.rest was.sent);
      not_ended = c.requires.reading.not_ended;
      not_due = subst (λ (e : Option ℕ). IfSome e (λ interval. c.in-Some-Some.since < interval)) (sym c.in-Some.is) (omega (arith, c.if-since-interval.true));
    }

pub returns-in-Ok-take_checkpoint-clause-emitted : goal.returns-in-Ok-take_checkpoint-clause-emitted
returns-in-Ok-take_checkpoint-clause-emitted g c = λ job size lines was.
    let out = c.args.self.now in
    let none : out.skip ≡ 0 = omega (arith, c.if-self-gt0.false) in
    let one : c.in-Some-Some.offset ≡ out.offset + 1 = search rules in
    let one_since : c.in-Some-Some.since ≡ out.since + 1 = search rules in
    c.in-Ok-take_checkpoint.ensures.taken job size (lines ++ c.args.line.now ∷ [])
    (line_emitted out c.args.line.now c.requires.short c.requires.reading.not_ended none c.emit.new.self c.in-Some-Some.offset c.in-Some-Some.since one one_since job size lines was
    (c.in-Ok.ensures.emitted (from_in job out).emitted job 0 out.index size was.groups was.rest was.sent))

pub returns-in-Err-take_checkpoint-clause-emitted : goal.returns-in-Err-take_checkpoint-clause-emitted
returns-in-Err-take_checkpoint-clause-emitted g c = λ job size lines was.
    let out = c.args.self.now in
    let none : out.skip ≡ 0 = omega (arith, c.if-self-gt0.false) in
    let one : c.in-Some-Some.offset ≡ out.offset + 1 = search rules in
    let one_since : c.in-Some-Some.since ≡ out.since + 1 = search rules in
    behind_line job size c.take_checkpoint.new.self lines c.args.line.now c.requires.short (c.in-Err-take_checkpoint.ensures.kept ∙ c.requires.reading.not_ended) (c.in-Err-take_checkpoint.ensures.taken job size (lines ++ c.args.line.now ∷ [])
    (line_emitted out c.args.line.now c.requires.short c.requires.reading.not_ended none c.emit.new.self c.in-Some-Some.offset c.in-Some-Some.since one one_since job size lines was
    (c.in-Ok.ensures.emitted (from_in job out).emitted job 0 out.index size was.groups was.rest was.sent)))
