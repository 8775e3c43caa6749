use Rattle.std.proofs.Common.{◌++◌, ◌∷◌, [], ℕ, List, refl, sym, ap, subst, ◌∙◌, append_assoc, append-nil}
use Rattle.std.specs.List.{AllByRecursion}
use Rattle.flow_defs.specs.Lines.{lines}
use Rattle.flow_defs.specs.Records.{IsShort}
use Rattle.job_plan.specs.Begun.{IsBegun}
use Rattle.job_plan.proofs.LinesLemmas.{none_begun, ends}
use Rattle.source_task.specs.Emitting.{HasEmitted}
use Rattle.source_task.specs.Cutting.{IsSourceUnderWay}
use Rattle.source_task.proofs.Emitting.{same_itself, same_twice}
use Rattle.source_task.proofs.CuttingLemmas.{all-append, broke_at, line_fault, fed_rest}
use Rattle.source_task.proofs.lines.Lines.feed.Goals as goal

pub lines-init : goal.lines-init
lines-init g c = record {
  same = same_itself c.args.output.now;
  reading = c.requires;
  cut = λ job size ended way. ([], subst (IsSourceUnderWay job size c.args.output.now c.args.self.now.line.items) (sym (append-nil ended)) way, λ more. refl);
}

pub lines-preserved : goal.lines-preserved
lines-preserved g c =
    let line : List ℕ = c.lines.self.line.items ++ c.in-Some.first.now in
    record {
      same = same_twice c.args.output.now c.lines.output c.end_line.new.output c.lines.invariant.same c.end_line.ensures.same;
      reading = c.in-Ok.ensures.reading;
      cut = λ job size ended way.
          let so_far = c.lines.invariant.cut job size ended way in (
            so_far.0 ++ line ∷ [],
            record {
              begun = subst IsBegun (sym c.in-Ok.ensures.line) none_begun;
              short = subst (AllByRecursion IsShort) (append_assoc ended so_far.0 (line ∷ [])) (all-append IsShort (ended ++ so_far.0) (line ∷ []) so_far.1.short (c.in-Ok.ensures.short, tt));
              emitted = subst (HasEmitted job size c.end_line.new.output) (append_assoc ended so_far.0 (line ∷ [])) (c.in-Ok.ensures.emitted job size (ended ++ so_far.0) so_far.1.emitted);
            },
            λ more. so_far.2 more
                ∙ ap (λ l. so_far.0 ++ l) (ends c.lines.self.line.items so_far.1.begun c.lines.rest.now c.in-Some.first.now c.in-Some.after.now c.in-Some.ensures.line more)
                ∙ sym (append_assoc so_far.0 (line ∷ []) (lines (c.in-Some.after.now ++ more)))
                ∙ ap (λ (l : List ℕ). (so_far.0 ++ line ∷ []) ++ lines (l ++ (c.in-Some.after.now ++ more))) (sym c.in-Ok.ensures.line),
          );
    }

pub returns-in-Err-clause-fed : goal.returns-in-Err-clause-fed
returns-in-Err-clause-fed g c = λ job size ended way more.
    let so_far = c.lines.invariant.cut job size ended way in
    let text : List ℕ = c.args.self.now.line.items ++ (c.args.bytes.now ++ more) in
    let line : List ℕ = c.lines.self.line.items ++ c.in-Some.first.now in
    let tail = lines (c.in-Some.after.now ++ more) in
    let text_is = so_far.2 more ∙ ap (λ l. so_far.0 ++ l) (ends c.lines.self.line.items so_far.1.begun c.lines.rest.now c.in-Some.first.now c.in-Some.after.now c.in-Some.ensures.line more) in
    broke_at job size c.end_line.new.output ended text so_far.0 tail line c.in-Err.fault so_far.1.short text_is
    (c.in-Err.ensures.emitted job size (ended ++ so_far.0) so_far.1.emitted)
    (line_fault job size c.end_line.new.output ended text so_far.0 tail line c.in-Err.fault text_is (λ is. c.in-Err.ensures.too_long (cc)) (λ is. c.in-Err.ensures.stopped (cc)))

pub returns-clause-fed : goal.returns-clause-fed
returns-clause-fed g c = λ job size ended way.
    let so_far = c.lines.invariant.cut job size ended way in
    fed_rest c.what_was_sent_was_begun.ensures.sent job size c.lines.output c.lines.invariant.reading.not_ended ended so_far.0 c.args.self.now.line.items c.args.bytes.now c.lines.self.line.items c.lines.rest.now c.begin_line.new.self.line.items c.begin_line.result so_far.1 so_far.2 c.in_default.ensures.none c.begin_line.ensures.line c.begin_line.ensures.too_long c.begin_line.ensures.not_stopped
