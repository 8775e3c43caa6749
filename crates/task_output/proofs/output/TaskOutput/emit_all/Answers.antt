use Rattle.std.proofs.Common.{◌+◌, ◌++◌, ◌∷◌, [], ℕ, List, take, drop, ap, sym, subst, ◌∙◌, append_assoc}
use Rattle.std.proofs.lemmas.List.{take_all}
use Rattle.flow_defs.specs.Records.{IsShort}
use Rattle.task_output.specs.Outputs.{HasSent, HasStopped, bytes_of}
use Rattle.task_output.proofs.Sending.{same_twice, short_at, front_more, front_parts}
use Rattle.task_output.proofs.output.TaskOutput.emit_all.Goals as goal

pub emit-requires-clause-short : goal.emit-requires-clause-short
emit-requires-clause-short g c = subst IsShort (sym c.as_slice.ensures) (short_at IsShort c.args.lines.now c.loop-line.line-index c.line-item.result c.requires.short c.loop-line-test.true c.line-item.is)

pub returns-in-Err-clause-emitted : goal.returns-in-Err-clause-emitted
returns-in-Err-clause-emitted g c = λ from job e a size groups records was.
    let xs = c.args.lines.now in
    let i = c.loop-line.line-index in
    let x = c.line-item.result in
    record {
      done = bytes_of (take i xs);
      begun = x.items ∷ [];
      rest = bytes_of (drop (i + 1) xs);
      parts = front_parts xs i x c.loop-line-test.true c.line-item.is;
      stopped = subst (λ (l : List ℕ). HasStopped from job e a size c.emit.new.self groups (records ++ bytes_of (take i xs)) (l ∷ []) ⊥ ⊥) c.as_slice.ensures
          (c.in-Err.ensures.emitted from job e a size groups (records ++ bytes_of (take i xs)) (c.loop-line.invariant.sent from job e a size groups records was));
    }

pub loop-line-preserved : goal.loop-line-preserved
loop-line-preserved g c =
    let xs = c.args.lines.now in
    let i = c.loop-line.line-index in
    let x = c.line-item.result in
    record {
      same = same_twice c.args.self.now.writer c.loop-line.self.writer c.emit.new.self.writer c.loop-line.invariant.same c.emit.ensures.same;
      is_open = c.in-Ok.ensures.is_open;
      sent = λ from job e a size groups records was.
          subst (HasSent from job e a size c.emit.new.self groups)
          (ap (λ (l : List ℕ). (records ++ bytes_of (take i xs)) ++ l ∷ []) c.as_slice.ensures ∙ append_assoc records (bytes_of (take i xs)) (x.items ∷ []) ∙ ap (λ l. records ++ l) (sym (front_more xs i x c.loop-line-test.true c.line-item.is)))
          (c.in-Ok.ensures.emitted from job e a size groups (records ++ bytes_of (take i xs)) (c.loop-line.invariant.sent from job e a size groups records was));
    }

pub returns-clause-emitted : goal.returns-clause-emitted
returns-clause-emitted g c = λ from job e a size groups records was.
    subst (λ l. HasSent from job e a size c.loop-line.self groups (records ++ bytes_of l)) (take_all c.loop-line.line-index c.args.lines.now c.loop-line-test.false) (c.loop-line.invariant.sent from job e a size groups records was)
