use Rattle.std.proofs.Common.{◌≡◌, ◌++◌, ℕ, List, ap, sym, subst, ◌∙◌}
use Rattle.std.specs.List.{AllByRecursion}
use Rattle.flow_defs.specs.Items.{Items}
use Rattle.flow_defs.specs.Records.{IsShort}
use Rattle.flow_defs.specs.Stages.{apply}
use Rattle.task_output.specs.Outputs.{HasSent, bytes_of}
use Rattle.stage_task.proofs.Records.{all_short, emitted_among, emitted_none}
use Rattle.stage_task.proofs.applying.apply_one.Goals as goal

pub emit_all-requires-clause-short : goal.emit_all-requires-clause-short
emit_all-requires-clause-short g c =
    let r = c.args.line.now in
    let given_is : bytes_of c.as_slice.result.now ≡ apply c.args.stage.now r = ap bytes_of c.as_slice.ensures ∙ c.in-Ok.ensures ∙ ap (λ (l : List (Items ℕ)). bytes_of l ++ apply c.args.stage.now r) c.clear.ensures.items in
    subst (AllByRecursion IsShort) (sym given_is) (all_short r (apply c.args.stage.now r) c.requires.short (c.no_stage_lengthens.ensures.short c.args.stage.now r))

pub returns-clause-emitted : goal.returns-clause-emitted
returns-clause-emitted g c = λ from job e a size groups records was.
    let r = c.args.line.now in
    let given_is : bytes_of c.as_slice.result.now ≡ apply c.args.stage.now r = ap bytes_of c.as_slice.ensures ∙ c.in-Ok.ensures ∙ ap (λ (l : List (Items ℕ)). bytes_of l ++ apply c.args.stage.now r) c.clear.ensures.items in
    subst (λ l. HasSent from job e a size c.emit_all.new.self groups (records ++ l)) given_is (c.in-Ok-emit_all.ensures.emitted from job e a size groups records was)

pub returns-in-Err-clause-emitted : goal.returns-in-Err-clause-emitted
returns-in-Err-clause-emitted g c = λ from job e a size groups records was.
    emitted_none c.what_was_sent_was_begun.ensures.sent from job e a size c.args.output.now groups records (apply c.args.stage.now c.args.line.now) was

pub returns-in-Err-emit_all-clause-emitted : goal.returns-in-Err-emit_all-clause-emitted
returns-in-Err-emit_all-clause-emitted g c = λ from job e a size groups records was.
    let r = c.args.line.now in
    let given_is : bytes_of c.as_slice.result.now ≡ apply c.args.stage.now r = ap bytes_of c.as_slice.ensures ∙ c.in-Ok.ensures ∙ ap (λ (l : List (Items ℕ)). bytes_of l ++ apply c.args.stage.now r) c.clear.ensures.items in
    emitted_among from job e a size c.emit_all.new.self groups records (apply c.args.stage.now r) (bytes_of c.as_slice.result.now) given_is (c.in-Err-emit_all.ensures.emitted from job e a size groups records was)
