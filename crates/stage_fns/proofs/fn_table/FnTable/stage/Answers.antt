use Rattle.std.proofs.Common.{refl, sym, ap, ◌∙◌}
use Rattle.stage_fns.specs.Functions.{is_stage}
use Rattle.stage_fns.proofs.Search.{found_at}
use Rattle.stage_fns.proofs.fn_table.FnTable.stage.Goals as goal

pub returns-then-is_same_stage-clause-found : goal.returns-then-is_same_stage-clause-found
returns-then-is_same_stage-clause-found g c =
    let here = sym c.is_same_stage.ensures ∙ c.if-is_same_stage.true in
    let found = found_at (λ other. is_stage other c.args.kind) (λ entry_. entry_.kind) c.deref-entry-items.result.now c.loop-entry.entry-index c.entry-item.result c.loop-entry-test.true
    (ap (λ entry_. is_stage entry_.kind c.args.kind) (sym c.entry-item.is) ∙ here) in
    (λ _. rw (sym c.deref-entry-items.ensures.value) found, λ _. refl)
