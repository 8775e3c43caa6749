use Rattle.std.proofs.Common.{◌≡◌, ◌+◌, ◌<◌, List, length, drop, get_or, Some, arith, ap, sym, ◌∙◌}
use Rattle.std.proofs.lemmas.List.{drop_more, drop_all}
use Rattle.reader_state.specs.declared.state.Early.{Early}
use Rattle.reader_state.specs.Ledgers.{Ledger}
use Rattle.reader_state.specs.Settling.{overdue_of, or_else, first_overdue}
use Rattle.reader_state.proofs.Placing.{no_early}
use Rattle.reader_state.proofs.state.ReaderState.overdue.Goals as goal

pub returns-in-Some : goal.returns-in-Some
returns-in-Some c =
    let xs = c.as_slice-kept.result.now in let i = c.loop-early.early-index in
    sym (ap (λ o. or_else o (first_overdue (drop (i + 1) xs))) (sym c.overdue_of.ensures ∙ c.in-Some.is)) ∙ sym (ap first_overdue (drop_more xs i no_early (omega arith))) ∙ c.loop-early.invariant
    ∙ ap first_overdue c.as_slice-kept.ensures ∙ ap (λ (l : Ledger). first_overdue l.early) c.self.view_is

pub loop-early-preserved : goal.loop-early-preserved
loop-early-preserved c =
    let xs = c.as_slice-kept.result.now in let i = c.loop-early.early-index in
    sym (ap (λ o. or_else o (first_overdue (drop (i + 1) xs))) (sym c.overdue_of.ensures ∙ c.in_default.is)) ∙ sym (ap first_overdue (drop_more xs i no_early (omega arith))) ∙ c.loop-early.invariant

pub returns : goal.returns
returns c =
    let xs = c.as_slice-kept.result.now in
    sym (ap first_overdue (drop_all c.loop-early.early-index xs (omega arith))) ∙ c.loop-early.invariant ∙ ap first_overdue c.as_slice-kept.ensures ∙ ap (λ (l : Ledger). first_overdue l.early) c.self.view_is
