use Rattle.std.proofs.Common.{eqb, ap, ◌∙◌}
use Rattle.std.specs.List.{list_any}
use Rattle.turn_cell.specs.Passes.{seen}
use Rattle.turn_tests.proofs.Journals.{kept}
use Rattle.turn_tests.proofs.journal.shows.Goals as goal

pub returns-clause-shown : goal.returns-clause-shown
returns-clause-shown g c = let v = c.args.value in let entered = c.enter-turn.ensures in let pass = c.enter-turn.result.pass.now in
    let items = c.as_slice.ensures ∙ (ap (λ j. j.items.items) c.state.ensures.value ∙ entered.state.0) in
    c.contains-shown.ensures.value ∙ (ap (list_any (λ y. eqb y v)) items ∙ kept v (seen pass) (seen c.args.pass.now) entered.seen c.requires.seen)
