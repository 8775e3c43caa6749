use Rattle.std.proofs.Common.{rules, ◌≡◌, ◌<◌, [], sym, ◌∙◌}
use Rattle.turn_cell.specs.History.{by, entries_of}
use Rattle.turn_cell.specs.Passes.{number, seen, mine}
use Rattle.outside.proofs.LastImages.{collected, others}
use Rattle.outside.proofs.last_image.look_for_stored.Goals as goal

pub returns-clause-collected : goal.returns-clause-collected
returns-clause-collected g c =
    let pass = c.enter-turn.result.pass.now in
    let all : by 0 (seen pass) ≡ entries_of (seen pass) = collected (seen pass) c.enter-turn.ensures.state.0.legal in
    search (rules, all)

pub returns-clause-reader : goal.returns-clause-reader
returns-clause-reader g c above =
    let pass = c.enter-turn.result.pass.now in
    let same : number pass ≡ number c.args.pass.now = search rules in
    let number_above : 0 < number pass = search rules in
    let none : by (number pass) (seen pass) ≡ [] = others (seen pass) (number pass) c.enter-turn.ensures.state.0.legal number_above in
    let own : by (number pass) (seen pass) ≡ mine pass = search rules in
    let nothing : mine pass ≡ [] = sym own ∙ none in
    search (rules, nothing)
