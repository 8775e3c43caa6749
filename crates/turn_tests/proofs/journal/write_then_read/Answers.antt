use Rattle.std.proofs.Common.{eqb, ap, ◌∙◌}
use Rattle.std.specs.List.{list_any}
use Rattle.turn_cell.specs.Passes.{mine, number, seen}
use Rattle.turn_tests.proofs.Journals.{shown, wrote}
use Rattle.turn_tests.proofs.journal.write_then_read.Goals as goal

pub shows-requires-clause-seen : goal.shows-requires-clause-seen
shows-requires-clause-seen g c = let v = c.args.value in let pass = c.write.new.pass in
    let own = ap (list_any (λ e. eqb e.value v)) (c.write.ensures.pass.0.0.5 ∙ c.in-Ok.ensures.written) ∙ wrote v (mine c.args.pass.now) in
    shown v (number pass) (seen pass) own
