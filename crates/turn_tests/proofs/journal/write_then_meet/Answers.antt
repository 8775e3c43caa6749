use Rattle.std.proofs.Common.{eqb, ap, ◌∙◌}
use Rattle.std.specs.List.{list_any}
use Rattle.turn_cell.specs.Passes.{mine, number, seen}
use Rattle.turn_tests.specs.Journals.{values}
use Rattle.turn_tests.proofs.Journals.{shown, wrote, kept}
use Rattle.turn_tests.proofs.journal.write_then_meet.Goals as goal

pub shows-requires-clause-seen : goal.shows-requires-clause-seen
shows-requires-clause-seen g c = let v = c.args.value in let writer = c.write.new.pass in let met = c.meet.ensures in
    let own = ap (list_any (λ e. eqb e.value v)) (c.write.ensures.pass.0.0.5 ∙ c.in-Ok.ensures.written) ∙ wrote v (mine c.args.writer.now) in
    ap (λ l. list_any (λ y. eqb y v) (values l)) met.one ∙ kept v (seen c.meet.new.a) (seen writer) met.begins.0 (shown v (number writer) (seen writer) own)
