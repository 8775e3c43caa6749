use Rattle.std.proofs.Common.{◌≡◌, length, Some, ap, sym, ◌∙◌}
use Rattle.std.specs.Prelude.{slice_get, slice_index_or}
use Rattle.std.proofs.lemmas.Option.{slice_get-get_or}
use Rattle.conn_harness.proofs.TaskLaws.{tasks_rest, task_last, within}
use Rattle.conn_harness.proofs.workers.lanes_of.Goals as goal

pub new-requires : goal.new-requires
new-requires c =
    let cells = c.args.cells.now in let all = c.passes.passes.items in let rest = c.pop.new.self.items in let last = c.in-Some.pass in
    let cell = c.index-cells-pool.result in
    let at : slice_get cells (length rest) ≡ Some cell =
    slice_get-get_or cells (length rest) cell (within cells all rest last c.in-Some.ensures.items c.passes.invariant)
    ∙ ap (λ l. Some (slice_index_or cells (length l) cell)) (sym c.as_slice-pool.ensures) ∙ ap Some (sym c.index-cells-pool.is) in
    task_last cells all rest last c.in-Some.ensures.items c.passes.invariant cell at

pub passes-preserved : goal.passes-preserved
passes-preserved c = tasks_rest c.args.cells.now c.passes.passes.items c.pop.new.self.items c.in-Some.pass c.in-Some.ensures.items c.passes.invariant
