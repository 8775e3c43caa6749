use Rattle.std.proofs.Common.{rules, ◌∙◌, ap, sym}
use Rattle.std.specs.FinMap as map
use Rattle.std.proofs.lemmas.Fn.{always_returns_same}
use Rattle.flow_defs.proofs.TableLemmas.{order_at, get_of_rows, searched_found, searched_absent}
use Rattle.flow_defs.proofs.table.Table.get.Goals as goal

pub returns-in-Ok : goal.returns-in-Ok
returns-in-Ok c =
    let rows = c.self.inside.rows.items in
    let key = c.args.key.now in
    let here = c.in-Ok.ensures.position (order_at key) (always_returns_same _ _ _ (λ a r next called. (search rules, search rules))) in
    let found = searched_found rows c.deref.result.now key 0 c.self.invariant c.deref.ensures.value c.in-Ok.place c.index.result.now c.in-Ok.ensures.bound c.index.ensures here in
    sym (get_of_rows rows key c.self.invariant ∙ found.0) ∙ ap (λ t. map.get t key) c.self.view_is

pub returns-in-Err : goal.returns-in-Err
returns-in-Err c =
    let rows = c.self.inside.rows.items in
    let key = c.args.key.now in
    let around = c.in-Err.ensures.position (order_at key) (always_returns_same _ _ _ (λ a r next called. (search rules, search rules))) in
    let absent = searched_absent rows c.deref.result.now key 0 c.self.invariant c.deref.ensures.value c.in-Err.field-0 c.in-Err.ensures.bound around in
    sym (get_of_rows rows key c.self.invariant ∙ absent.0) ∙ ap (λ t. map.get t key) c.self.view_is
