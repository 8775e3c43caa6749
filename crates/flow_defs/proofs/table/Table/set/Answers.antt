use Rattle.std.proofs.Common.{rules, ◌∙◌, ap, sym}
use Rattle.std.specs.FinMap as map
use Rattle.std.proofs.lemmas.Fn.{always_returns_same}
use Rattle.flow_defs.specs.Rows.{row_pairs}
use Rattle.flow_defs.proofs.TableLemmas.{order_at, searched_found, searched_absent, sorted_after, table_after}
use Rattle.flow_defs.proofs.table.Table.set.Goals as goal

pub invariant_of-self : goal.invariant_of-self
invariant_of-self c =
    let rows = c.self.inside.rows.items in
    let key = c.args.key.now in
    let here = c.in-Ok.ensures.position (order_at key) (always_returns_same _ _ _ (λ a r next called. (search rules, search rules))) in
    let found = searched_found rows c.deref.result.now key c.args.value c.self.invariant c.deref.ensures.value c.in-Ok.place c.index_mut.result.now c.in-Ok.ensures.bound c.index_mut.ensures.value here in
    sorted_after rows _ key c.args.value c.self.invariant found.1

pub returns-in-Ok-clause-ok : goal.returns-in-Ok-clause-ok
returns-in-Ok-clause-ok c =
    let rows = c.self.inside.rows.items in
    let key = c.args.key.now in
    let here = c.in-Ok.ensures.position (order_at key) (always_returns_same _ _ _ (λ a r next called. (search rules, search rules))) in
    let found = searched_found rows c.deref.result.now key c.args.value c.self.invariant c.deref.ensures.value c.in-Ok.place c.index_mut.result.now c.in-Ok.ensures.bound c.index_mut.ensures.value here in
    table_after rows _ key c.args.value c.self.invariant found.1 ∙ ap (λ t. map.insert t key c.args.value) c.self.view_is

pub invariant_of-self-in-Err : goal.invariant_of-self-in-Err
invariant_of-self-in-Err c =
    let rows = c.self.inside.rows.items in
    let key = c.args.key.now in
    let around = c.in-Err.ensures.position (order_at key) (always_returns_same _ _ _ (λ a r next called. (search rules, search rules))) in
    let absent = searched_absent rows c.deref.result.now key c.args.value c.self.invariant c.deref.ensures.value c.in-Err.place c.in-Err.ensures.bound around in
    rw c.in_ok-insert-in-Err.ensures.items (sorted_after rows _ key c.args.value c.self.invariant (absent.1 _ (ap (λ k. (k, c.args.value)) c.in_ok-key-in-Err.ensures)))

pub returns-in_ok-insert-in-Err-clause-ok : goal.returns-in_ok-insert-in-Err-clause-ok
returns-in_ok-insert-in-Err-clause-ok c =
    let rows = c.self.inside.rows.items in
    let key = c.args.key.now in
    let around = c.in-Err.ensures.position (order_at key) (always_returns_same _ _ _ (λ a r next called. (search rules, search rules))) in
    let absent = searched_absent rows c.deref.result.now key c.args.value c.self.invariant c.deref.ensures.value c.in-Err.place c.in-Err.ensures.bound around in
    table_after rows c.insert.new.self.items key c.args.value c.self.invariant (absent.1 _ (ap (λ k. (k, c.args.value)) c.in_ok-key-in-Err.ensures) ∙ ap row_pairs (sym c.in_ok-insert-in-Err.ensures.items))
    ∙ ap (λ t. map.insert t key c.args.value) c.self.view_is
