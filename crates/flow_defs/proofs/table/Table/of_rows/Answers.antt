use Rattle.std.proofs.Common.{rules}
use Rattle.flow_defs.proofs.RowLemmas.{ascends_from_sort, sorted_by_keys, map_of_sorted}
use Rattle.flow_defs.proofs.table.Table.of_rows.Goals as goal

pub invariant_of-result : goal.invariant_of-result
invariant_of-result c =
    let sorted = c.sort_unstable_by.new.self.items in
    let ascends = ascends_from_sort sorted c.sort_unstable_by.ensures.sorted (λ a r next called. (search rules, search rules)) in
    sorted_by_keys c.args.rows.items sorted c.requires c.sort_unstable_by.ensures.permutation ascends

pub returns : goal.returns
returns c =
    let sorted = c.sort_unstable_by.new.self.items in
    let ascends = ascends_from_sort sorted c.sort_unstable_by.ensures.sorted (λ a r next called. (search rules, search rules)) in
    map_of_sorted c.args.rows.items sorted c.requires c.sort_unstable_by.ensures.permutation ascends
