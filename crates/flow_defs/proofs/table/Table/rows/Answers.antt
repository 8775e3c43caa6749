use Rattle.std.proofs.Common.{◌∙◌, ap, sym}
use Rattle.std.specs.FinMap.{entries}
use Rattle.flow_defs.specs.Rows.{row_pairs}
use Rattle.flow_defs.proofs.TableLemmas.{entries_of_rows}
use Rattle.flow_defs.proofs.table.Table.rows.Goals as goal

pub returns : goal.returns
returns c = ap row_pairs c.deref.ensures.value ∙ sym (entries_of_rows c.self.inside.rows.items c.self.invariant) ∙ ap entries c.self.view_is
