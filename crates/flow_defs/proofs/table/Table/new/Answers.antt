use Rattle.std.proofs.Common.{◌∙◌, ap}
use Rattle.std.specs.FinMap.{from_sorted}
use Rattle.flow_defs.specs.Tables.{key_cmp}
use Rattle.flow_defs.specs.Rows.{row_pairs}
use Rattle.flow_defs.proofs.TableLemmas.{no_rows}
use Rattle.flow_defs.proofs.table.Table.new.Goals as goal

pub returns : goal.returns
returns c = ap (λ rows. from_sorted {R = key_cmp} (row_pairs rows)) c.new.ensures.items ∙ no_rows
