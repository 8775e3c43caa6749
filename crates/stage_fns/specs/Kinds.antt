-- What a contract sees of a table of functions.
use Rattle.std.specs.Prelude.{map}
use Rattle.stage_fns.specs.declared.fn_table.FnTable.{FnTable}
use Rattle.stage_fns.specs.Functions.{Functions}

-- The kinds that have a function in the table. What the braces bind is what the functions may be.
abbrev pub kinds : {S A F G f g : _} → FnTable S A F G f g → Functions
kinds table = record { stages = map (λ e. e.kind) table.stages.items; aggs = map (λ e. e.kind) table.aggs.items }
