use Rattle.std.proofs.Common.{◌≡◌, false, take, map}
use Rattle.std.specs.List.{list_any}
use Rattle.stage_fns.specs.Functions.{is_stage}
use Rattle.stage_fns.proofs.fn_table.FnTable.stage.Given as goal

abbrev pub invariant-loop-entry : goal.invariant-loop-entry
invariant-loop-entry g l =
    list_any (λ other. is_stage other l.kind) (map (λ entry_. entry_.kind) (take l.entry-index l.entry-items)) ≡ false
