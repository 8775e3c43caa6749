use Rattle.std.proofs.Common.{◌≡◌, ℕ, List, drop, ◌+◌, ◌%◌, ◌^◌}
use Rattle.std.specs.List.{sum_by}
use Rattle.flow_defs.specs.Rows.{row_pairs}
use Rattle.commands.specs.SelfRuns.{counted_in}
use Rattle.commands.proofs.selfrun.records_of.Given as goal

-- the count so far, and then that of the rows that are left
abbrev pub invariant-loop-row : goal.invariant-loop-row
invariant-loop-row l = (l.records + sum_by (λ (row : List ℕ × ℕ). row.1) (row_pairs (drop l.row-index l.row-items))) % 2 ^ 64 ≡ counted_in l.table
