use Rattle.std.proofs.Common.{◌≡◌, ◌+◌, ◌≤◌, ℕ, length, Some}
use Rattle.std.specs.Prelude.{slice_get}
use Rattle.job_deploy.specs.Lending.{AreTurned, IsSourceOver}
use Rattle.job_deploy.proofs.tasks.source_row.Given as goal

abbrev pub invariant-sources : goal.invariant-sources
invariant-sources g l = record {
  lents_many : length l.lents.items ≡ length l.inputs.items;
  lents : (a : ℕ) (x : _) → slice_get l.lents.items a ≡ Some x → slice_get l.initial.lents.items a ≡ Some x;
  inputs : (a : ℕ) (x : _) → slice_get l.inputs.items a ≡ Some x → slice_get l.initial.inputs.items a ≡ Some x;
  few : length l.inputs.items ≤ 8;
  inputs_room : length l.initial.inputs.items ≤ length l.inputs.items + l.inputs.room;
  row_many : length l.row.items + length l.inputs.items ≡ length l.initial.inputs.items;
  row : AreTurned (IsSourceOver l.initial.lents.items l.initial.inputs.items) (length l.initial.inputs.items) l.row.items;
  room : length l.inputs.items ≤ l.row.room;
}

abbrev pub decreases-sources : goal.decreases-sources
decreases-sources g l = length l.inputs.items
