use Rattle.std.proofs.Common.{◌≡◌, ◌+◌, ◌≤◌, ℕ, length, Some}
use Rattle.std.specs.Prelude.{slice_get, All}
use Rattle.job_deploy.specs.declared.loops.Shares.{Shares}
use Rattle.job_deploy.specs.Lending.{AreTurned}
use Rattle.job_deploy.specs.Sharing.{HasRoom, IsRowOver}
use Rattle.job_deploy.proofs.loops.loop_rows.Given as goal

abbrev pub invariant-wires : goal.invariant-wires
invariant-wires g l = record {
  shares_many : length l.shares.items ≡ length l.wires.items;
  shares : (a : ℕ) (x : _) → slice_get l.shares.items a ≡ Some x → slice_get l.initial.shares.items a ≡ Some x;
  empty : All (λ (s : Shares _ _). HasRoom s) l.shares.items;
  wires : (a : ℕ) (x : _) → slice_get l.wires.items a ≡ Some x → slice_get l.initial.wires.items a ≡ Some x;
  rows_many : length l.rows.items + length l.wires.items ≡ length l.initial.wires.items;
  rows : AreTurned (IsRowOver l.initial.shares.items l.initial.wires.items) (length l.initial.wires.items) l.rows.items;
  room : length l.wires.items ≤ l.rows.room;
}

abbrev pub decreases-wires : goal.decreases-wires
decreases-wires g l = length l.wires.items
