use Rattle.std.proofs.Common.{◌≡◌, ℕ, ◌+◌, ◌≤◌, ◌++◌, length, take}
use Rattle.std.specs.Prelude.{slice_get}
use Rattle.std.specs.List.{filter_map}
use Rattle.job_run.specs.Runs.{input_in}
use Rattle.job_run.proofs.inputs.take_inputs.Given as goal

abbrev pub invariant-loop-i : goal.invariant-loop-i
invariant-loop-i g l = record {
  many : length l.row ≡ length l.fn.row;
  room : length l.fn.row ≤ l.inputs.room + l.i;
  rest : (k : ℕ) → l.i ≤ k → slice_get l.row k ≡ slice_get l.fn.row k;
  taken : l.inputs.items ≡ l.fn.inputs.items ++ filter_map input_in (take l.i l.fn.row);
}
