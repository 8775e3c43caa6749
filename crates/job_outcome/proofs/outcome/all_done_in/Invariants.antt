use Rattle.std.proofs.Common.{◌≡◌, ◌<◌, ℕ, Some, slice_get}
use Rattle.flow_defs.specs.declared.cause.Cause.TheVariants.{Done}
use Rattle.job_outcome.proofs.outcome.all_done_in.Given as goal

abbrev pub invariant-loop-place : goal.invariant-loop-place
invariant-loop-place g l = (k : ℕ) (place : _) → k < l.place-index → slice_get l.row k ≡ Some place → g.P.Ends.cause_in place ≡ Some Done
