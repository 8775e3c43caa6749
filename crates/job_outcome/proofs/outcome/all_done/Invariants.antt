use Rattle.std.proofs.Common.{◌≡◌, ◌<◌, ℕ, Some}
use Rattle.flow_defs.specs.declared.cause.Cause.TheVariants.{Done}
use Rattle.job_outcome.specs.Outcomes.{StandsAt}
use Rattle.job_outcome.proofs.outcome.all_done.Given as goal

abbrev pub invariant-loop-row : goal.invariant-loop-row
invariant-loop-row g l = (s i : ℕ) (place : _) → s < l.row-index → StandsAt l.rows s i place → g.P.Ends.cause_in place ≡ Some Done
