use Rattle.std.proofs.Common.{◌≡◌, length}
use Rattle.job_text.specs.Words.{nothing, given_from}
use Rattle.job_text.proofs.options.check_options.Given as goal

-- the options left stand behind those that were given
abbrev pub invariant-options : goal.invariant-options
invariant-options l = given_from nothing l.words ≡ given_from l.given l.rest

abbrev pub decreases-options : goal.decreases-options
decreases-options l = length l.rest
