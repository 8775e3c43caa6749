-- Which fault a run of a job has.
use Rattle.std.specs.Prelude.{⊤, ℕ, List, Option}
use Rattle.flow_defs.specs.declared.job.Job.{Job}
use Rattle.flow_defs.specs.Lines.{lines}
use Rattle.job_outcome.specs.Grounds.{IsOverByOne}
use Rattle.job_outcome.specs.Storing.{IsTooLarge}
use Rattle.outside.specs.Keepers.{KeptImage}
use Rattle.command_parts.specs.declared.fault.Fault.{Fault}
use Rattle.command_parts.specs.declared.fault.Fault.TheVariants.{Keeper, BigImage, Link, OverCredit, Peer}
use Rattle.command_parts.specs.Sources.{TellsSources, IsSourceFault}

-- Where its sources are told to have some bytes, an image of the job over their lines, with checkpoints behind so many, is too large. It
-- comes behind those that a keeper got that told these images before and those after.
abbrev pub HasLargeImage : Job → Option ℕ → (List ℕ → Option (List ℕ)) → Option (List KeptImage) → Option (List KeptImage) → Type 0
HasLargeImage job every contents before after = (bytes : ℕ → List ℕ) → TellsSources job contents bytes → IsTooLarge job (λ a. lines (bytes a)) every before after

-- A run of the job over the exchange has this fault, with checkpoints behind so many lines, and with a keeper that told these images before
-- and those after. Its links are in memory, and none of their calls is to fail. Nothing is said of when the keeper is at fault, or the other
-- end of a connection beyond its numbers.
abbrev pub IsRunFault : Job → Option ℕ → (List ℕ → Option (List ℕ)) → Option (List KeptImage) → Option (List KeptImage) → Fault → Type 0
IsRunFault job every contents before after Keeper = ⊤
IsRunFault job every contents before after Link = ⊥
IsRunFault job every contents before after BigImage = HasLargeImage job every contents before after
IsRunFault job every contents before after (OverCredit channel received announced) = IsOverByOne received announced
IsRunFault job every contents before after (Peer fault) = ⊤
IsRunFault job every contents before after fault = IsSourceFault job contents fault
