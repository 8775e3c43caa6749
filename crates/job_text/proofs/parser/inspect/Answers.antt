use Rattle.std.proofs.Common.{[]}
use Rattle.std.specs.Prelude.{codes}
use Rattle.clap.specs.Walk.{texts}
use Rattle.job_text.specs.Matches.{bare}
use Rattle.job_text.proofs.ClapWalks.{found_by}
use Rattle.job_text.proofs.ClapOperands.{inspect_simple, inspect_passes}
use Rattle.job_text.proofs.parser.inspect.Goals as goal

pub returns : goal.returns
returns c = λ none.
    let words = texts c.args.words.now in
    found_by _ (bare (codes "inspect")) words c.try_get_matches_from.result [] c.bare.ensures (inspect_simple (codes "inspect")) (inspect_passes (codes "inspect") words none) c.try_get_matches_from.ensures.matches c.try_get_matches_from.ensures.passes
