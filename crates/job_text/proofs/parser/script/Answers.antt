use Rattle.std.proofs.Common.{◌≡◌, ◌∙◌, ap₂}
use Rattle.clap.specs.Words.{app_of, with_rule}
use Rattle.clap.specs.Walk.{texts}
use Rattle.job_text.specs.Matches.{script_app, script_values}
use Rattle.job_text.proofs.ClapWalks.{found_by}
use Rattle.job_text.proofs.ClapOperands.{script_simple, script_passes}
use Rattle.job_text.proofs.parser.script.Goals as goal

pub returns : goal.returns
returns c = λ none.
    let words = texts c.args.words.now in
    let is : app_of c.in_ok-command.command ≡ script_app = c.in_ok-command.ensures.shape c.operand.ensures.own ∙ ap₂ with_rule c.bare.ensures c.operand.ensures.rule in
    found_by _ script_app words c.try_get_matches_from.result (script_values words) is script_simple (script_passes words none) c.try_get_matches_from.ensures.matches c.try_get_matches_from.ensures.passes
