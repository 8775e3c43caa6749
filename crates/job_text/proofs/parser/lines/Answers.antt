use Rattle.std.proofs.Common.{◌≡◌, ◌∙◌, ap₂}
use Rattle.clap.specs.Words.{app_of, with_rule}
use Rattle.clap.specs.Walk.{texts}
use Rattle.job_text.specs.Matches.{lines_app, lines_values}
use Rattle.job_text.proofs.ClapWalks.{found_by}
use Rattle.job_text.proofs.ClapOperands.{lines_simple, lines_passes}
use Rattle.job_text.proofs.parser.lines.Goals as goal

pub returns : goal.returns
returns c = λ none.
    let words = texts c.args.words.now in
    let name = c.args.name.now in
    let is : app_of c.in_ok-command.command ≡ lines_app name = c.in_ok-command.ensures.shape c.operand-2.ensures.own
    ∙ ap₂ with_rule (c.in_ok-arg.ensures.shape c.operand.ensures.own ∙ ap₂ with_rule c.bare.ensures c.operand.ensures.rule) c.operand-2.ensures.rule in
    found_by _ (lines_app name) words c.try_get_matches_from.result (lines_values words) is (lines_simple name) (lines_passes name words none) c.try_get_matches_from.ensures.matches c.try_get_matches_from.ensures.passes
