use Rattle.std.proofs.Common.{◌≡◌, ◌∙◌, ap₂}
use Rattle.clap.specs.Words.{app_of, with_rule}
use Rattle.clap.specs.Walk.{texts}
use Rattle.std.specs.Prelude.{codes}
use Rattle.clap.specs.Words.{App}
use Rattle.job_text.specs.Matches.{bare, operand_rule, option_rule, run_app, run_values}
use Rattle.job_text.proofs.ClapWalks.{found_by}
use Rattle.job_text.proofs.ClapOptions.{run_simple, run_passes}
use Rattle.job_text.proofs.parser.run.Goals as goal

pub returns : goal.returns
returns c = λ none.
    let words = texts c.args.words.now in
    let job = c.in_ok-arg.ensures.shape c.operand.ensures.own ∙ ap₂ with_rule c.bare.ensures c.operand.ensures.rule in
    let every = c.in_ok-arg-2.ensures.shape c.option.ensures.own ∙ ap₂ with_rule job c.option.ensures.rule in
    let mode = c.in_ok-arg-3.ensures.shape c.option-2.ensures.own ∙ ap₂ with_rule every c.option-2.ensures.rule in
    let segment = c.in_ok-arg-4.ensures.shape c.option-3.ensures.own ∙ ap₂ with_rule mode c.option-3.ensures.rule in
    let pool = c.in_ok-arg-5.ensures.shape c.option-4.ensures.own ∙ ap₂ with_rule segment c.option-4.ensures.rule in
    let is : app_of c.in_ok-command.command ≡ run_app = c.in_ok-command.ensures.shape c.option-5.ensures.own ∙ ap₂ with_rule pool c.option-5.ensures.rule in
    found_by _ run_app words c.try_get_matches_from.result (run_values words) is run_simple (run_passes words none) c.try_get_matches_from.ensures.matches c.try_get_matches_from.ensures.passes
