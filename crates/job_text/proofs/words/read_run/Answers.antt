use Rattle.std.proofs.Common.{◌≡◌, ◌∷◌, ap, sym, subst, ◌∙◌}
use Rattle.std.specs.Prelude.{codes}
use Rattle.clap.specs.Walk.{texts}
use Rattle.job_text.specs.Words.{IsRun}
use Rattle.job_text.proofs.FoundLemmas.{is_run}
use Rattle.job_text.proofs.words.read_run.Goals as goal

pub returns-clause-command : goal.returns-clause-command
returns-clause-command c =
    let words = c.args.words.now in
    let same : texts c.as_slice.result.now ≡ words = ap texts c.as_slice.ensures.value ∙ c.in_ok-texts.ensures in
    subst (λ name. IsRun (codes "run" ∷ words) name c.options_in-options.result) (sym c.in_ok-job.ensures)
    (is_run (texts c.as_slice.result.now) words c.in_ok-behind.behind.now _ c.in-Some.job.now c.options_in-options.result c.in_ok-found.found same
    c.in_ok-behind.ensures.0 c.in_ok-behind.ensures.1 c.in_ok-check_options.ensures c.in_ok-found.ensures c.in-Some.ensures c.options_in-options.ensures)
