use Rattle.std.proofs.Common.{◌≡◌, ap, ◌∙◌}
use Rattle.clap.specs.Walk.{texts}
use Rattle.job_text.proofs.FoundLemmas.{AreNumbers, are_numbers, lines_found, seed_found, lines_named}
use Rattle.job_text.proofs.words.lines_and_seed.Goals as goal

pub unreachable-requires : goal.unreachable-requires
unreachable-requires c =
    let words = c.args.words.now in
    let same : texts c.as_slice.result.now ≡ words = ap texts c.as_slice.ensures.value ∙ c.in_ok-texts.ensures in
    let first = c.in_ok-behind.ensures in let second = c.in_ok-behind-2.ensures in
    let are : AreNumbers words first.0 second.0 = are_numbers words _ _ first.0 second.0 first.1 second.1 c.in_ok-no_options.ensures first.2 second.2 first.3 second.3 in
    c.in_default.not-Some first.0 (c.number_in.ensures ∙ lines_found (texts c.as_slice.result.now) words first.0 second.0 c.in_ok-found.found same are c.in_ok-found.ensures)

pub unreachable-requires-in_default-number_in : goal.unreachable-requires-in_default-number_in
unreachable-requires-in_default-number_in c =
    let words = c.args.words.now in
    let same : texts c.as_slice.result.now ≡ words = ap texts c.as_slice.ensures.value ∙ c.in_ok-texts.ensures in
    let first = c.in_ok-behind.ensures in let second = c.in_ok-behind-2.ensures in
    let are : AreNumbers words first.0 second.0 = are_numbers words _ _ first.0 second.0 first.1 second.1 c.in_ok-no_options.ensures first.2 second.2 first.3 second.3 in
    c.in_default-number_in.not-Some second.0 (c.number_in-2.ensures ∙ seed_found (texts c.as_slice.result.now) words first.0 second.0 c.in_ok-found.found same are c.in_ok-found.ensures)

pub returns : goal.returns
returns c = λ command.
    let words = c.args.words.now in
    let same : texts c.as_slice.result.now ≡ words = ap texts c.as_slice.ensures.value ∙ c.in_ok-texts.ensures in
    let first = c.in_ok-behind.ensures in let second = c.in_ok-behind-2.ensures in
    let are : AreNumbers words first.0 second.0 = are_numbers words _ _ first.0 second.0 first.1 second.1 c.in_ok-no_options.ensures first.2 second.2 first.3 second.3 in
    lines_named command (texts c.as_slice.result.now) words first.0 second.0 c.in-Some.lines c.in-Some-number_in.seed c.in_ok-found.found same are c.in_ok-found.ensures c.in-Some.ensures c.in-Some-number_in.ensures
