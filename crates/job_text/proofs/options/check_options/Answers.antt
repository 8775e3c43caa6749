use Rattle.std.proofs.Common.{◌≡◌, Ok, sym, ap, ◌∙◌, arith}
use Rattle.std.specs.Prelude.{ok_or}
use Rattle.job_text.specs.declared.words.UsageKind.TheVariants.{BadValue}
use Rattle.job_text.specs.Words.{with_value, option_behind}
use Rattle.job_text.proofs.OptionLemmas.{goes_on}
use Rattle.job_text.proofs.options.check_options.Goals as goal

pub options-preserved : goal.options-preserved
options-preserved c =
    let given = c.options.given in
    let option_is : option_behind given c.word-item.result ≡ Ok c.in_ok-option.option = ap (option_behind given) (sym c.text.ensures) ∙ sym c.option_behind.ensures ∙ c.in_ok-option.was in
    let value_is : ok_or (with_value given c.in_ok-option.option c.value-item.result) BadValue ≡ Ok c.in_ok-given.given = ap (λ value. ok_or (with_value given c.in_ok-option.option value) BadValue) (sym c.text-in-len1-up.ensures) ∙ sym c.with.ensures ∙ c.in_ok-given.was in
    c.options.invariant ∙ goes_on given c.in_ok-given.given c.in_ok-option.option c.options.rest.now c.word-item.result c.value-item.result (grind arith) (grind arith) (grind arith) (grind arith) option_is value_is
