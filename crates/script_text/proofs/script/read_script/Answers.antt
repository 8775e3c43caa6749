use Rattle.std.proofs.Common.{refl, sym, ◌∙◌, subst, rules}
use Rattle.script_text.specs.Reading.{IsTold}
use Rattle.script_text.proofs.Faults.{accepted, opened, told_line, told_memory, told_script, script_read}
use Rattle.script_text.proofs.script.read_script.Goals as goal

pub returns-in_err-opening-clause-accepted : goal.returns-in_err-opening-clause-accepted
returns-in_err-opening-clause-accepted c = accepted c.args.bytes.now

pub returns-in_err-check-clause-accepted : goal.returns-in_err-check-clause-accepted
returns-in_err-check-clause-accepted c = accepted c.args.bytes.now

pub returns-in_err-events-clause-accepted : goal.returns-in_err-events-clause-accepted
returns-in_err-events-clause-accepted c = accepted c.args.bytes.now

pub returns-clause-accepted : goal.returns-clause-accepted
returns-clause-accepted c = accepted c.args.bytes.now

pub returns-in_err-opening-clause-line : goal.returns-in_err-opening-clause-line
returns-in_err-opening-clause-line c =
    told_line c.args.bytes.now c.from_residual.result c.in_err-opening.field-0.0 (search rules) (search rules)

pub returns-in_err-check-clause-line : goal.returns-in_err-check-clause-line
returns-in_err-check-clause-line c =
    told_line c.args.bytes.now c.from_residual-in_err-check.result c.in_err-check.field-0.0 (search rules)
    (subst (IsTold c.in_err-check.field-0.0) (sym (opened c.args.bytes.now c.in_ok-opening.rest.now c.in_ok-opening.opening (search rules))) (search rules))

pub returns-in_err-events-clause-line : goal.returns-in_err-events-clause-line
returns-in_err-events-clause-line c =
    told_memory c.args.bytes.now c.from_residual-in_err-events.result
    (opened c.args.bytes.now c.in_ok-opening.rest.now c.in_ok-opening.opening (search rules) ∙ (search rules)) (search rules)

pub returns-clause-script : goal.returns-clause-script
returns-clause-script c =
    script_read c.args.bytes.now c.in_ok-opening.rest.now c.in_ok-opening.opening _ (search rules) refl refl refl (search rules) (search rules)

pub returns-clause-line : goal.returns-clause-line
returns-clause-line c =
    told_script c.args.bytes.now _ (opened c.args.bytes.now c.in_ok-opening.rest.now c.in_ok-opening.opening (search rules) ∙ (search rules)) _ refl
