use Rattle.script_text.proofs.Faults.{accepted, one_script, one_bad_line, script_or_bad_line}
use Rattle.script_text.proofs.laws.script_texts_are_clear.Goals as goal

pub returns-clause-no_bad_line : goal.returns-clause-no_bad_line
returns-clause-no_bad_line c = accepted

pub returns-clause-one_script : goal.returns-clause-one_script
returns-clause-one_script c = one_script

pub returns-clause-one_bad_line : goal.returns-clause-one_bad_line
returns-clause-one_bad_line c = one_bad_line

pub returns-clause-decided : goal.returns-clause-decided
returns-clause-decided c = script_or_bad_line
