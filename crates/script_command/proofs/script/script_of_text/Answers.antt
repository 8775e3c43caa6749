use Rattle.script_command.proofs.script.script_of_text.Goals as goal

pub returns-in-Err-Line-clause-fault : goal.returns-in-Err-Line-clause-fault
returns-in-Err-Line-clause-fault c =
    (c.read_script.ensures.line c.in-Err-Line.line).0 (let a = c.in-Err-Line.is in let b = c.in-Err-Line.field-0-is in let d = c.in-Err-Line.line-is in cc)
