use Rattle.job_text.specs.Words.{usage_fault}
use Rattle.command_parts.proofs.Options.{none_of_all}
use Rattle.commands.proofs.run.command_of.Goals as goal

pub returns-in-Err-Usage-clause-fault : goal.returns-in-Err-Usage-clause-fault
returns-in-Err-Usage-clause-fault c =
    (c.read_words.ensures.usage c.in-Err-Usage.kind).0 (let a = c.in-Err-Usage.is in let b = c.in-Err-Usage.field-0-is in let d = c.in-Err-Usage.kind-is in cc)

pub returns-in-Err-Memory-clause-fault : goal.returns-in-Err-Memory-clause-fault
returns-in-Err-Memory-clause-fault c =
    none_of_all (usage_fault c.args.words.now.items) (λ kind fault. let usage = (c.read_words.ensures.usage kind).1 fault in let a = c.in-Err-Memory.is in let b = c.in-Err-Memory.field-0-is in cc)
