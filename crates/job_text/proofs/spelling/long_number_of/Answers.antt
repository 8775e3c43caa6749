use Rattle.std.proofs.Common.{arith, sym, ◌∙◌}
use Rattle.std.proofs.lemmas.Str.{IsUtf8-from_ascii}
use Rattle.job_text.proofs.Numbers.{number_none, number_parsed, not_parsed, spelled_ascii}
use Rattle.job_text.proofs.spelling.long_number_of.Goals as goal

pub returns-in_default-from_utf8 : goal.returns-in_default-from_utf8
returns-in_default-from_utf8 c = sym (number_none c.args.most c.args.word.now (λ is. c.in_default-from_utf8.ensures.cases.0 (IsUtf8-from_ascii c.args.word.now (spelled_ascii _ _ _ is))))

pub returns-in_default-parse : goal.returns-in_default-parse
returns-in_default-parse c = sym (not_parsed c.args.most c.args.word.now c.in-Ok.text.now c.parse.result c.in_default-parse.field-0 c.in-Ok.ensures.cases.0 (omega arith) c.parse.ensures.value.0 (omega arith) c.in_default-parse.is)

pub returns : goal.returns
returns c = c.then_some.ensures ∙ number_parsed c.args.most c.in-Ok-parse.number c.args.word.now c.in-Ok.text.now c.parse.result c.in-Ok.ensures.cases.0 c.parse.ensures.value.0 (omega arith) c.in-Ok-parse.is
