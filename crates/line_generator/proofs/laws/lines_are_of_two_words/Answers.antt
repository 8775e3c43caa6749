use Rattle.line_generator.proofs.TwoWords.{generated_are_counted, each_has_two_words}
use Rattle.line_generator.proofs.laws.lines_are_of_two_words.Goals as goal

pub returns-clause-count : goal.returns-clause-count
returns-clause-count c = generated_are_counted

pub returns-clause-words : goal.returns-clause-words
returns-clause-words c = each_has_two_words
