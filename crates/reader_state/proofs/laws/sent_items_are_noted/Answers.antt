use Rattle.std.proofs.Common.{sym, ap, ◌∙◌}
use Rattle.std.specs.Option.{option_map}
use Rattle.std.proofs.lemmas.Option.{same_Some}
use Rattle.turn_cell.specs.History.{entries_of}
use Rattle.credit_reader.specs.declared.reader.Reader.{Reader}
use Rattle.reader_state.specs.Theorems.{NotesEnd}
use Rattle.reader_state.proofs.Covering.{of_parts, one_of_parts}
use Rattle.reader_state.proofs.Numbering.{replayed_number}
use Rattle.reader_state.proofs.laws.sent_items_are_noted.Goals as goal

pub returns-clause-ends : goal.returns-clause-ends
returns-clause-ends c = λ channels history d r e legal parts. of_parts channels history d legal NotesEnd (λ v. v.ended) r e parts

pub returns-clause-numbers : goal.returns-clause-numbers
returns-clause-numbers c = λ channels history d r e legal parts.
    same_Some _ _ (ap (option_map (λ (x : Reader). x.sequence)) (sym parts.reader_is) ∙ replayed_number d channels (entries_of history) (one_of_parts channels history d legal r parts.reader_is))
