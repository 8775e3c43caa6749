use Rattle.std.proofs.Common.{sym, ap, ◌∙◌}
use Rattle.std.specs.Option.{option_map}
use Rattle.std.proofs.lemmas.Option.{same_Some}
use Rattle.turn_cell.specs.History.{entries_of}
use Rattle.credit_reader.specs.declared.reader.Reader.{Reader}
use Rattle.reader_state.proofs.Covering.{one_of_parts}
use Rattle.reader_state.proofs.Backlogs.{replayed_backlog}
use Rattle.reader_state.proofs.laws.backlog_is_told.Goals as goal

pub returns : goal.returns
returns c = λ channels history d r e legal parts.
    same_Some _ _ (ap (option_map (λ (x : Reader). x.backlog)) (sym parts.reader_is) ∙ replayed_backlog d channels (entries_of history) (one_of_parts channels history d legal r parts.reader_is))
