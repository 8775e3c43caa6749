use Rattle.std.proofs.Common.{◌≡◌, sym, subst, ◌∙◌}
use Rattle.std.specs.Prelude.{Some, IfSome}
use Rattle.std.specs.Option.{option_map}
use Rattle.credit_reader.specs.Answers.{told_of}
use Rattle.credit_reader.specs.Senders.{reader_of}
use Rattle.reader_state.specs.Ledgers.{Ledger}
use Rattle.reader_state.proofs.Backlogs.{due_own}
use Rattle.reader_state.proofs.Ledgers.{names_announced}
use Rattle.reader_state.proofs.state.ReaderState.announce.Goals as goal

pub invariant_of-self : goal.invariant_of-self
invariant_of-self c = c.self.invariant ∙ sym (names_announced c.self.inside.readers c.announce.new.self c.announce.ensures.told)

pub returns-clause-own : goal.returns-clause-own
returns-clause-own c = subst (λ (l : Ledger). IfSome c.announce.result (λ t. option_map told_of (reader_of t.channel l.sender.readers) ≡ Some t)) c.self.view_is
    (due_own c.self.inside.readers c.readers_are_in_order.ensures.channels c.announce.result c.announce.ensures.answer)
