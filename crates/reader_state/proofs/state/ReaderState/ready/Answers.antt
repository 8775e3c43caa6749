use Rattle.std.proofs.Common.{sym, ◌∙◌}
use Rattle.credit_reader.specs.Readers.{Ready}
use Rattle.reader_state.proofs.Ledgers.{names_happened}
use Rattle.reader_state.proofs.state.ReaderState.ready.Goals as goal

pub invariant_of-self : goal.invariant_of-self
invariant_of-self c = c.self.invariant ∙ sym (names_happened c.args.channel (Ready c.args.head c.args.backlog) c.self.inside.readers c.ready.new.self c.ready.ensures)
