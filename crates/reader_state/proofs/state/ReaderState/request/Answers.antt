use Rattle.std.proofs.Common.{sym, ◌∙◌}
use Rattle.credit_reader.specs.Readers.{Asked}
use Rattle.reader_state.proofs.Ledgers.{names_called}
use Rattle.reader_state.proofs.Waiting.{waited}
use Rattle.reader_state.proofs.state.ReaderState.request.Goals as goal

pub invariant_of-self : goal.invariant_of-self
invariant_of-self c = c.self.invariant ∙ sym (names_called c.args.channel (Asked c.args.credit) c.self.inside.readers c.request.new.self c.request.result c.request.ensures.ok c.request.ensures.err)
