use Rattle.std.proofs.Common.{ap, ◌∙◌}
use Rattle.reader_state.specs.Ledgers.{Ledger, channels_of}
use Rattle.job_cells.proofs.Readers.{names_of}
use Rattle.job_cells.proofs.channels.readers_of.Goals as goal

pub returns-clause-channels : goal.returns-clause-channels
returns-clause-channels c =
    ap (λ (l : Ledger). channels_of l) (c.in_ok-cell.ensures.opened ∙ c.in_ok-state.ensures.opened) ∙ names_of c.args.channels.now
