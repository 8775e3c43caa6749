use Rattle.exchange_core.proofs.Pieces.{pieces_count}
use Rattle.exchange_core.proofs.sending.count_buffers.Goals as goal

pub returns-clause-count : goal.returns-clause-count
returns-clause-count c = pieces_count c.args.size c.div_ceil.result c.args.text.now c.requires.size c.div_ceil.ensures
