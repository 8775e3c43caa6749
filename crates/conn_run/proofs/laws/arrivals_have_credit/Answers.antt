use Rattle.conn_run.proofs.Covering as covering
use Rattle.conn_run.proofs.laws.arrivals_have_credit.Goals as goal

pub returns : goal.returns
returns c = covering.credit_covers_data c.read_is_written.ensures c.messages_add_up.ensures.fronts c.channels_have_parts.ensures c.credit_covers_data.ensures c.passes_tell.ensures
