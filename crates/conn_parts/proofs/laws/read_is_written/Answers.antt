use Rattle.conn_parts.proofs.Spellings.{read_is_written}
use Rattle.conn_parts.proofs.laws.read_is_written.Goals as goal

pub returns : goal.returns
returns c = read_is_written c.spellings_are_apart.ensures.front
