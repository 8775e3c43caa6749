use Rattle.conn_parts.proofs.Windows.{consumed_of}
use Rattle.conn_parts.proofs.incoming.Incoming.consume.Goals as goal

pub returns : goal.returns
returns c = consumed_of c.self.inside.bytes.items c.args.self.now c.self.inside.from c.self.inside.to c.args.count c.self.view_is c.requires
