use Rattle.conn_parts.proofs.Lists.{taken_out}
use Rattle.conn_parts.proofs.pools.take_out.Goals as goal

pub returns-clause-rest : goal.returns-clause-rest
returns-clause-rest g c =
    taken_out c.args.list.now.items c.as_slice.result.now c.as_mut_slice.result.now c.swap.new.self c.take_last.new.self.items c.args.place c.take_last.result
    c.as_slice.ensures c.as_mut_slice.ensures.value c.swap.ensures.after c.take_last.ensures.items c.requires
