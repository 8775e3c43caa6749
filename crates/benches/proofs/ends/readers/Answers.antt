use Rattle.std.proofs.Common.{◌∙◌}
use Rattle.conn_harness.proofs.IdLaws.{ids_apart}
use Rattle.benches.proofs.ends.readers.Goals as goal

pub new-requires : goal.new-requires
new-requires c = ids_apart c.args.channels c.as_slice.result.now (c.as_slice.ensures ∙ c.in-Ok.ensures)
