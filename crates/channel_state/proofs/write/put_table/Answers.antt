use Rattle.std.proofs.Common.{◌++◌, ap, ◌∙◌}
use Rattle.std.specs.FinMap.{entries}
use Rattle.channel_state.proofs.Parts.{row_keys, whole_table}
use Rattle.channel_state.proofs.write.put_table.Goals as goal

pub put_rows-requires : goal.put_rows-requires
put_rows-requires c = row_keys c.rows-rows.result.now (entries c.args.table.now) c.rows-rows.ensures c.requires.keys

pub returns : goal.returns
returns c =
    whole_table c.args.out.now.items c.extend.new.self.items c.put_rows.new.out.items c.rows-rows.result.now (entries c.args.table.now) c.rows-rows.ensures
    (c.in_ok-extend.ensures.ok ∙ ap (λ l. c.args.out.now.items ++ l) c.to_be_bytes.ensures) c.in_ok-put_rows.ensures
