use Rattle.std.proofs.lemmas.Result.{IfOk-weaker}
use Rattle.channel_state.specs.Building.{IsBytes, AreRows, IsTableRead}
use Rattle.channel_state.proofs.BuildLemmas.{table_read}
use Rattle.channel_state.proofs.read.read_table.Goals as goal

pub returns : goal.returns
returns c =
    let old = c.args.cursor.now.rest.now in
    let mid = c.u32.new.self.rest.now in
    let new = c.read_rows.new.cursor.rest.now in
    let many = c.in_ok-many.many in
    IfOk-weaker c.read_rows.result (λ table. IsBytes mid → AreRows many mid new table) (λ table. IsBytes old → IsTableRead old new table) (λ table read. table_read many old mid new table c.in_ok-many.ensures read) c.read_rows.ensures
