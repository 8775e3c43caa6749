use Rattle.reader_state.proofs.Covering.{covers}
use Rattle.reader_state.proofs.laws.channels_have_parts.Goals as goal

pub returns : goal.returns
returns c = λ channels history d legal one. let v = covers channels history d legal one in (v.reader, v.early, record { reader_is = v.reader_is; early_is = v.early_is })
