use Rattle.conn_send_items.proofs.step.note_front.Goals as goal
use Rattle.flow_defs.proofs.Lists.{refilled_set}

pub returns : goal.returns
returns c = refilled_set c.args.told.now.items _ c.args.place _ c.as_mut_slice.ensures.value
