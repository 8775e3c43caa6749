use Rattle.std.proofs.Common.{append_assoc}
use Rattle.net_frames.proofs.encoding.put_channel.Goals as goal

pub returns-clause-items : goal.returns-clause-items
returns-clause-items c = rw (c.put_u32-4.ensures.items, c.put_u32-3.ensures.items, c.put_u32-2.ensures.items, c.put_u32.ensures.items) (simp append_assoc)
