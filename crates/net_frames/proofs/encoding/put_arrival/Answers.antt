use Rattle.std.proofs.Common.{append_assoc}
use Rattle.net_frames.proofs.encoding.put_arrival.Goals as goal

pub returns-in-Inline-clause-items : goal.returns-in-Inline-clause-items
returns-in-Inline-clause-items c = rw (c.put-in-Inline-2.ensures.items, c.put-in-Inline.ensures.items, c.to_be_bytes.ensures, c.in-Inline.is) (simp append_assoc)

pub returns-in-Front-clause-items : goal.returns-in-Front-clause-items
returns-in-Front-clause-items c = rw (c.put-in-Front-2.ensures.items, c.put-in-Front.ensures.items, c.to_be_bytes-in-Front.ensures, c.in-Front.is) (simp append_assoc)
