use Rattle.std.proofs.Common.{append_assoc}
use Rattle.net_frames.proofs.encoding.put_body.Goals as goal

pub returns-in-BufferResponse-clause-items : goal.returns-in-BufferResponse-clause-items
returns-in-BufferResponse-clause-items c =
    rw (c.put_arrival.ensures.items, c.put_u32-in-BufferResponse.ensures.items, c.put_u32.ensures.items, c.put_channel.ensures.items, c.in-BufferResponse.is) (simp append_assoc)
