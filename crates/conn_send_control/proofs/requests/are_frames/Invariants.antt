use Rattle.std.proofs.Common.{take}
use Rattle.net_frames.specs.Frames.{AreFrames}
use Rattle.conn_parts.specs.Messages.{requests_of}
use Rattle.conn_send_control.proofs.requests.are_frames.Given as goal

abbrev pub invariant-loop-channel : goal.invariant-loop-channel
invariant-loop-channel l = AreFrames (requests_of (take l.channel-index l.channels))
