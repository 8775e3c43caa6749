use Rattle.std.proofs.Common.{◌≡◌, take}
use Rattle.input_channel.specs.Lines.{contents}
use Rattle.input_channel.proofs.queue.copy_of.Given as goal

abbrev pub invariant-copies : goal.invariant-copies
invariant-copies l = l.bytes.items ≡ contents (take l.i l.buffers.items)
