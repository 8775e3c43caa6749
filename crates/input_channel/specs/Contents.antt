-- The data in a buffer. As in Flink's network stack, a buffer is a segment of which a first part is filled.
use Rattle.std.specs.Prelude.{ℕ, List, take}
use Rattle.input_channel.specs.declared.held.HeldBuf.{HeldBuf}

-- The data in a buffer.
abbrev pub content : HeldBuf → List ℕ
content buf = take buf.len buf.segment
