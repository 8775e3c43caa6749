-- The numbers of frames, each once. As in Flink's network stack each frame begins with its length and a
-- magic number; the numbers are this project's own. A content has the bytes of a segment at most.
use Rattle.std.specs.Prelude.{ℕ}

-- The magic number of frames, 0xBADC0FFE.
abbrev pub magic : ℕ
magic = 3134984190

-- A frame has at least so many bytes: its length, the magic number and its id.
abbrev pub frame_min : ℕ
frame_min = 9

-- A frame has at most so many bytes: the 39 before the content of a buffer response, and a content.
abbrev pub frame_max : ℕ
frame_max = 65575

-- The codes of errors go up to this one, from 1 on.
abbrev pub error_max : ℕ
error_max = 4
