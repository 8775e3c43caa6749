-- The limits of jobs and of what flows in them, each number once. That there are such limits is known
-- from Flink, as the sizes and numbers of its network buffers; the numbers are this project's own.
use Rattle.std.specs.Prelude.{ℕ}

-- A record has at most so many bytes: 1 MiB.
abbrev pub record_max : ℕ
record_max = 1048576

-- A token, as the name of a source's file or the prefix that a stage keeps, has at most so many bytes.
abbrev pub token_max : ℕ
token_max = 255

-- A stage gives a field whose number is at most this. Fields are counted from 1.
abbrev pub field_max : ℕ
field_max = 9999

-- A job has at most so many sources. It has at least one.
abbrev pub sources_max : ℕ
sources_max = 8

-- A job has at most so many stateless stages.
abbrev pub stages_max : ℕ
stages_max = 6

-- A stage has at most so many tasks. It has at least one.
abbrev pub tasks_max : ℕ
tasks_max = 8

-- The text of a job has at most so many bytes: 64 KiB.
abbrev pub job_text_max : ℕ
job_text_max = 65536

-- A segment of network memory, and so a buffer, has at least so many bytes.
abbrev pub segment_min : ℕ
segment_min = 64

-- A segment has at most so many bytes: 64 KiB.
abbrev pub segment_max : ℕ
segment_max = 65536

-- A pool has at most so many segments. It has at least one.
abbrev pub segments_max : ℕ
segments_max = 16384

-- A credit and a backlog are at most so many buffers: 2^31 - 1, the greatest that a frame carries.
abbrev pub credit_max : ℕ
credit_max = 2147483647
