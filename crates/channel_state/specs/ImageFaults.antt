-- What keeps bytes from being an image: the first field that is cut or doesn't say what it has to, in the
-- order of the fields. The format is this project's own.
use Rattle.std.specs.Prelude.{◌≡◌, ℕ, zero, suc, ◌-◌, ◌==◌, ◌&&◌, ◌||◌, not, nat_le, Bool, true, List, [], ◌∷◌, ◌++◌, length, Option, Some, None, is_none, Result, Ok, Err, codes, bytes_eq}
use Rattle.std.specs.Option.{option_map_or}
use Rattle.std.specs.Ordering.{is_lt}
use Rattle.std.specs.Int.{w32, w64}
use Rattle.flow_defs.specs.Limits.{record_max}
use Rattle.flow_defs.specs.declared.job.Job.{Job}
use Rattle.flow_defs.specs.declared.image.Image.{Image}
use Rattle.flow_defs.specs.Jobs.{last_edge, tasks, is_channel}
use Rattle.flow_defs.specs.Records.{spans, all_encoded}
use Rattle.flow_defs.specs.Tables.{key_cmp}
use Rattle.plain_machine.specs.Places.{sending_tasks, channels}
use Rattle.plain_machine.specs.Spelling.{spelling}
use Rattle.job_text.specs.KnownKinds.{every_kind}
use Rattle.job_text.specs.JobFaults.{first_fault}
use Rattle.job_text.specs.Shapes.{said, job_of}
use Rattle.channel_state.specs.Contents.{TEXT_MOST}
use Rattle.channel_state.specs.Reading.{Reading, Passing, ◌>>=◌, byte, flag, number, piece, mark, tested, parts, nothing}

-- Whether bytes are the text of a job, and not too long for an image.
abbrev pub is_text : List ℕ → Bool
is_text text = nat_le (length text) TEXT_MOST && is_none (first_fault every_kind text)

-- A source: its offset, and whether it is at its end, as it has to be in a last image.
unfoldable pub source : Bool → List ℕ → Passing
source last bytes = do
  offset ← number w64 bytes
  ended ← tested (λ ended. not last || ended) flag offset.1
  Ok ended.1

-- How many records a task has emitted.
unfoldable pub emitted : List ℕ → Passing
emitted bytes = do
  count ← number w64 bytes
  Ok count.1

-- Whether this may be the key behind another one: it is no longer than a record, and greater than that one.
abbrev pub is_key : Option (List ℕ) → List ℕ → Bool
is_key before key = nat_le (length key) record_max && option_map_or (λ other. is_lt (key_cmp other key)) before true

-- So many rows of a table behind one with this key.
unfoldable pub rows : ℕ → Option (List ℕ) → List ℕ → Passing
rows zero before bytes = Ok bytes
rows (suc n) before bytes = do
  key ← tested (is_key before) piece bytes
  value ← number w64 key.1
  rows n (Some key.0) value.1

-- A table: how many rows it has, and these.
unfoldable pub table : List ℕ → Passing
table bytes = do
  count ← number w32 bytes
  rows count.0 None count.1

-- Whether a run of task b behind edge e may be of sender a behind a run of another one.
abbrev pub is_sender : Job → ℕ → ℕ → Option ℕ → ℕ → Bool
is_sender job e b before a = is_channel job e a b && option_map_or (λ other. not (other == a)) before true

-- So many runs of task b behind edge e, behind one of this sender.
unfoldable pub runs : Job → ℕ → ℕ → ℕ → Option ℕ → List ℕ → Passing
runs job e b zero before bytes = Ok bytes
runs job e b (suc n) before bytes = do
  sender ← tested (is_sender job e b before) (number w32) bytes
  count ← tested (nat_le 1) (number w64) sender.1
  runs job e b n (Some sender.0) count.1

-- The takes of task b behind edge e: how many runs they are, and these.
unfoldable pub takes : Job → ℕ → ℕ → List ℕ → Passing
takes job e b bytes = do
  count ← number w32 bytes
  runs job e b count.0 None count.1

-- Whether a piece may be saved. In a last image nothing is.
abbrev pub may_save : Bool → List ℕ → Bool
may_save last saved = not last || length saved == 0

-- Whether bytes are the encodings of records: of those that are read off them.
abbrev pub are_records : List ℕ → Bool
are_records bytes = bytes_eq (all_encoded (spans bytes)) bytes

-- The two pieces of a channel, which together are records.
unfoldable pub channel : Bool → List ℕ → Passing
channel last bytes = do
  saved_in ← tested (may_save last) piece bytes
  saved_out ← tested (λ saved. may_save last saved && are_records (saved_in.0 ++ saved)) piece saved_in.1
  Ok saved_out.1

-- What stands behind the text of this job: for each source, task and channel its part, and the end mark.
unfoldable pub body : Job → Bool → List ℕ → Passing
body job last bytes = do
  sources ← parts (tasks job 0) (λ i. source last) bytes
  counts ← parts (length (sending_tasks job)) (λ i. emitted) sources
  tables ← parts (tasks job (suc (last_edge job))) (λ i. table) counts
  runs ← parts (suc (last_edge job)) (λ e. parts (tasks job (suc e)) (takes job e)) tables
  saved ← parts (length (channels job)) (λ i. channel last) runs
  end ← mark (codes "IWLF") saved
  nothing end

-- An image: its mark, version 1, its number, whether it is the last, the text of its job, and what this job asks for.
unfoldable pub image : List ℕ → Passing
image bytes = do
  mark ← mark (codes "FLWI") bytes
  version ← tested (λ version. version == 1) byte mark
  number ← tested (nat_le 1) (number w64) version.1
  last ← flag number.1
  text ← tested is_text piece last.1
  body (job_of (said text.0)) last.0 text.1

-- The place of a fault: the first byte of the faulty field.
abbrev pub place_in : List ℕ → Passing → Option ℕ
place_in bytes (Ok rest) = None
place_in bytes (Err left) = Some (length bytes - left)

-- The place of the first faulty field, where one is.
abbrev pub image_fault : List ℕ → Option ℕ
image_fault bytes = place_in bytes (image bytes)

-- An image can be read again: its spelling has no fault.
abbrev pub IsReadable : Image → Type 0
IsReadable image = image_fault (spelling image) ≡ None
