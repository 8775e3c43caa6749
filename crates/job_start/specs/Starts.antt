-- From where the tasks of a job go on. As in Flink a source goes on at its offset, and a task with state from what a checkpoint holds of it.
-- That this is told by lists in the order of an image is this project's own choice.
use Rattle.std.specs.Prelude.{◌≡◌, ℕ, suc, Bool, false, length, [], slice_index, slice_get, unwrap_or, All}
use Rattle.std.specs.FinMap.{empty}
use Rattle.std.specs.List.{list_all}
use Rattle.flow_defs.specs.declared.job.Job.{Job}
use Rattle.flow_defs.specs.declared.image.Image.{Image}
use Rattle.flow_defs.specs.declared.image.Snapshot.{Snapshot}
use Rattle.flow_defs.specs.Jobs.{last_edge, tasks}
use Rattle.plain_machine.specs.Images.{HasShortKeys, Fits}
use Rattle.plain_machine.specs.Places.{sender_place, sending_tasks}
use Rattle.job_start.specs.declared.start.Start.{Start}

-- It has an item for each source, each task that sends and each task of the aggregate. No key of a table is longer than a record.
pub record IsStartFor (job : Job) (start : Start) : Type 0 where
  pub offsets : length start.offsets.items ≡ tasks job 0
  pub ended : length start.ended.items ≡ tasks job 0
  pub emitted : length start.emitted.items ≡ length (sending_tasks job)
  pub tables : length start.tables.items ≡ tasks job (suc (last_edge job))
  pub keys : All HasShortKeys start.tables.items

-- The tasks go on from what the image holds.
pub record IsStartAt (image : Image) (start : Start) : Type 0 where
  pub number : start.number ≡ image.number
  pub offsets : start.offsets.items ≡ image.offsets.items
  pub ended : start.ended.items ≡ image.ended.items
  pub emitted : start.emitted.items ≡ image.emitted.items
  pub tables : start.tables.items ≡ image.tables.items

-- A run may go on from this image, which is not the last.
pub record IsBase (job : Job) (start : Start) (image : Image) : Type 0 where
  pub fits : Fits job image
  pub at : IsStartAt image start
  pub not_last : image.final_one ≡ false

-- Whether source a was at its end there, and whether all sources were.
abbrev pub was_ended : Start → ℕ → Bool
was_ended start a = unwrap_or (slice_get start.ended.items a) false

abbrev pub all_were_ended : Start → Bool
all_were_ended start = list_all (λ (ended : Bool). ended) start.ended.items

-- From what task a of stage i goes on, as its snapshot told it.
abbrev pub from_of : Job → Start → ℕ → ℕ → Snapshot
from_of job start i a = record {
  task = record { stage = i; index = a };
  number = start.number;
  offset = slice_index start.offsets.items a;
  ended = was_ended start a;
  emitted = slice_index start.emitted.items (sender_place job i a);
  table = unwrap_or (slice_get start.tables.items a) empty;
  takes = record { items = []; room = 0 };
  saved_in = record { items = []; room = 0 };
  saved_out = record { items = []; room = 0 };
}
