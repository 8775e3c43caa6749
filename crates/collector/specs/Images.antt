-- The image that is made of one snapshot of each task. In Flink, too, a completed checkpoint consists of
-- the states that all tasks acknowledged; the order of the lists is this project's own choice.
use Rattle.std.specs.Prelude.{◌≡◌, ℕ, suc, ◌<◌, ◌≤◌, Bool, true, [], length, slice_index, slice_get, Some}
use Rattle.flow_defs.specs.declared.job.Job.{Job}
use Rattle.flow_defs.specs.declared.image.Image.{Image}
use Rattle.flow_defs.specs.declared.image.Snapshot.{Snapshot}
use Rattle.flow_defs.specs.Jobs.{last_edge, tasks, is_channel}
use Rattle.plain_machine.specs.Places.{sending_tasks, receiving_tasks, channels, sender_place, channel_place}
use Rattle.plain_machine.specs.Images.{items_at, saved, takes_of, AreSpans, Fits}
use Rattle.collector.specs.Pieces.{piece}
use Rattle.collector.specs.Fitting.{IsTask, IsSnapshotOf}

-- The image of this checkpoint is made of these snapshots, by stage and index, and of nothing else.
pub record IsImageOf (job : Job) (number : ℕ) (final_one : Bool) (snapshots : ℕ → ℕ → Snapshot) (image : Image) : Type 0 where
  pub number_is : image.number ≡ number
  pub last : image.final_one ≡ final_one
  pub text : image.text.items ≡ job.text.items
  -- its lists have an item for each task and channel
  pub offsets : length image.offsets.items ≡ tasks job 0
  pub ended : length image.ended.items ≡ tasks job 0
  pub emitted : length image.emitted.items ≡ length (sending_tasks job)
  pub tables : length image.tables.items ≡ tasks job (suc (last_edge job))
  pub takes : length image.takes.items ≡ length (receiving_tasks job)
  pub saved_in : length image.saved_in.items ≡ length (channels job)
  pub saved_out : length image.saved_out.items ≡ length (channels job)
  -- and what stands at its place is of its snapshot
  pub offset_at : (a : ℕ) → a < tasks job 0 → slice_index image.offsets.items a ≡ (snapshots 0 a).offset
  pub ended_at : (a : ℕ) → a < tasks job 0 → slice_get image.ended.items a ≡ Some (snapshots 0 a).ended
  pub emitted_at : (i a : ℕ) → i ≤ last_edge job → a < tasks job i → slice_index image.emitted.items (sender_place job i a) ≡ (snapshots i a).emitted
  pub table_at : (b : ℕ) → b < tasks job (suc (last_edge job)) → slice_get image.tables.items b ≡ Some (snapshots (suc (last_edge job)) b).table
  pub takes_at : (e b : ℕ) → e ≤ last_edge job → b < tasks job (suc e) → takes_of job image (suc e) b ≡ (snapshots (suc e) b).takes.items
  pub saved_in_at : (e a b : ℕ) → is_channel job e a b ≡ true → items_at image.saved_in.items (channel_place job e a b) ≡ piece e a b (snapshots (suc e) b).saved_in.items
  pub saved_out_at : (e a b : ℕ) → is_channel job e a b ≡ true → items_at image.saved_out.items (channel_place job e a b) ≡ piece e a b (snapshots e a).saved_out.items

-- Snapshots that fit make an image that fits, where what is saved are records and, in a last image, nothing is.
abbrev pub SnapshotsMakeFitting : Type 0
SnapshotsMakeFitting =
    (job : Job) (number : ℕ) (final_one : Bool) (snapshots : ℕ → ℕ → Snapshot) (image : Image) →
    IsImageOf job number final_one snapshots image →
    ((i a : ℕ) → IsTask job i a → IsSnapshotOf job final_one i a (snapshots i a)) →
    ((e a b : ℕ) → is_channel job e a b ≡ true → AreSpans (saved job image e a b)) →
    (final_one ≡ true → (e a b : ℕ) → is_channel job e a b ≡ true → saved job image e a b ≡ []) →
    Fits job image
