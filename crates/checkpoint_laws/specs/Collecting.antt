-- What the worker that collects snapshots says of an image. As in Flink a checkpoint is complete once
-- each task has sent its snapshot. Which image is the last is this project's own choice.
use Rattle.std.specs.Prelude.{◌≡◌, ℕ, suc, ◌+◌, ◌<◌, ◌≤◌, ◌↔◌, ◌==◌, ◌&&◌, true, false, List, [], ◌∷◌, length, slice_index, slice_get, if◌then◌else◌, Option, Some, None}
use Rattle.flow_defs.specs.declared.job.Job.{Job}
use Rattle.flow_defs.specs.declared.image.Saved.{Saved}
use Rattle.flow_defs.specs.declared.image.Snapshot.{Snapshot}
use Rattle.flow_defs.specs.declared.image.Image.{Image}
use Rattle.flow_defs.specs.Jobs.{last_edge, tasks, is_channel}
use Rattle.plain_machine.specs.Places.{sending_tasks, receiving_tasks, channels, channel_place}
use Rattle.plain_machine.specs.Images.{items_at, saved, cut_of, takes_of, AllEnded}

-- The bytes that are saved of the channel from task a to task b on edge e among these pieces.
abbrev pub piece : ℕ → ℕ → ℕ → List Saved → List ℕ
piece e a b [] = []
piece e a b (s ∷ pieces) = if s.channel.edge == e && s.channel.from == a && s.channel.to == b then s.bytes.items else piece e a b pieces

-- The image is made of one snapshot of each task, by stage and index.
pub record IsMadeOf (job : Job) (image : Image) (snapshot : ℕ → ℕ → Snapshot) : Type 0 where
  pub offsets : (a : ℕ) → a < tasks job 0 → slice_index image.offsets.items a ≡ (snapshot 0 a).offset
  pub ended : (a : ℕ) → a < tasks job 0 → slice_get image.ended.items a ≡ Some (snapshot 0 a).ended
  pub emitted : (i a : ℕ) → i ≤ last_edge job → a < tasks job i → (cut_of job image).emitted i a ≡ (snapshot i a).emitted
  pub tables : (b : ℕ) → b < tasks job (suc (last_edge job)) → (cut_of job image).tables b ≡ (snapshot (suc (last_edge job)) b).table
  pub takes : (e b : ℕ) → e ≤ last_edge job → b < tasks job (suc e) → takes_of job image (suc e) b ≡ (snapshot (suc e) b).takes.items
  pub saved_in : (e a b : ℕ) → is_channel job e a b ≡ true → items_at image.saved_in.items (channel_place job e a b) ≡ piece e a b (snapshot (suc e) b).saved_in.items
  pub saved_out : (e a b : ℕ) → is_channel job e a b ≡ true → items_at image.saved_out.items (channel_place job e a b) ≡ piece e a b (snapshot e a).saved_out.items

-- Whether an image is the last: without an interval each is, and with one it is where all sources were
-- ended in the image before.
abbrev pub IsLast : Option ℕ → Image → Image → Type 0
IsLast None old new = new.final_one ≡ true
IsLast (Some interval) old new = (new.final_one ≡ true) ↔ AllEnded old

-- The image was collected behind the one before: it is the next one of this job, which had not had its
-- last one, and has an item for each task and channel. In a last image nothing is saved.
pub record Collected (job : Job) (every : Option ℕ) (old new : Image) : Type 0 where
  pub number : new.number ≡ old.number + 1
  pub text : new.text.items ≡ job.text.items
  pub not_last : old.final_one ≡ false
  pub last : IsLast every old new
  pub offsets : length new.offsets.items ≡ tasks job 0
  pub ended : length new.ended.items ≡ tasks job 0
  pub emitted : length new.emitted.items ≡ length (sending_tasks job)
  pub tables : length new.tables.items ≡ tasks job (suc (last_edge job))
  pub takes : length new.takes.items ≡ length (receiving_tasks job)
  pub saved_in : length new.saved_in.items ≡ length (channels job)
  pub saved_out : length new.saved_out.items ≡ length (channels job)
  pub last_is_empty : new.final_one ≡ true → (e a b : ℕ) → is_channel job e a b ≡ true → saved job new e a b ≡ []
