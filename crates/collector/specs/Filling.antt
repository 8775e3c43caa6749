-- How an image is filled, place by place. It serves private functions alone.
use Rattle.std.specs.Prelude.{◌≡◌, ◌≢◌, ℕ, suc, ◌+◌, ◌<◌, ◌≤◌, true, List, [], ◌++◌, length, slice_get, Option, Some}
use Rattle.std.specs.List.{AllByRecursion}
use Rattle.flow_defs.specs.declared.job.Job.{Job}
use Rattle.flow_defs.specs.declared.image.Image.{Image}
use Rattle.flow_defs.specs.declared.image.Saved.{Saved}
use Rattle.flow_defs.specs.declared.image.Snapshot.{Snapshot}
use Rattle.flow_defs.specs.Items.{Items}
use Rattle.flow_defs.specs.Jobs.{last_edge, tasks, sum_below, is_channel}
use Rattle.plain_machine.specs.Places.{channels, sender_place, channel_place}
use Rattle.plain_machine.specs.Images.{items_at}
use Rattle.collector.specs.declared.collector.Checkpoint.{Checkpoint}
use Rattle.collector.specs.Pieces.{piece, piece_or, IsInto, IsOutOf}
use Rattle.collector.specs.Collecting.{task_count, kept_at}

-- An item was put at a place that is counted from the first one, where the list has it.
pub record IsPut {T : Type 0} (first place : ℕ) (item : T) (old new : List T) : Type 0 where
  pub many : length new ≡ length old
  pub there : (i : ℕ) → place ≡ first + i → i < length old → slice_get new i ≡ Some item
  pub others : (i : ℕ) → place ≢ first + i → slice_get new i ≡ slice_get old i

-- The pieces have no bytes.
abbrev pub AreEmpty : List (Items ℕ) → Type 0
AreEmpty pieces = (place : ℕ) → items_at pieces place ≡ []

-- An image has an item for each task and channel.
pub record HasShape (job : Job) (image : Image) : Type 0 where
  pub offsets : length image.offsets.items ≡ tasks job 0
  pub ended : length image.ended.items ≡ tasks job 0
  pub emitted : length image.emitted.items ≡ sum_below (suc (last_edge job)) (tasks job)
  pub tables : length image.tables.items ≡ tasks job (suc (last_edge job))
  pub takes : tasks job 0 + length image.takes.items ≡ task_count job
  pub saved_in : length image.saved_in.items ≡ length (channels job)
  pub saved_out : length image.saved_out.items ≡ length (channels job)

-- It is of this checkpoint, and nothing is saved in it.
pub record IsBlank (job : Job) (checkpoint : Checkpoint) (image : Image) : Type 0 where
  pub number : image.number ≡ checkpoint.number
  pub last : image.final_one ≡ checkpoint.final_one
  pub text : image.text.items ≡ job.text.items
  pub shape : HasShape job image
  pub empty_in : AreEmpty image.saved_in.items
  pub empty_out : AreEmpty image.saved_out.items

-- A piece of a channel of the job.
abbrev pub IsOfJob : Job → Saved → Type 0
IsOfJob job saved = is_channel job saved.channel.edge saved.channel.from saved.channel.to ≡ true

-- Pieces were put at the places of their channels.
pub record ArePut (job : Job) (pieces : List Saved) (old new : List (Items ℕ)) : Type 0 where
  pub many : length new ≡ length old
  pub each : (e a b : ℕ) → is_channel job e a b ≡ true →
      items_at new (channel_place job e a b) ≡ piece_or (items_at old (channel_place job e a b)) e a b pieces

-- It is the same checkpoint's image.
pub record IsSameHead (old new : Image) : Type 0 where
  pub number : new.number ≡ old.number
  pub last : new.final_one ≡ old.final_one
  pub text : new.text ≡ old.text

-- What a snapshot says was put to the places of its task.
pub record IsPutInto (job : Job) (place : ℕ) (snapshot : Snapshot) (old new : Image) : Type 0 where
  pub head : IsSameHead old new
  pub offsets : IsPut 0 place snapshot.offset old.offsets.items new.offsets.items
  pub ended : IsPut 0 place snapshot.ended old.ended.items new.ended.items
  pub emitted : IsPut 0 place snapshot.emitted old.emitted.items new.emitted.items
  pub tables : IsPut (sum_below (suc (last_edge job)) (tasks job)) place snapshot.table old.tables.items new.tables.items
  pub takes : IsPut (tasks job 0) place snapshot.takes old.takes.items new.takes.items
  pub saved_in : ArePut job snapshot.saved_in.items old.saved_in.items new.saved_in.items
  pub saved_out : ArePut job snapshot.saved_out.items old.saved_out.items new.saved_out.items

-- The snapshots from this place on stand at their places of a list, with this part of theirs.
abbrev pub Shows : {T : Type 0} → ℕ → (Snapshot → T) → List (Option Snapshot) → ℕ → List T → Type 0
Shows first part slots from_place list =
    (i : ℕ) (snapshot : Snapshot) → from_place ≤ first + i → i < length list → kept_at slots (first + i) ≡ Some snapshot → slice_get list i ≡ Some (part snapshot)

-- The pieces of the snapshots from this place on stand at their places, and the others are still empty.
pub record ShowsPieces (job : Job) (task_place : ℕ → ℕ → ℕ → ℕ) (side : Snapshot → List Saved) (slots : List (Option Snapshot)) (from_place : ℕ) (list : List (Items ℕ)) : Type 0 where
  pub put : (e a b : ℕ) (snapshot : Snapshot) → is_channel job e a b ≡ true → from_place ≤ task_place e a b → kept_at slots (task_place e a b) ≡ Some snapshot →
      items_at list (channel_place job e a b) ≡ piece e a b (side snapshot)
  pub empty : (e a b : ℕ) → is_channel job e a b ≡ true → task_place e a b < from_place → items_at list (channel_place job e a b) ≡ []

-- The places of the tasks behind and before a channel.
abbrev pub taker_place : Job → ℕ → ℕ → ℕ → ℕ
taker_place job e a b = sender_place job (suc e) b

abbrev pub putter_place : Job → ℕ → ℕ → ℕ → ℕ
putter_place job e a b = sender_place job e a

-- The snapshots from this place on stand in the image.
pub record ShowsAll (job : Job) (slots : List (Option Snapshot)) (from_place : ℕ) (image : Image) : Type 0 where
  pub offsets : Shows 0 (λ (s : Snapshot). s.offset) slots from_place image.offsets.items
  pub ended : Shows 0 (λ (s : Snapshot). s.ended) slots from_place image.ended.items
  pub emitted : Shows 0 (λ (s : Snapshot). s.emitted) slots from_place image.emitted.items
  pub tables : Shows (sum_below (suc (last_edge job)) (tasks job)) (λ (s : Snapshot). s.table) slots from_place image.tables.items
  pub takes : Shows (tasks job 0) (λ (s : Snapshot). s.takes) slots from_place image.takes.items
  pub saved_in : ShowsPieces job (taker_place job) (λ (s : Snapshot). s.saved_in.items) slots from_place image.saved_in.items
  pub saved_out : ShowsPieces job (putter_place job) (λ (s : Snapshot). s.saved_out.items) slots from_place image.saved_out.items

-- Each snapshot stands at the place of its task, and its pieces are of channels of this task.
pub record IsAtPlace (job : Job) (place : ℕ) (snapshot : Snapshot) : Type 0 where
  pub at : place ≡ sender_place job snapshot.task.stage snapshot.task.index
  pub saved_in : AllByRecursion (IsInto job snapshot.task.stage snapshot.task.index) snapshot.saved_in.items
  pub saved_out : AllByRecursion (IsOutOf job snapshot.task.stage snapshot.task.index) snapshot.saved_out.items

abbrev pub AreOfTasks : Job → List (Option Snapshot) → Type 0
AreOfTasks job slots = (place : ℕ) (snapshot : Snapshot) → kept_at slots place ≡ Some snapshot → IsAtPlace job place snapshot

-- The image, in which nothing was saved, shows all snapshots.
pub record IsFilled (job : Job) (slots : List (Option Snapshot)) (old new : Image) : Type 0 where
  pub head : IsSameHead old new
  pub shape : HasShape job new
  pub shows : ShowsAll job slots 0 new

-- Of these pieces all but the first ones, which are left, were put.
pub record PutSoFar (job : Job) (pieces rest : List Saved) (old new : List (Items ℕ)) : Type 0 where
  pub done : List Saved
  pub whole : pieces ≡ rest ++ done
  pub put : ArePut job done old new

-- Of these slots all but the first ones, which are left, were moved into the image.
pub record FilledSoFar (job : Job) (slots rest : List (Option Snapshot)) (old new : Image) : Type 0 where
  pub head : IsSameHead old new
  pub shape : HasShape job new
  pub kept : (place : ℕ) → place < length rest → kept_at rest place ≡ kept_at slots place
  pub shows : ShowsAll job slots (length rest) new
