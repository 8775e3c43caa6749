-- What an image says. As in FLIP-76 a checkpoint holds the states of all tasks and the data in flight,
-- partly from the receiver's side of a channel and partly from the sender's. Which lists hold them is
-- this project's own choice.
use Rattle.std.specs.Prelude.{◌≡◌, ◌≢◌, ℕ, zero, suc, ◌<◌, ◌≤◌, ⊤, true, false, IsTrue, List, [], ◌∷◌, ◌++◌, length, slice_index, slice_get, All, unwrap_or}
use Rattle.std.specs.Option.{option_map_or}
use Rattle.std.specs.FinMap.{empty, entries}
use Rattle.flow_defs.specs.declared.job.Job.{Job}
use Rattle.flow_defs.specs.declared.image.TakeRun.{TakeRun}
use Rattle.flow_defs.specs.declared.image.Image.{Image}
use Rattle.flow_defs.specs.Items.{Items}
use Rattle.flow_defs.specs.Records.{spans, IsShort, IsSpans}
use Rattle.flow_defs.specs.Jobs.{tasks, last_edge, is_channel}
use Rattle.flow_defs.specs.Tables.{Values}
use Rattle.plain_machine.specs.Cuts.{Cut}
use Rattle.plain_machine.specs.Places.{sending_tasks, receiving_tasks, channels, sender_place, receiver_place, channel_place}

-- The items of the list at this place, where there is one.
abbrev pub items_at : {T : Type 0} → List (Items T) → ℕ → List T
items_at {T} lists place = option_map_or (λ (l : Items T). l.items) (slice_get lists place) []

-- The bytes that an image has saved of a channel: those that had come in, and then those that a barrier overtook.
abbrev pub saved : Job → Image → ℕ → ℕ → ℕ → List ℕ
saved job image e a b = items_at image.saved_in.items (channel_place job e a b) ++ items_at image.saved_out.items (channel_place job e a b)

-- Where the job stands at an image. What is in flight is read off the saved bytes by `spans`, which is told
-- of any bytes.
abbrev pub cut_of : Job → Image → Cut
cut_of job image = record {
  offsets = slice_index image.offsets.items;
  emitted = λ i a. slice_index image.emitted.items (sender_place job i a);
  tables = λ b. unwrap_or (slice_get image.tables.items b) empty;
  flight = λ e a b. spans (saved job image e a b);
}

-- What each task has taken since the image before, by stage and index. Sources take nothing.
abbrev pub takes_of : Job → Image → ℕ → ℕ → List TakeRun
takes_of job image zero b = []
takes_of job image (suc e) b = items_at image.takes.items (receiver_place job e b)

-- Runs of task b behind edge e: each is of a sender that has a channel to it, takes at least one
-- record, and is of another sender than the run before.
abbrev pub AreRuns : Job → ℕ → ℕ → List TakeRun → Type 0
AreRuns job e b [] = ⊤
AreRuns job e b (run ∷ []) = IsTrue (is_channel job e run.from b) × (1 ≤ run.count)
AreRuns job e b (run ∷ other ∷ runs) = IsTrue (is_channel job e run.from b) × (1 ≤ run.count) × (run.from ≢ other.from) × AreRuns job e b (other ∷ runs)

-- The bytes are the encodings of some records.
abbrev pub AreSpans : List ℕ → Type 0
AreSpans bytes = (records : List (List ℕ)) × IsSpans bytes records

-- The keys of a table are records or parts of them, so none is longer than a record.
abbrev pub HasShortKeys : Values → Type 0
HasShortKeys table = All (λ (row : List ℕ × ℕ). IsShort row.0) (entries table)

-- All sources are at their ends.
abbrev pub AllEnded : Image → Type 0
AllEnded image = All (λ ended. ended ≡ true) image.ended.items

-- An image fits a job: it has an item for each task and channel, its takes are runs, and what it saved
-- are records. In a last image all sources are at their ends and nothing is saved.
-- Whether its text is of a job's grammar and its numbers go into their bytes is not asked here.
pub record Fits (job : Job) (image : Image) : Type 0 where
  pub offsets : length image.offsets.items ≡ tasks job 0
  pub ended : length image.ended.items ≡ tasks job 0
  pub emitted : length image.emitted.items ≡ length (sending_tasks job)
  pub tables : length image.tables.items ≡ tasks job (suc (last_edge job))
  pub takes : length image.takes.items ≡ length (receiving_tasks job)
  pub saved_in : length image.saved_in.items ≡ length (channels job)
  pub saved_out : length image.saved_out.items ≡ length (channels job)
  pub keys : All HasShortKeys image.tables.items
  pub runs : (e b : ℕ) → e ≤ last_edge job → b < tasks job (suc e) → AreRuns job e b (takes_of job image (suc e) b)
  pub spans : (e a b : ℕ) → is_channel job e a b ≡ true → AreSpans (saved job image e a b)
  pub last_is_ended : image.final_one ≡ true → AllEnded image
  pub last_is_empty : image.final_one ≡ true → (e a b : ℕ) → is_channel job e a b ≡ true → saved job image e a b ≡ []

-- The image before the first: number 0, nothing read, emitted, counted or taken, nothing in flight, and not the last.
pub record IsStart (job : Job) (image : Image) : Type 0 where
  pub fits : Fits job image
  pub number : image.number ≡ 0
  pub text : image.text.items ≡ job.text.items
  pub not_last : image.final_one ≡ false
  pub offsets : All (λ offset. offset ≡ 0) image.offsets.items
  pub ended : All (λ ended. ended ≡ false) image.ended.items
  pub emitted : All (λ count. count ≡ 0) image.emitted.items
  pub tables : All (λ (table : Values). table ≡ empty) image.tables.items
  pub takes : All (λ (runs : Items TakeRun). runs.items ≡ []) image.takes.items
  pub saved_in : All (λ (bytes : Items ℕ). bytes.items ≡ []) image.saved_in.items
  pub saved_out : All (λ (bytes : Items ℕ). bytes.items ≡ []) image.saved_out.items
