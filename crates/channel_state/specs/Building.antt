-- What is read of an image, part by part.
use Rattle.std.specs.Prelude.{◌≡◌, ℕ, suc, ◌<◌, ◌^◌, Bool, true, List, [], ◌++◌, length, flat_map, zip, slice_index, All}
use Rattle.std.specs.FinMap.{entries}
use Rattle.flow_defs.specs.declared.job.Job.{Job}
use Rattle.flow_defs.specs.declared.image.TakeRun.{TakeRun}
use Rattle.flow_defs.specs.Items.{Items}
use Rattle.flow_defs.specs.Tables.{Values}
use Rattle.flow_defs.specs.Jobs.{tasks}
use Rattle.plain_machine.specs.Places.{receiver_place}
use Rattle.plain_machine.specs.Images.{items_at, AreRuns, AreSpans, HasShortKeys}
use Rattle.plain_machine.specs.Spelling.{counted, source_part, row_part, run_part, channel_part, spelling, CanSpell}
use Rattle.flow_defs.specs.declared.image.Image.{Image}
use Rattle.channel_state.specs.Contents.{FitsItsText}

-- Each is below 256.
abbrev pub IsBytes : List ℕ → Type 0
IsBytes bytes = (i : ℕ) → slice_index bytes i < 256

-- The bytes before are this text and then those behind.
pub record TakesText (before text behind : List ℕ) : Type 0 where
  pub parts : before ≡ text ++ behind
  pub rest_fits : IsBytes behind

-- These items, each as it has to be, are what the bytes before spell, up to those behind.
pub record IsRead {X : Type 0} (part : X → List ℕ) (P : X → Type 0) (before behind : List ℕ) (items : List X) : Type 0 where
  pub spelled : TakesText before (flat_map part items) behind
  pub each : All P items

-- A source of an image is at its end, where the image is the last.
abbrev pub IsSource : Bool → ℕ × Bool → Type 0
IsSource last source = last ≡ true → source.1 ≡ true

-- A table has a number of rows that goes into four bytes, and short keys.
pub record IsTable (table : Values) : Type 0 where
  pub count : length (entries table) < 2 ^ 32
  pub keys : HasShortKeys table

-- The number of runs goes into four bytes.
abbrev pub IsCount : Items TakeRun → Type 0
IsCount runs = length runs.items < 2 ^ 32

-- The pieces of a channel have lengths that go into four bytes, are records together, and in a last image empty.
pub record ArePieces (last : Bool) (pieces : Items ℕ × Items ℕ) : Type 0 where
  pub first : length pieces.0.items < 2 ^ 32
  pub second : length pieces.1.items < 2 ^ 32
  pub spans : AreSpans (pieces.0.items ++ pieces.1.items)
  pub empty : last ≡ true → pieces.0.items ++ pieces.1.items ≡ []

abbrev pub table_part : Values → List ℕ
table_part table = counted row_part (entries table)

abbrev pub takes_part : Items TakeRun → List ℕ
takes_part runs = counted run_part runs.items

-- The sources of an image.
pub record AreSources (many : ℕ) (last : Bool) (before behind : List ℕ) (offsets : List ℕ) (ended : List Bool) : Type 0 where
  pub read : IsRead source_part (IsSource last) before behind (zip offsets ended)
  pub offset_count : length offsets ≡ many
  pub ended_count : length ended ≡ many

-- The pieces of its channels.
pub record AreSaved (many : ℕ) (last : Bool) (before behind : List ℕ) (saved_in saved_out : List (Items ℕ)) : Type 0 where
  pub read : IsRead channel_part (ArePieces last) before behind (zip saved_in saved_out)
  pub first_count : length saved_in ≡ many
  pub second_count : length saved_out ≡ many

-- The takes of all tasks that stand before task b behind edge e.
pub record AreTakes (job : Job) (e b : ℕ) (before behind : List ℕ) (takes : List (Items TakeRun)) : Type 0 where
  pub read : IsRead takes_part IsCount before behind takes
  pub count : length takes ≡ receiver_place job e b
  pub runs : (edge to : ℕ) → to < tasks job (suc edge) → receiver_place job edge to < length takes → AreRuns job edge to (items_at takes (receiver_place job edge to))

-- The runs of task b behind edge e.
pub record AreRunsRead (job : Job) (e b : ℕ) (before behind : List ℕ) (runs : List TakeRun) : Type 0 where
  pub spelled : TakesText before (counted run_part runs) behind
  pub count : length runs < 2 ^ 32
  pub runs_are : AreRuns job e b runs

-- So many runs of task b behind edge e.
pub record AreRunsSoFar (job : Job) (e b many : ℕ) (before behind : List ℕ) (runs : List TakeRun) : Type 0 where
  pub spelled : TakesText before (flat_map run_part runs) behind
  pub count : length runs ≡ many
  pub runs_are : AreRuns job e b runs

-- So many rows of a table.
pub record AreRows (many : ℕ) (before behind : List ℕ) (table : Values) : Type 0 where
  pub spelled : TakesText before (flat_map row_part (entries table)) behind
  pub count : length (entries table) ≡ many
  pub keys : HasShortKeys table

-- A table.
pub record IsTableRead (before behind : List ℕ) (table : Values) : Type 0 where
  pub spelled : TakesText before (table_part table) behind
  pub is_table : IsTable table

-- The image is one that these bytes spell.
pub record IsSpelledBy (bytes : List ℕ) (image : Image) : Type 0 where
  pub can : CanSpell image
  pub fits : FitsItsText image
  pub spelled : spelling image ≡ bytes
