-- The one spelling of an image in bytes. The format is this project's own; all its numbers are
-- unsigned, with the highest byte first.
use Rattle.std.specs.Prelude.{ℕ, ◌≤◌, ◌^◌, ◌<◌, Bool, List, [], ◌∷◌, ◌++◌, length, flat_map, All, codes, zip, if◌then◌else◌}
use Rattle.std.specs.Int.{w32, w64, to_be_bytes}
use Rattle.std.specs.FinMap.{entries}
use Rattle.flow_defs.specs.declared.image.TakeRun.{TakeRun}
use Rattle.flow_defs.specs.declared.image.Image.{Image}
use Rattle.flow_defs.specs.Items.{Items}
use Rattle.flow_defs.specs.Tables.{Values}

-- A flag as one byte.
abbrev pub flag_part : Bool → List ℕ
flag_part flag = (if flag then 1 else 0) ∷ []

-- A length and that many bytes.
abbrev pub sized : List ℕ → List ℕ
sized bytes = to_be_bytes w32 (length bytes) ++ bytes

-- How many rows or runs there are, and then each of them.
abbrev pub counted : {X : Type 0} → (X → List ℕ) → List X → List ℕ
counted part list = to_be_bytes w32 (length list) ++ flat_map part list

-- A source: its offset, and whether it is at its end.
abbrev pub source_part : ℕ × Bool → List ℕ
source_part source = to_be_bytes w64 source.0 ++ flag_part source.1

-- A row of a table: its key and its value.
abbrev pub row_part : List ℕ × ℕ → List ℕ
row_part row = sized row.0 ++ to_be_bytes w64 row.1

-- A run of takes: the sending task, and how many records.
abbrev pub run_part : TakeRun → List ℕ
run_part run = to_be_bytes w32 run.from ++ to_be_bytes w64 run.count

-- The two saved pieces of a channel.
abbrev pub channel_part : Items ℕ × Items ℕ → List ℕ
channel_part pieces = sized pieces.0.items ++ sized pieces.1.items

-- The image, between its two marks.
unfoldable pub spelling : Image → List ℕ
spelling image =
    codes "FLWI" ++ 1 ∷ to_be_bytes w64 image.number ++ flag_part image.final_one ++ sized image.text.items
    ++ flat_map source_part (zip image.offsets.items image.ended.items)
    ++ flat_map (to_be_bytes w64) image.emitted.items
    ++ flat_map (λ (table : Values). counted row_part (entries table)) image.tables.items
    ++ flat_map (λ (runs : Items TakeRun). counted run_part runs.items) image.takes.items
    ++ flat_map channel_part (zip image.saved_in.items image.saved_out.items)
    ++ codes "IWLF"

-- An image has a spelling: its number is not that of the start, and its lengths go into their four bytes.
pub record CanSpell (image : Image) : Type 0 where
  pub number : 1 ≤ image.number
  pub keys : All (λ (table : Values). length (entries table) < 2 ^ 32) image.tables.items
  pub runs : All (λ (runs : Items TakeRun). length runs.items < 2 ^ 32) image.takes.items
  pub pieces_in : All (λ (bytes : Items ℕ). length bytes.items < 2 ^ 32) image.saved_in.items
  pub pieces_out : All (λ (bytes : Items ℕ). length bytes.items < 2 ^ 32) image.saved_out.items
