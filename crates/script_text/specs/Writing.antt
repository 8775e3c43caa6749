-- What the writer of replies writes.
use Rattle.std.specs.Prelude.{ℕ, List, [], ◌∷◌, length, map, flat_map, codes, decimal}
use Rattle.flow_defs.specs.Items.{Items}
use Rattle.hex.specs.Hex.{encode_lower}
use Rattle.script_text.specs.declared.reply.Part.{Part}
use Rattle.script_text.specs.declared.reply.Part.TheVariants.{Word, Number, Saved}
use Rattle.script_text.specs.Scripts.{line_of}
use Rattle.script_text.specs.Replies.{bytes_word, record_line}

-- The digits of bytes, two for each.
abbrev pub digits_text : List ℕ → List ℕ
digits_text bytes = flat_map (λ b. encode_lower (b ∷ [])) bytes

-- How a part of a line is spelled.
abbrev pub part_word : Part → List ℕ
part_word (Word text) = text.now
part_word (Number number) = decimal number
part_word (Saved bytes) = bytes_word bytes.now

-- The lines of a buffer that was taken on a channel.
abbrev pub data_lines : ℕ → ℕ → List (Items ℕ) → List (List ℕ)
data_lines c len records = line_of (codes "data" ∷ decimal c ∷ decimal len ∷ decimal (length records) ∷ []) ∷ map (λ (text : Items ℕ). record_line c text.items) records
