-- What the functions that read an image answer.
use Rattle.std.specs.Prelude.{◌≡◌, ℕ, List, [], Result, Ok, Err}
use Rattle.channel_state.specs.declared.cursor.Fault.{Fault}
use Rattle.channel_state.specs.declared.check.Part.{Part}
use Rattle.channel_state.specs.declared.check.Part.TheVariants as part
use Rattle.channel_state.specs.Reading.{Reading, Passing}
use Rattle.channel_state.specs.ImageFaults.{source, emitted, table, channel}

-- A field was read, with these bytes behind it, or reading stopped at its fault.
abbrev pub Gives : {X Y : Type 0} → (X → Y) → List ℕ → Result X Fault → Reading Y → Type 0
Gives view rest (Ok x) reading = reading ≡ Ok (view x, rest)
Gives view rest (Err e) reading = reading ≡ Err e.left

-- Fields were passed, with these bytes behind them, or reading stopped at a fault.
abbrev pub Passes : List ℕ → Result Unit Fault → Passing → Type 0
Passes rest (Ok done) reading = reading ≡ Ok rest
Passes rest (Err e) reading = reading ≡ Err e.left

-- How a part is passed.
abbrev pub part_of : Part → List ℕ → Passing
part_of (part.Source last) = source last
part_of part.Count = emitted
part_of part.Table = table
part_of (part.Channel last) = channel last
