-- What a gate's end of a channel keeps between its turns. This is this project's own choice.
use Rattle.std.specs.Prelude.{◌≡◌, ℕ, Bool, List, length}
use Rattle.input_channel.specs.declared.entry.ReceiveEntry.{ReceiveEntry}
use Rattle.input_channel.specs.declared.polled.Polled.{Polled}
use Rattle.input_channel.specs.declared.polled.Polled.TheVariants.{Buffer, Barrier, End, Empty, Held}
use Rattle.input_channel.specs.Legal.{polled_with, returned}

-- Of each kind of buffers as many came back as polls gave.
abbrev pub IsEven : List ReceiveEntry → Type 0
IsEven es = (exclusive : Bool) → polled_with exclusive es ≡ returned exclusive es

-- A buffer that was polled has this length.
abbrev pub HasLength : ℕ → Polled → Type 0
HasLength size (Buffer buf) = length buf.segment ≡ size
HasLength size (Barrier k kind) = Unit {0}
HasLength size End = Unit {0}
HasLength size Empty = Unit {0}
HasLength size Held = Unit {0}
