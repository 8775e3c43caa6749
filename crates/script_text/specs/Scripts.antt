-- The text of a script: a line that opens the exchange, then one line for each event. Its grammar is
-- this project's own choice.
use Rattle.std.specs.Prelude.{◌≡◌, ℕ, ◌<◌, ◌≤◌, ◌^◌, List, [], ◌∷◌, length, map, codes, decimal, All}
use Rattle.std.specs.List.{AllByRecursion, join_with_byte}
use Rattle.flow_defs.specs.Lines.{lines}
use Rattle.flow_defs.specs.declared.task.BarrierKind.{BarrierKind}
use Rattle.flow_defs.specs.declared.task.BarrierKind.TheVariants.{Inline, Front}
use Rattle.script_text.specs.Limits.{channels_max, text_max}
use Rattle.flow_defs.specs.Limits.{segment_min, segment_max, segments_max, record_max}
use Rattle.script_text.specs.declared.event.Event.{Event}
use Rattle.script_text.specs.declared.event.Event.TheVariants.{Emit, Fill, Barrier, Finish, Send, Announce, Deliver, Credit, Resume, Control, Poll, Hold, Save, Saved, Pool}
use Rattle.script_text.specs.declared.event.Script.{Script}

-- The line of these words: there is one space between two of them.
abbrev pub line_of : List (List ℕ) → List ℕ
line_of words = join_with_byte 32 words

-- ---- how it is spelled

-- The first line: so many channels, so many bytes in a segment, so many segments.
abbrev pub open_line : ℕ → ℕ → ℕ → List ℕ
open_line channels size total = line_of (codes "open" ∷ decimal channels ∷ decimal size ∷ decimal total ∷ [])

-- The kind of a barrier.
abbrev pub kind_word : BarrierKind → List ℕ
kind_word Inline = codes "inline"
kind_word Front = codes "front"

-- The words of an event. A record's text is the last one of its line; it may be empty or have spaces.
abbrev pub event_words : Event → List (List ℕ)
event_words (Emit c text) = codes "emit" ∷ decimal c ∷ text.items ∷ []
event_words (Fill c n) = codes "fill" ∷ decimal c ∷ decimal n ∷ []
event_words (Barrier c k kind) = codes "barrier" ∷ decimal c ∷ decimal k ∷ kind_word kind ∷ []
event_words (Finish c) = codes "finish" ∷ decimal c ∷ []
event_words Send = codes "send" ∷ []
event_words Announce = codes "announce" ∷ []
event_words Deliver = codes "deliver" ∷ []
event_words (Credit c) = codes "credit" ∷ decimal c ∷ []
event_words (Resume c) = codes "resume" ∷ decimal c ∷ []
event_words Control = codes "control" ∷ []
event_words (Poll c) = codes "poll" ∷ decimal c ∷ []
event_words (Hold c) = codes "hold" ∷ decimal c ∷ []
event_words (Save c k) = codes "save" ∷ decimal c ∷ decimal k ∷ []
event_words (Saved c k) = codes "saved" ∷ decimal c ∷ decimal k ∷ []
event_words Pool = codes "pool" ∷ []

-- The line of an event.
abbrev pub event_line : Event → List ℕ
event_line event = line_of (event_words event)

-- ---- what it may be

-- An exchange may have so many channels, such segments, and so many of them.
pub record IsOpening (channels size total : ℕ) : Type 0 where
  pub some_channels : 1 ≤ channels
  pub few_channels : channels ≤ channels_max
  pub low : segment_min ≤ size
  pub high : size ≤ segment_max
  pub some_segments : 1 ≤ total
  pub few_segments : total ≤ segments_max

-- There is a channel with this number.
abbrev pub IsChannel : ℕ → ℕ → Type 0
IsChannel channels c = (1 ≤ c) × (c ≤ channels)

-- The text of a record: each byte is one that ASCII prints.
pub record IsText (text : List ℕ) : Type 0 where
  pub not_long : length text ≤ text_max
  pub printed : All (λ b. (32 ≤ b) × (b ≤ 126)) text

-- An event that may happen in an exchange of so many channels.
abbrev pub IsEvent : ℕ → Event → Type 0
IsEvent channels (Emit c text) = IsChannel channels c × IsText text.items
IsEvent channels (Fill c n) = IsChannel channels c × (n ≤ record_max)
IsEvent channels (Barrier c k kind) = IsChannel channels c × (1 ≤ k) × (k < 2 ^ 64)
IsEvent channels (Finish c) = IsChannel channels c
IsEvent channels Send = Unit {0}
IsEvent channels Announce = Unit {0}
IsEvent channels Deliver = Unit {0}
IsEvent channels (Credit c) = IsChannel channels c
IsEvent channels (Resume c) = IsChannel channels c
IsEvent channels Control = Unit {0}
IsEvent channels (Poll c) = IsChannel channels c
IsEvent channels (Hold c) = IsChannel channels c
IsEvent channels (Save c k) = IsChannel channels c × (1 ≤ k) × (k < 2 ^ 64)
IsEvent channels (Saved c k) = IsChannel channels c × (1 ≤ k) × (k < 2 ^ 64)
IsEvent channels Pool = Unit {0}

-- The text is of this script: it has the script's lines, the last of them with or without its newline,
-- and each number and each record's text is one as the grammar allows it.
pub record IsScriptText (text : List ℕ) (script : Script) : Type 0 where
  pub lines_are : lines text ≡ open_line script.channels script.size script.total ∷ map event_line script.events.items
  pub opening : IsOpening script.channels script.size script.total
  pub events : AllByRecursion (IsEvent script.channels) script.events.items

-- ---- what is the same

-- An event, whatever the room is that its record's text has for more bytes.
abbrev pub contents : Event → Event
contents (Emit c text) = Emit c (record { items = text.items; room = 0 })
contents event = event

-- Two scripts have the same exchange and the same events.
pub record IsSameScript (script other : Script) : Type 0 where
  pub channels : script.channels ≡ other.channels
  pub size : script.size ≡ other.size
  pub total : script.total ≡ other.total
  pub events : map contents script.events.items ≡ map contents other.events.items
