-- What the reader of a script makes of a line, and where it stands in the text.
use Rattle.std.specs.Prelude.{◌≡◌, ℕ, suc, ◌<◌, ◌-◌, ◌^◌, ◌==◌, ◌&&◌, Bool, nat_le, List, [], ◌∷◌, length, codes, decimal, bytes_eq, if◌then◌else◌, Option, Some, None, is_none, option_map, option_and_then}
use Rattle.std.specs.List.{list_all}
use Rattle.std.specs.Str.Parse.{digits_value}
use Rattle.flow_defs.specs.Lines.{lines}
use Rattle.flow_defs.specs.declared.task.BarrierKind.{BarrierKind}
use Rattle.flow_defs.specs.declared.task.BarrierKind.TheVariants.{Inline, Front}
use Rattle.script_text.specs.Limits.{text_max, channels_max}
use Rattle.flow_defs.specs.Limits.{segment_min, segment_max, segments_max, record_max}
use Rattle.script_text.specs.declared.event.Event.{Event}
use Rattle.script_text.specs.declared.event.Event.TheVariants.{Emit, Fill, Barrier, Finish, Send, Announce, Deliver, Credit, Resume, Control, Poll, Hold, Save, Saved, Pool}
use Rattle.script_text.specs.declared.fault.ScriptFault.{ScriptFault}
use Rattle.script_text.specs.declared.fault.ScriptFault.TheVariants.{Line, Memory}
use Rattle.script_text.specs.declared.lines.EventLine.{EventLine}
use Rattle.script_text.specs.declared.lines.EventLine.TheVariants as line
use Rattle.script_text.specs.declared.reader.EventLines.{EventLines}
use Rattle.script_text.specs.declared.lines.Opening.{Opening}

-- ---- words

-- The first word of a line, and what follows it behind a space.
abbrev pub cut : List ℕ → List ℕ × Option (List ℕ)
cut [] = ([], None)
cut (b ∷ bytes) = if b == 32 then ([], Some bytes) else (b ∷ (cut bytes).0, (cut bytes).1)

-- The number that a word spells in decimal, where it is within the bounds.
abbrev pub number_of : ℕ → ℕ → List ℕ → Option ℕ
number_of least most word =
    let n = digits_value 10 word in
    if bytes_eq word (decimal n) && nat_le least n && nat_le n most then Some n else None

-- Whether the bytes may be a record's text.
abbrev pub is_text : List ℕ → Bool
is_text bytes = nat_le (length bytes) text_max && list_all (λ b. nat_le 32 b && nat_le b 126) bytes

-- ---- the first line

-- What opens the exchange, by the words of the line.
abbrev pub opening_by : List ℕ → List ℕ → List ℕ → Option (List ℕ) → Option Opening
opening_by word channels size None = None
opening_by word channels size (Some total) =
    if bytes_eq word (codes "open") then
    option_and_then (λ m. option_and_then (λ b. option_map (λ t. let o : Opening = record { channels = m; size = b; total = t } in o) (number_of 1 segments_max total)) (number_of segment_min segment_max size)) (number_of 1 channels_max channels)
    else None

abbrev pub opening_behind : List ℕ → List ℕ → Option (List ℕ) → Option Opening
opening_behind word channels None = None
opening_behind word channels (Some rest) = opening_by word channels (cut rest).0 (cut rest).1

abbrev pub opening_rest : List ℕ → Option (List ℕ) → Option Opening
opening_rest word None = None
opening_rest word (Some rest) = opening_behind word (cut rest).0 (cut rest).1

-- What the line opens, if it opens an exchange.
abbrev pub opening_of : List ℕ → Option Opening
opening_of line = opening_rest (cut line).0 (cut line).1

-- ---- the other lines

-- The event of one word.
abbrev pub bare_event : List ℕ → Option Event
bare_event word =
    if bytes_eq word (codes "send") then Some Send
    else if bytes_eq word (codes "announce") then Some Announce
    else if bytes_eq word (codes "deliver") then Some Deliver
    else if bytes_eq word (codes "control") then Some Control
    else if bytes_eq word (codes "pool") then Some Pool
    else None

-- The event of a word and a channel.
abbrev pub channel_event : List ℕ → ℕ → Option Event
channel_event word c =
    if bytes_eq word (codes "finish") then Some (Finish c)
    else if bytes_eq word (codes "credit") then Some (Credit c)
    else if bytes_eq word (codes "resume") then Some (Resume c)
    else if bytes_eq word (codes "poll") then Some (Poll c)
    else if bytes_eq word (codes "hold") then Some (Hold c)
    else None

-- A record with this text on a channel.
abbrev pub emit_event : ℕ → List ℕ → Option Event
emit_event c text = if is_text text then Some (Emit c (record { items = text; room = 0 })) else None

-- The kind of a barrier that a word spells.
abbrev pub kind_of : List ℕ → Option BarrierKind
kind_of word =
    if bytes_eq word (codes "inline") then Some Inline
    else if bytes_eq word (codes "front") then Some Front
    else None

-- A barrier on a channel, by the word of its number and that of its kind.
abbrev pub barrier_event : ℕ → List ℕ → Option (List ℕ) → Option Event
barrier_event c number None = None
barrier_event c number (Some word) = option_and_then (λ kind. option_map (λ k. Barrier c k kind) (number_of 1 (2 ^ 64 - 1) number)) (kind_of word)

-- The event of a word, a channel, and what follows them.
abbrev pub long_event : List ℕ → ℕ → List ℕ → Option Event
long_event word c rest =
    if bytes_eq word (codes "emit") then emit_event c rest
    else if bytes_eq word (codes "fill") then option_map (λ n. Fill c n) (number_of 0 record_max rest)
    else if bytes_eq word (codes "barrier") then barrier_event c (cut rest).0 (cut rest).1
    else if bytes_eq word (codes "save") then option_map (λ k. Save c k) (number_of 1 (2 ^ 64 - 1) rest)
    else if bytes_eq word (codes "saved") then option_map (λ k. Saved c k) (number_of 1 (2 ^ 64 - 1) rest)
    else None

abbrev pub event_behind : List ℕ → Option ℕ → Option (List ℕ) → Option Event
event_behind word None rest = None
event_behind word (Some c) None = channel_event word c
event_behind word (Some c) (Some rest) = long_event word c rest

abbrev pub event_rest : ℕ → List ℕ → Option (List ℕ) → Option Event
event_rest channels word None = bare_event word
event_rest channels word (Some rest) = event_behind word (number_of 1 channels (cut rest).0) (cut rest).1

-- The event of a line in an exchange of so many channels, if it is one's.
abbrev pub event_of : ℕ → List ℕ → Option Event
event_of channels line = event_rest channels (cut line).0 (cut line).1

-- ---- the text

-- The number of the first of these lines that is no event's; the first of them has this number.
abbrev pub bad_from : ℕ → ℕ → List (List ℕ) → Option ℕ
bad_from channels number [] = None
bad_from channels number (line ∷ rest) = if is_none (event_of channels line) then Some number else bad_from channels (suc number) rest

-- The number of the first bad line, where the first line opens this.
abbrev pub bad_behind : Option Opening → List (List ℕ) → Option ℕ
bad_behind None rest = Some 1
bad_behind (Some opening) rest = bad_from opening.channels 2 rest

-- The number of the first bad line of these; where there is none, the first is lacking.
abbrev pub bad_line : List (List ℕ) → Option ℕ
bad_line [] = Some 1
bad_line (first ∷ rest) = bad_behind (opening_of first) rest

-- What is told is this bad line.
abbrev pub IsTold : ScriptFault → Option ℕ → Type 0
IsTold (Line number) bad = bad ≡ Some number
IsTold Memory bad = ⊥

-- ---- the reader

-- The event that a line tells.
abbrev pub told_event : EventLine → Event
told_event (line.Emit c text) = Emit c (record { items = text.now; room = 0 })
told_event (line.Other event) = event

-- The lines that are left.
abbrev pub lines_left : EventLines → List (List ℕ)
lines_left reader = lines reader.rest.now

-- The number of their first bad one.
abbrev pub bad_left : EventLines → Option ℕ
bad_left reader = bad_from reader.channels reader.number (lines_left reader)

-- The first of the lines that were left tells this.
pub record TakesEvent (old new : EventLines) (line : EventLine) : Type 0 where
  pub text : List ℕ
  pub lines_are : lines_left old ≡ text ∷ lines_left new
  pub event_is : event_of old.channels text ≡ Some (told_event line)
  pub channels : new.channels ≡ old.channels
  pub bad : bad_left old ≡ bad_left new
  pub shorter : length new.rest.now < length old.rest.now

-- Nothing was left, or a line was taken.
abbrev pub TakesOrEnds : EventLines → EventLines → Option EventLine → Type 0
TakesOrEnds old new None = lines_left old ≡ []
TakesOrEnds old new (Some line) = TakesEvent old new line

-- The first line of the text opens this, and these bytes follow it.
pub record Opens (text : List ℕ) (opening : Opening) (rest : List ℕ) : Type 0 where
  pub first : List ℕ
  pub lines_are : lines text ≡ first ∷ lines rest
  pub opening_is : opening_of first ≡ Some opening
