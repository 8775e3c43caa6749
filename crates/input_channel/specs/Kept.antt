-- What holds of the fields of an input channel, and how contracts see them. It serves the channel's own
-- functions; no public contract cites it.
use Rattle.std.specs.Prelude.{◌≡◌, ℕ, ◌+◌, ◌-◌, ◌<◌, ◌≤◌, ◌^◌, ⊤, Bool, true, false, List, [], ◌∷◌, ◌++◌, map, length, nat_le, if◌then◌else◌, Option, Some, None}
use Rattle.circular_buffer.specs.Buffer.{buffer}
use Rattle.flow_defs.specs.declared.parcel.Parcel.{Parcel}
use Rattle.flow_defs.specs.declared.parcel.Parcel.TheVariants.{End}
use Rattle.flow_defs.specs.Parcels.{barriers_of}
use Rattle.input_channel.specs.declared.held.HeldBuf.{HeldBuf}
use Rattle.input_channel.specs.declared.parts.Saving.{Saving}
use Rattle.input_channel.specs.declared.parts.Parts.{Parts}
use Rattle.input_channel.specs.Contents.{content}
use Rattle.input_channel.specs.Inboxes.{Arrived, Waits, parcel_of, waiting_before}
use Rattle.input_channel.specs.Counts.{Counts, floating_held, exclusive_held}
use Rattle.input_channel.specs.Lines.{Line, parcels, kinds_of, GivesFirst}
use Rattle.input_channel.specs.States.{OpenSave, ChannelState}

-- What waits in the line, and the end behind it where that waits; and the line so.
abbrev pub queue_of : Line → Bool → List Parcel
queue_of line end_waits = if end_waits then parcels line ++ End ∷ [] else parcels line

abbrev pub line_of : Line → Bool → List Arrived
line_of line end_waits = if end_waits then line.arrived ++ Waits End ∷ [] else line.arrived

-- The save that is open.
abbrev pub save_of : Option Saving → Option OpenSave
save_of None = None
save_of (Some save) = Some (record { number = save.number; bytes = save.bytes.items })

abbrev pub counts_of : List (List ℕ) → List (List ℕ) → Line → ℕ → ℕ → Bool → Counts
counts_of exclusive floating line pending required shut = record {
  exclusive = length exclusive;
  floating = length floating;
  held = kinds_of line.buffers;
  pending = pending;
  required = required;
  shut = shut;
}

-- What contracts see of the fields.
abbrev pub state_of : Parts → ChannelState
state_of c = record {
  queue = queue_of c.queue c.end_waits;
  line = line_of c.queue c.end_waits;
  reached = c.reached;
  save = save_of c.save;
  counts = counts_of c.exclusive.items c.floating.items c.queue c.pending c.required c.is_shut;
  credit = c.credit;
  announced = c.announced;
  received = c.received;
  next = c.next;
  last = c.last;
  ended = c.ended;
  owed = c.owed;
  asked = c.asked;
  size = c.size;
  room = c.room;
}

-- The fields of a channel that has no buffer yet.
abbrev pub empty_parts : ℕ → ℕ → Parts
empty_parts size room = record {
  queue = record { arrived = []; buffers = []; room = room };
  reached = 0;
  save = None;
  exclusive = buffer [] 2;
  floating = buffer [] room;
  pending = 0;
  required = 2;
  is_shut = false;
  credit = 2;
  announced = 2;
  received = 0;
  next = 0;
  last = 0;
  ended = false;
  end_waits = false;
  owed = 0;
  asked = 0;
  size = size;
  room = room;
}

-- All segments have this length, and those of all buffers.
abbrev pub HaveLength : ℕ → List (List ℕ) → Type 0
HaveLength size [] = ⊤
HaveLength size (s ∷ segments) = (length s ≡ size) × HaveLength size segments

abbrev pub AreOfLength : ℕ → List HeldBuf → Type 0
AreOfLength size [] = ⊤
AreOfLength size (buf ∷ buffers) = (length buf.segment ≡ size) × AreOfLength size buffers

-- The rings have places for all buffers that a channel may have; the free buffers are the credit that is open
-- and the credit to announce; no more barriers stand in the line than came, and there are resumptions for no more;
-- and what is kept in 64 bits fits there.
pub record ArePartsKept (c : Parts) : Type 0 where
  pub exclusive_places : c.exclusive.capacity ≡ 2
  pub floating_places : c.floating.capacity ≡ c.room
  pub queue_places : c.queue.room ≡ c.room
  pub room : c.room < 2 ^ 31
  pub two : length c.exclusive.items + exclusive_held (counts_of c.exclusive.items c.floating.items c.queue c.pending c.required c.is_shut) ≤ 2
  pub within : 2 + (length c.floating.items + floating_held (counts_of c.exclusive.items c.floating.items c.queue c.pending c.required c.is_shut)) ≤ c.room
  pub credit : length c.exclusive.items + length c.floating.items ≡ c.credit + c.pending
  pub exclusive_sizes : HaveLength c.size c.exclusive.items
  pub floating_sizes : HaveLength c.size c.floating.items
  pub queue_sizes : AreOfLength c.size c.queue.buffers
  pub barriers : length (barriers_of (map parcel_of c.queue.arrived)) ≤ c.last
  pub resumptions : c.owed + c.asked + length (barriers_of (parcels c.queue)) ≤ c.last
  pub announced : c.announced < 2 ^ 64
  pub received : c.received < 2 ^ 64
  pub last : c.last < 2 ^ 64
  pub end : c.end_waits ≡ true → c.ended ≡ true

-- ---- what polled data do

-- How many barriers came before all that is in the line.
abbrev pub passed_by : Parts → ℕ
passed_by c = c.last - length (barriers_of (map parcel_of c.queue.arrived))

-- An open save gains data, if its barrier did not come before them.
abbrev pub with_gain : ℕ → List ℕ → Option OpenSave → Option OpenSave
with_gain passed bytes None = None
with_gain passed bytes (Some save) = Some (record { number = save.number; bytes = save.bytes ++ (if nat_le save.number passed then [] else bytes) })

-- The first data are taken, and all before them is reached.
pub record TakesData (old : Parts) (buf : HeldBuf) (new : Parts) : Type 0 where
  pub gives : GivesFirst old.queue buf new.queue
  pub same : new ≡ record old { queue = new.queue; reached = passed_by old; save = new.save }
  pub save : save_of new.save ≡ with_gain (passed_by old) (content buf) (save_of old.save)

-- There was no memory for what the save would gain, and all is as before.
pub record TakesNothing (old new : Parts) : Type 0 where
  pub same : new ≡ record old { save = new.save }
  pub save : save_of new.save ≡ save_of old.save

-- A save for barrier k is open; and it is closed, and gives what it has, with the data that wait before the barrier.
abbrev pub IsSavingFor : Option Saving → ℕ → Type 0
IsSavingFor save k = (now : OpenSave) × (save_of save ≡ Some now) × (now.number ≡ k)

pub record ClosesSave (old : Parts) (k : ℕ) (bytes : List ℕ) (new : Parts) : Type 0 where
  pub same : new ≡ record old { save = None }
  pub gives : with_gain (passed_by old) (waiting_before k old.queue.arrived) (save_of old.save) ≡ Some (record { number = k; bytes = bytes })
