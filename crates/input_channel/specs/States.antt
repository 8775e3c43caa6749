-- What contracts see of an input channel, what each entry makes of it, and the histories for which it stands.
-- How a channel keeps what its history tells is this project's own choice.
use Rattle.std.specs.Prelude.{◌≡◌, ℕ, suc, ◌+◌, ◌-◌, ◌<◌, ◌≤◌, ◌%◌, ◌^◌, ⊤, Bool, true, false, ◌&&◌, List, [], ◌∷◌, ◌++◌, map, length, nat_le, if◌then◌else◌, Option, Some, None, option_to_list}
use Rattle.flow_defs.specs.declared.parcel.Parcel.{Parcel}
use Rattle.flow_defs.specs.declared.parcel.Parcel.TheVariants.{Data, Barrier, End}
use Rattle.flow_defs.specs.Parcels.{barriers_of, has_end}
use Rattle.input_channel.specs.declared.entry.ReceiveEntry.{ReceiveEntry}
use Rattle.input_channel.specs.declared.entry.ReceiveEntry.TheVariants.{Push, Poll, Returned, Added, Backlog, Credit, Shut, Ask, Resume, Save, Saved}
use Rattle.input_channel.specs.Inboxes.{Arrived, WasPolled, Waits, parcel_of, inbox, pushed, waiting, due, is_barrier, poll_due, poll_gives, poll_leaves, polled_bytes, waiting_before, saved, has_save}
use Rattle.input_channel.specs.Counts.{Counts, counts_at_opening, counts_one, free, told, wants, gave_by, data_in, exclusive_held, numbers}
use Rattle.turn_cell.specs.History.{IsHistory, entries_of}
use Rattle.input_channel.specs.Legal.{inline_in, asks, resumes, returned, polled_with, open_save, MayReceiveAs}

-- A save that is open: the number of its barrier, and the rest with the data before that barrier that were polled since.
pub record OpenSave : Type 0 where
  pub number : ℕ
  pub bytes : List ℕ

-- What waits, in order of arrival; the same with the barriers in their places that were polled before data which came before them; how many
-- barriers came before the data that were polled last; the save that is open; the counts of buffers; the credit that is open, which is
-- what was announced and not used; what was announced and received, each modulo 2^64; the sequence number that comes next; the
-- number of the last barrier; whether the end came; the resumptions that are owed, for inline barriers that
-- were polled, and those asked for and not taken; the length of a segment; and the room, in buffers.
pub record ChannelState : Type 0 where
  pub queue : List Parcel
  pub line : List Arrived
  pub reached : ℕ
  pub save : Option OpenSave
  pub counts : Counts
  pub credit : ℕ
  pub announced : ℕ
  pub received : ℕ
  pub next : ℕ
  pub last : ℕ
  pub ended : Bool
  pub owed : ℕ
  pub asked : ℕ
  pub size : ℕ
  pub room : ℕ

-- A channel that was opened with its two exclusive buffers.
abbrev pub opening : ℕ → ℕ → ChannelState
opening size room = record {
  queue = [];
  line = [];
  reached = 0;
  save = None;
  counts = counts_at_opening;
  credit = 2;
  announced = 2;
  received = 0;
  next = 0;
  last = 0;
  ended = false;
  owed = 0;
  asked = 0;
  size = size;
  room = room;
}

-- The arrivals from the first one on that waits.
abbrev pub from_waiting : List Arrived → List Arrived
from_waiting [] = []
from_waiting (WasPolled p ∷ xs) = from_waiting xs
from_waiting (Waits p ∷ xs) = Waits p ∷ xs

-- What a poll leaves of a line.
abbrev pub line_leaves : Bool → List Arrived → List Arrived
line_leaves hold xs = if hold && is_barrier (due (waiting xs)) then xs else from_waiting (poll_due xs)

-- How many barriers came before all that is in the line, and how many were polled.
abbrev pub passed : ChannelState → ℕ
passed c = c.last - length (barriers_of (map parcel_of c.line))

abbrev pub polled_barriers : ChannelState → ℕ
polled_barriers c = c.last - length (barriers_of c.queue)

-- What comes before the data that are polled is reached.
abbrev pub reached_by : ChannelState → Option Parcel → ℕ
reached_by c None = c.reached
reached_by c (Some (Data bytes)) = passed c
reached_by c (Some (Barrier k kind)) = c.reached
reached_by c (Some End) = c.reached

-- What an open save for barrier k gains when this is polled: data that came before the barrier.
abbrev pub gain : ChannelState → ℕ → Option Parcel → List ℕ
gain c k None = []
gain c k (Some (Data bytes)) = if nat_le k (passed c) then [] else bytes
gain c k (Some (Barrier j kind)) = []
gain c k (Some End) = []

abbrev pub gained : ChannelState → Option Parcel → Option OpenSave → Option OpenSave
gained c p None = None
gained c p (Some save) = Some (record { number = save.number; bytes = save.bytes ++ gain c save.number p })

-- What is saved by an open save once its barrier has come.
abbrev pub saved_bytes : ChannelState → OpenSave → List ℕ
saved_bytes c save = save.bytes ++ (if nat_le save.number (passed c) then [] else waiting_before save.number c.line)

-- The channel after an entry.
abbrev pub channel_next : ChannelState → ReceiveEntry → ChannelState
channel_next c (Push p backlog) = record c {
  queue = c.queue ++ p ∷ [];
  line = c.line ++ Waits p ∷ [];
  counts = counts_one c.counts (Push p backlog);
  credit = c.credit - data_in p;
  received = (c.received + data_in p) % 2 ^ 64;
  next = (c.next + 1) % 2 ^ 32;
  last = c.last + length (barriers_of (p ∷ []));
  ended = has_end (p ∷ []);
}
channel_next c (Poll hold gave) = record c {
  queue = poll_leaves hold c.queue;
  line = line_leaves hold c.line;
  reached = reached_by c (poll_gives hold c.queue);
  save = gained c (poll_gives hold c.queue) c.save;
  counts = counts_one c.counts (Poll hold gave);
  owed = c.owed + inline_in (option_to_list (poll_gives hold c.queue));
}
channel_next c (Credit given) = record c {
  counts = counts_one c.counts (Credit given);
  credit = c.credit + told c.counts;
  announced = (c.announced + told c.counts) % 2 ^ 64;
}
channel_next c Ask = record c { owed = c.owed - 1; asked = c.asked + 1 }
channel_next c Resume = record c { asked = c.asked - 1 }
channel_next c (Save k rest) = record c { save = Some (record { number = k; bytes = rest }) }
channel_next c (Saved k) = record c { save = None }
channel_next c e = record c { counts = counts_one c.counts e }

-- The exclusive buffers that are free or wait with data. The others are out with the caller.
abbrev pub exclusive_here : ChannelState → ℕ
exclusive_here c = c.counts.exclusive + exclusive_held c.counts

-- All segments of the channel, free or with data.
abbrev pub segments_here : ChannelState → ℕ
segments_here c = free c.counts + length c.counts.held

-- The segments of a channel that was ended: how many are left, and their length.
pub record SegmentsLeft : Type 0 where
  pub left : ℕ
  pub size : ℕ

-- ---- what it stands for

-- Whether all of these were polled, and whether the first of them waits, where there is one.
abbrev pub all_polled : List Arrived → Bool
all_polled [] = true
all_polled (WasPolled p ∷ xs) = all_polled xs
all_polled (Waits p ∷ xs) = false

abbrev pub starts_waiting : List Arrived → Bool
starts_waiting [] = true
starts_waiting (WasPolled p ∷ xs) = false
starts_waiting (Waits p ∷ xs) = true

-- A line is the arrivals behind some that were all polled, from one on that waits.
pub record IsLine (line : List Arrived) (arrivals : List Arrived) : Type 0 where
  pub gone : List Arrived
  pub polled : all_polled gone ≡ true
  pub whole : arrivals ≡ gone ++ line
  pub first : starts_waiting line ≡ true

-- How many barriers came before the last of these data that was polled.
abbrev pub has_polled_data : List Arrived → Bool
has_polled_data [] = false
has_polled_data (WasPolled (Data bytes) ∷ xs) = true
has_polled_data (WasPolled (Barrier k kind) ∷ xs) = has_polled_data xs
has_polled_data (WasPolled End ∷ xs) = has_polled_data xs
has_polled_data (Waits p ∷ xs) = has_polled_data xs

abbrev pub barriers_reached : List Arrived → ℕ
barriers_reached [] = 0
barriers_reached (x ∷ xs) = if has_polled_data xs then length (barriers_of (parcel_of x ∷ [])) + barriers_reached xs else 0

-- What an open save has, with the data that still wait before its barrier, is what the history saves.
abbrev pub SaveIs : List ReceiveEntry → Option OpenSave → Type 0
SaveIs es None = open_save es ≡ None
SaveIs es (Some save) = (open_save es ≡ Some save.number) × (has_save save.number es ≡ true) × (1 ≤ save.number) × (saved save.number es ≡ save.bytes ++ waiting_before save.number (inbox es).arrivals)

-- The channel keeps what these entries tell.
pub record Keeps (c : ChannelState) (es : List ReceiveEntry) : Type 0 where
  pub queue : c.queue ≡ waiting (inbox es).arrivals
  pub line : IsLine c.line (inbox es).arrivals
  pub reached : c.reached ≡ barriers_reached (inbox es).arrivals
  pub save : SaveIs es c.save
  pub counts : c.counts ≡ (numbers es).counts
  pub credit : c.credit + (numbers es).received ≡ (numbers es).announced
  pub announced : c.announced ≡ (numbers es).announced % 2 ^ 64
  pub received : c.received ≡ (numbers es).received % 2 ^ 64
  pub next : c.next ≡ length (pushed es) % 2 ^ 32
  pub last : c.last ≡ length (barriers_of (pushed es))
  pub ended : c.ended ≡ has_end (pushed es)
  pub owed : c.owed + asks es ≡ inline_in (inbox es).given
  pub asked : c.asked + resumes es ≡ asks es

-- The history is legal, and the channel keeps what it tells. So it is known of each entry of a closed cell
-- that it was allowed.
pub record ChannelStandsFor (c : ChannelState) (pairs : List (ℕ × ReceiveEntry)) : Type 0 where
  pub legal : IsHistory (MayReceiveAs c.room) pairs
  pub keeps : Keeps c (entries_of pairs)

-- What a call asks of the channel; and of a buffer that comes back, that it was given and has not come back.
abbrev pub AllowsPush : ChannelState → Parcel → Type 0
AllowsPush c (Data bytes) = 0 < c.credit
AllowsPush c (Barrier k kind) = k ≡ suc c.last
AllowsPush c End = ⊤

-- No save is open; barrier k is the first, or the one before it was polled; and nothing behind it was.
pub record AllowsSave (c : ChannelState) (k : ℕ) : Type 0 where
  pub none_open : c.save ≡ None
  pub next : k ≤ suc (polled_barriers c)
  pub in_time : c.reached < k

-- The save for barrier k is open.
abbrev pub IsOpen : ChannelState → ℕ → Type 0
IsOpen c k = (save : OpenSave) × (c.save ≡ Some save) × (save.number ≡ k)

abbrev pub Allows : ChannelState → List ReceiveEntry → ReceiveEntry → Type 0
Allows c es (Push p backlog) = (c.ended ≡ false) × AllowsPush c p
Allows c es (Poll hold gave) = gave ≡ gave_by (poll_gives hold c.queue) c.counts.held
Allows c es (Returned exclusive) = returned exclusive es < polled_with exclusive es
Allows c es Added = 0 < wants c.room c.counts
Allows c es (Backlog backlog) = ⊤
Allows c es (Credit given) = given ≡ told c.counts
Allows c es Shut = c.credit ≡ 0
Allows c es Ask = 0 < c.owed
Allows c es Resume = 0 < c.asked
Allows c es (Save k rest) = AllowsSave c k × (has_save k es ≡ false) × (given : List ℕ) × (polled_bytes es ≡ given ++ rest)
Allows c es (Saved k) = IsOpen c k × (k ≤ c.last)
