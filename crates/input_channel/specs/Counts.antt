-- The numbers that the receiving end of a channel keeps of its buffers and its credit. Credit, backlog,
-- exclusive and floating buffers are those of Flink's network stack; the numbers and when they change are
-- this project's own.
use Rattle.std.specs.Prelude.{ℕ, ◌+◌, ◌-◌, min, Bool, true, false, not, ◌&&◌, ◌==◌, nat_lt, List, [], ◌∷◌, ◌++◌, drop, count_by, if◌then◌else◌, Option, Some}
use Rattle.flow_defs.specs.declared.parcel.Parcel.{Parcel}
use Rattle.flow_defs.specs.declared.parcel.Parcel.TheVariants.{Data, Barrier, End}
use Rattle.input_channel.specs.declared.entry.Gave.{Gave}
use Rattle.input_channel.specs.declared.entry.Gave.TheVariants.{NoBuffer, Exclusive, Floating}
use Rattle.input_channel.specs.declared.entry.ReceiveEntry.{ReceiveEntry}
use Rattle.input_channel.specs.declared.entry.ReceiveEntry.TheVariants.{Push, Poll, Returned, Added, Backlog, Credit, Shut, Ask, Resume, Save, Saved}

-- The free buffers, exclusive and floating; of each buffer that waits with data, in order, whether it is
-- exclusive; the credit that is not announced yet; the buffers that the sender's backlog asks for; and
-- whether the channel was shut.
pub record Counts : Type 0 where
  pub exclusive : ℕ
  pub floating : ℕ
  pub held : List Bool
  pub pending : ℕ
  pub required : ℕ
  pub shut : Bool

-- At opening a channel has its two exclusive buffers, whose credit goes with the partition request.
abbrev pub counts_at_opening : Counts
counts_at_opening = record { exclusive = 2; floating = 0; held = []; pending = 0; required = 2; shut = false }

abbrev pub free : Counts → ℕ
free c = c.exclusive + c.floating

-- Data take a free buffer, a floating one first.
abbrev pub with_data : Counts → Counts
with_data c = record c {
  exclusive = if nat_lt 0 c.floating then c.exclusive else c.exclusive - 1;
  floating = c.floating - 1;
  held = c.held ++ (c.floating == 0) ∷ [];
}

-- What a backlog asks for: a buffer for each that waits there, and the two exclusive ones.
abbrev pub with_backlog : ℕ → Counts → Counts
with_backlog backlog c = record c { required = backlog + 2 }

-- Whether a floating buffer goes to the pool when an exclusive one comes back: where the free ones are
-- then more than are asked for, and a floating one is among them.
abbrev pub lets_go : Counts → Bool
lets_go c = nat_lt c.required (free c + 1) && nat_lt 0 c.floating

-- An exclusive buffer that comes back is free. It lets a floating one go, or else it gives credit.
abbrev pub with_exclusive : Counts → Counts
with_exclusive c =
    if lets_go c then record c { exclusive = c.exclusive + 1; floating = c.floating - 1 }
    else record c { exclusive = c.exclusive + 1; pending = c.pending + 1 }

-- The credit that is announced next: all that is pending, and nothing once the channel was shut.
abbrev pub told : Counts → ℕ
told c = if c.shut then 0 else c.pending

abbrev pub counts_one : Counts → ReceiveEntry → Counts
counts_one c (Push (Data bytes) backlog) = with_backlog backlog (with_data c)
counts_one c (Push (Barrier k kind) backlog) = with_backlog backlog c
counts_one c (Push End backlog) = with_backlog backlog c
counts_one c (Poll hold NoBuffer) = c
counts_one c (Poll hold Exclusive) = record c { held = drop 1 c.held }
counts_one c (Poll hold Floating) = record c { held = drop 1 c.held }
counts_one c (Returned true) = with_exclusive c
counts_one c (Returned false) = c
counts_one c Added = record c { floating = c.floating + 1; pending = c.pending + 1 }
counts_one c (Backlog backlog) = with_backlog backlog c
counts_one c (Credit given) = record c { pending = c.pending - told c }
counts_one c Shut = record c { shut = true }
counts_one c Ask = c
counts_one c Resume = c
counts_one c (Save k rest) = c
counts_one c (Saved k) = c

-- The floating buffers that wait with data, and the exclusive ones.
abbrev pub floating_held : Counts → ℕ
floating_held c = count_by not c.held

abbrev pub exclusive_held : Counts → ℕ
exclusive_held c = count_by (λ x. x) c.held

-- How many floating buffers a channel asks its gate for: those that it lacks, as far as its room goes. The
-- two exclusive buffers always count as ones that it has, and a floating one until it is polled.
abbrev pub wants : ℕ → Counts → ℕ
wants room c = min (c.required - free c) (room - (2 + c.floating + floating_held c))

-- Which buffer a poll gives, where it gives this and these wait with data.
abbrev pub gave_by : Option Parcel → List Bool → Gave
gave_by (Some (Data bytes)) (true ∷ held) = Exclusive
gave_by (Some (Data bytes)) (false ∷ held) = Floating
gave_by p held = NoBuffer

-- ---- the numbers of a history

-- Beside the counts: the credit announced and the data received, from the opening on, without end.
pub record Numbers : Type 0 where
  pub counts : Counts
  pub announced : ℕ
  pub received : ℕ

abbrev pub at_opening : Numbers
at_opening = record { counts = counts_at_opening; announced = 2; received = 0 }

-- One for data, which cost credit.
abbrev pub data_in : Parcel → ℕ
data_in (Data bytes) = 1
data_in (Barrier k kind) = 0
data_in End = 0

abbrev pub numbers_one : Numbers → ReceiveEntry → Numbers
numbers_one n (Push p backlog) = record { counts = counts_one n.counts (Push p backlog); announced = n.announced; received = n.received + data_in p }
numbers_one n (Credit given) = record { counts = counts_one n.counts (Credit given); announced = n.announced + told n.counts; received = n.received }
numbers_one n e = record { counts = counts_one n.counts e; announced = n.announced; received = n.received }

abbrev pub numbers_from : Numbers → List ReceiveEntry → Numbers
numbers_from n [] = n
numbers_from n (e ∷ es) = numbers_from (numbers_one n e) es

abbrev pub numbers : List ReceiveEntry → Numbers
numbers es = numbers_from at_opening es

-- ---- the segments that are set free

-- A buffer that comes back sets one free, for the pool: a floating buffer its own, and an exclusive one that of a floating buffer, where
-- that is let go. Nothing else does.
abbrev pub frees : Counts → ReceiveEntry → ℕ
frees c (Returned true) = if lets_go c then 1 else 0
frees c (Returned false) = 1
frees c e = 0

-- How many these entries set free, behind these numbers and from the opening on.
abbrev pub freed_from : Numbers → List ReceiveEntry → ℕ
freed_from n [] = 0
freed_from n (e ∷ es) = frees n.counts e + freed_from (numbers_one n e) es

abbrev pub freed : List ReceiveEntry → ℕ
freed es = freed_from at_opening es
