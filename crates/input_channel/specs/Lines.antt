-- How data and barriers that stand in two lines stand for one. It serves the functions of the queue, and no
-- public contract cites it.
use Rattle.std.specs.Prelude.{◌≡◌, ℕ, zero, suc, ◌+◌, ◌-◌, ◌<◌, ◌≤◌, ◌^◌, List, [], ◌∷◌, ◌++◌, map, flat_map, length, take, drop, count_by, Bool, not}
use Rattle.circular_buffer.specs.Buffer.{Buffer}
use Rattle.flow_defs.specs.declared.parcel.Parcel.{Parcel}
use Rattle.flow_defs.specs.declared.parcel.Parcel.TheVariants.{Data, Barrier}
use Rattle.input_channel.specs.declared.held.HeldBuf.{HeldBuf}
use Rattle.input_channel.specs.declared.queue.Mark.{Mark}
use Rattle.input_channel.specs.Contents.{content}
use Rattle.input_channel.specs.Inboxes.{Arrived, WasPolled, Waits, waiting, waiting_before}
use Rattle.input_channel.specs.States.{from_waiting}

-- What waits, in order of arrival, and the barriers in their places that were polled before data which came before them; the
-- buffers of the data among it, in the same order; and how many there may be.
pub record Line : Type 0 where
  pub arrived : List Arrived
  pub buffers : List HeldBuf
  pub room : ℕ

-- What waits.
abbrev pub parcels : Line → List Parcel
parcels line = waiting line.arrived

-- Data that wait.
abbrev pub waiting_data : List HeldBuf → List Arrived
waiting_data buffers = map (λ buf. Waits (Data (content buf))) buffers

-- The data buffers and the barriers in one line. So many barriers were polled, the first ones.
abbrev pub merged : ℕ → List Mark → List HeldBuf → List Arrived
merged polled [] buffers = waiting_data buffers
merged zero (m ∷ marks) buffers = waiting_data (take m.gap buffers) ++ Waits (Barrier m.k m.kind) ∷ merged zero marks (drop m.gap buffers)
merged (suc polled) (m ∷ marks) buffers = waiting_data (take m.gap buffers) ++ WasPolled (Barrier m.k m.kind) ∷ merged polled marks (drop m.gap buffers)

-- The data buffers before the first barrier, and before the last one.
abbrev pub first_gap : List Mark → ℕ
first_gap [] = 0
first_gap (m ∷ marks) = m.gap

abbrev pub before_last : List Mark → ℕ
before_last [] = 0
before_last (m ∷ marks) = m.gap + before_last marks

-- One data buffer less stands before the first barrier.
abbrev pub one_less : List Mark → List Mark
one_less [] = []
one_less (m ∷ marks) = record m { gap = m.gap - 1 } ∷ marks

-- Which buffers are exclusive.
abbrev pub kinds_of : List HeldBuf → List Bool
kinds_of buffers = map (λ buf. buf.exclusive) buffers

-- The data in these, one behind the other.
abbrev pub contents : List HeldBuf → List ℕ
contents buffers = flat_map (λ buf. content buf) buffers

-- The counts fit the line. Data stand before a barrier that was polled.
pub record IsMerged (polled behind floats : ℕ) (marks : List Mark) (ring : Buffer HeldBuf) : Type 0 where
  pub counted : before_last marks + behind ≡ length ring.items
  pub few_polled : polled ≤ length marks
  pub ahead : 0 < polled → 0 < first_gap marks
  pub within : length ring.items ≤ ring.capacity
  pub few : ring.capacity < 2 ^ 31
  pub floating : floats ≡ count_by not (kinds_of ring.items)

-- Barriers that were polled went from the front, up to one with data before it. So the line is as it was from the first on that waits.
pub record HaveGone (old : List Mark) (polled : ℕ) (new : List Mark) (left : ℕ) : Type 0 where
  pub counted : before_last new ≡ before_last old
  pub few_polled : left ≤ length new
  pub ahead : 0 < left → 0 < first_gap new
  pub line : (buffers : List HeldBuf) → before_last old ≤ length buffers → merged left new buffers ≡ from_waiting (merged polled old buffers)

-- So many of the data buffers stand before barrier k, and all of them where it is not there.
abbrev pub CountsBefore : ℕ → List Mark → ℕ → ℕ → Type 0
CountsBefore k marks n count = (buffers : List HeldBuf) → length buffers ≡ n → contents (take count buffers) ≡ waiting_before k (merged 0 marks buffers)

-- The first data buffer goes.
pub record GivesFirst (old : Line) (buf : HeldBuf) (new : Line) : Type 0 where
  pub rest : List Arrived
  pub first : old.arrived ≡ Waits (Data (content buf)) ∷ rest
  pub arrived : new.arrived ≡ from_waiting rest
  pub buffers : old.buffers ≡ buf ∷ new.buffers
  pub room : new.room ≡ old.room

-- These start with data.
pub record StartsWithData (arrived : List Arrived) (bytes : List ℕ) : Type 0 where
  pub rest : List Arrived
  pub first : arrived ≡ Waits (Data bytes) ∷ rest
