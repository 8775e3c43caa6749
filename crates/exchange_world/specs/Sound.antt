-- What holds of both ends of a connection after any events: how the numbers that the two ends keep agree,
-- with what is on the way between them.
-- It is one record a channel, over its two ends and what is on the way. Its order is proved by what each
-- event does to the parcels that wait, its credit as two accounts: of what is on the way, and of free
-- buffers. It says nothing of refusals, since there are none.
use Rattle.std.specs.Prelude.{◌≡◌, ◌⊎◌, ℕ, suc, ◌+◌, ◌%◌, ◌^◌, ◌≤◌, ◌==◌, true, false, List, [], ◌∷◌, ◌++◌, length, map, if◌then◌else◌, Some}
use Rattle.std.specs.List.{range_with_len}
use Rattle.flow_defs.specs.declared.parcel.Parcel.{Parcel}
use Rattle.flow_defs.specs.declared.parcel.Parcel.TheVariants as parcels
use Rattle.flow_defs.specs.Parcels.{barriers_of, has_end}
use Rattle.credit_reader.specs.declared.reader.Reader.{Reader}
use Rattle.credit_reader.specs.Senders.{reader_of}
use Rattle.credit_reader.specs.Laws.{HoldsEachOnce}
use Rattle.input_channel.specs.Inboxes.{waiting}
use Rattle.input_channel.specs.Counts.{free}
use Rattle.input_channel.specs.States.{ChannelState, exclusive_here, starts_waiting}
use Rattle.input_channel.specs.Legal.{inline_in}
use Rattle.exchange_world.specs.Lanes.{Lane, BUFFERS_MAX, ITEMS_MAX, channel_id, backlog_in, head_in, floating_here}
use Rattle.exchange_world.specs.Worlds.{World, DataFrame, Response, Announcement, ControlFrame, AddCredit, Resumption, lane_of, partition_lent, partition_limit, gate_lent, gate_limit}
use Rattle.exchange_world.specs.Theorems.{CanOpen}

-- ---- what is on the way to or from a channel

-- The responses of channel c among data frames, each with its number.
abbrev pub responses : ℕ → List DataFrame → List (ℕ × Parcel)
responses c [] = []
responses c (Response d sequence p backlog ∷ frames) = if d == c then (sequence, p) ∷ responses c frames else responses c frames
responses c (Announcement d n ∷ frames) = responses c frames

-- What they bring.
abbrev pub coming : ℕ → World → List Parcel
coming c w = map (λ (r : ℕ × Parcel). r.1) (responses c w.frames)

-- The credit for channel c in control frames, and the resumptions.
abbrev pub credit_coming : ℕ → List ControlFrame → ℕ
credit_coming c [] = 0
credit_coming c (AddCredit d n ∷ controls) = if d == c then n + credit_coming c controls else credit_coming c controls
credit_coming c (Resumption d ∷ controls) = credit_coming c controls

abbrev pub resumptions_coming : ℕ → List ControlFrame → ℕ
resumptions_coming c [] = 0
resumptions_coming c (AddCredit d n ∷ controls) = resumptions_coming c controls
resumptions_coming c (Resumption d ∷ controls) = if d == c then suc (resumptions_coming c controls) else resumptions_coming c controls

-- All that has left the sending task and not arrived yet: what is on the way, and behind it what waits to be sent.
abbrev pub not_arrived : ℕ → World → List Parcel
not_arrived c w = coming c w ++ (lane_of w c).items

-- ---- parcels

-- Data fit in a segment and are not empty, and nothing is behind the end.
abbrev pub AreFit : ℕ → List Parcel → Type 0
AreFit size [] = Unit {0}
AreFit size (parcels.Data bytes ∷ ps) = (1 ≤ length bytes) × (length bytes ≤ size) × AreFit size ps
AreFit size (parcels.Barrier k kind ∷ ps) = AreFit size ps
AreFit size (parcels.End ∷ ps) = ps ≡ []

-- These have the numbers from this one on, modulo 2^32.
abbrev pub AreNumbered : ℕ → List (ℕ × Parcel) → Type 0
AreNumbered next [] = Unit {0}
AreNumbered next (r ∷ rs) = (r.0 ≡ next) × AreNumbered ((next + 1) % 2 ^ 32) rs

-- The number behind so many.
abbrev pub number_behind : ℕ → List (ℕ × Parcel) → ℕ
number_behind next [] = next
number_behind next (r ∷ rs) = number_behind ((next + 1) % 2 ^ 32) rs

-- ---- a channel

-- The receiving end: as it is between events, when each buffer that was polled is back.
pub record IsSoundInbox (size : ℕ) (inbox : ChannelState) : Type 0 where
  pub size_is : inbox.size ≡ size
  pub room_is : inbox.room ≡ BUFFERS_MAX
  pub announces : inbox.counts.shut ≡ false
  pub exclusive : exclusive_here inbox ≡ 2
  pub floating : 2 + floating_here inbox ≤ BUFFERS_MAX
  pub free_is : free inbox.counts ≡ inbox.credit + inbox.counts.pending
  pub line : waiting inbox.line ≡ inbox.queue
  pub first : starts_waiting inbox.line ≡ true
  pub held : length inbox.counts.held ≡ backlog_in inbox.queue
  pub fit : AreFit size inbox.queue
  pub end : has_end inbox.queue ≡ true → inbox.ended ≡ true
  pub resumed : inbox.asked ≡ 0

-- The sending end's reader, which knows what stands first and how much waits.
pub record IsSoundReader (r : Reader) (items : List Parcel) : Type 0 where
  pub requested : r.requested ≡ true
  pub head_is : r.head ≡ head_in items
  pub backlog_is : r.backlog ≡ backlog_in items

-- Both ends agree: on numbers, on credit, on barriers, on the end, and on what is blocked.
pub record Agrees (c : ℕ) (w : World) (lane : Lane) (r : Reader) : Type 0 where
  pub numbered : AreNumbered lane.inbox.next (responses c w.frames)
  pub next : r.sequence ≡ number_behind lane.inbox.next (responses c w.frames)
  pub credit : r.credit + backlog_in (coming c w) + credit_coming c w.controls ≡ lane.inbox.credit
  pub fit : AreFit w.size (not_arrived c w)
  pub barriers : map (λ b. b.0) (barriers_of (not_arrived c w)) ≡ range_with_len (suc lane.inbox.last) (length (barriers_of (not_arrived c w)))
  pub last : lane.barriers ≡ lane.inbox.last + length (barriers_of (not_arrived c w))
  -- the end was put and waits to arrive, or has arrived, and then nothing follows
  pub ended : lane.inbox.ended ≡ true → not_arrived c w ≡ []
  pub finished : lane.finished ≡ true → (lane.inbox.ended ≡ true) ⊎ (has_end (not_arrived c w) ≡ true)
  pub unfinished : lane.finished ≡ false → (lane.inbox.ended ≡ false) × (has_end (not_arrived c w) ≡ false)
  -- an inline barrier that was sent blocks, until the resumption for it comes
  pub blocked : inline_in (coming c w) + inline_in lane.inbox.queue + lane.inbox.owed + resumptions_coming c w.controls ≡ (if r.blocked then 1 else 0)

pub record IsSoundLane (c : ℕ) (w : World) : Type 0 where
  pub reader : Reader
  pub found : reader_of (channel_id c) w.sender.readers ≡ Some reader
  pub sender : IsSoundReader reader (lane_of w c).items
  pub inbox : IsSoundInbox w.size (lane_of w c).inbox
  pub agree : Agrees c w (lane_of w c) reader
  pub room : length (lane_of w c).items ≤ ITEMS_MAX
  pub lent : partition_lent (lane_of w c) ≤ partition_limit w

-- ---- the world

-- Frames are of channels that there are.
abbrev pub AreOfChannels : ℕ → List DataFrame → Type 0
AreOfChannels m [] = Unit {0}
AreOfChannels m (Response c sequence p backlog ∷ frames) = (1 ≤ c) × (c ≤ m) × (backlog ≤ ITEMS_MAX) × AreOfChannels m frames
AreOfChannels m (Announcement c n ∷ frames) = (1 ≤ c) × (c ≤ m) × (n ≤ ITEMS_MAX) × AreOfChannels m frames

abbrev pub ControlsAreOfChannels : ℕ → List ControlFrame → Type 0
ControlsAreOfChannels m [] = Unit {0}
ControlsAreOfChannels m (AddCredit c n ∷ controls) = (1 ≤ c) × (c ≤ m) × (1 ≤ n) × ControlsAreOfChannels m controls
ControlsAreOfChannels m (Resumption c ∷ controls) = (1 ≤ c) × (c ≤ m) × ControlsAreOfChannels m controls

pub record IsSound (m : ℕ) (w : World) : Type 0 where
  pub opening : CanOpen m w.size w.total
  pub lanes : length w.lanes ≡ m
  pub channels : map (λ (r : Reader). r.channel) w.sender.readers ≡ map channel_id (range_with_len 1 m)
  pub queue : HoldsEachOnce w.sender
  pub frames : AreOfChannels m w.frames
  pub controls : ControlsAreOfChannels m w.controls
  pub each : (c : ℕ) → 1 ≤ c → c ≤ m → IsSoundLane c w
  pub gate : gate_lent w ≤ gate_limit w
