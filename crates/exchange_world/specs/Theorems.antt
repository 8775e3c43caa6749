-- What holds of both ends of a connection, whatever the events. Each is proved as a clause of a function
-- of `laws`.
use Rattle.std.specs.Prelude.{◌≡◌, ◌⊎◌, ℕ, ◌+◌, ◌*◌, ◌≤◌, ◌==◌, ◌&&◌, Bool, true, false, List, [], ◌∷◌, ◌++◌, map, replicate, if◌then◌else◌, Option, Some, None, Ok}
use Rattle.std.specs.List.{AllByRecursion}
use Rattle.flow_defs.specs.Items.{Items}
use Rattle.flow_defs.specs.Records.{all_encoded}
use Rattle.flow_defs.specs.declared.parcel.Parcel.{Parcel}
use Rattle.flow_defs.specs.declared.parcel.Parcel.TheVariants as parcels
use Rattle.turn_cell.specs.History.{StartsWith}
use Rattle.credit_reader.specs.declared.reader.SentKind.{SentKind}
use Rattle.credit_reader.specs.declared.reader.SentKind.TheVariants as sent
use Rattle.credit_reader.specs.Senders.{reader_of}
use Rattle.credit_reader.specs.Answers.{credit_answer, resume_answer}
use Rattle.input_channel.specs.declared.arrival.Arrival.{Arrival}
use Rattle.input_channel.specs.declared.arrival.ArrivalKind.{ArrivalKind}
use Rattle.input_channel.specs.declared.arrival.ArrivalKind.TheVariants as kinds
use Rattle.input_channel.specs.Inboxes.{poll_gives}
use Rattle.input_channel.specs.Answers.{refused}
use Rattle.script_text.specs.declared.event.Event.{Event}
use Rattle.script_text.specs.declared.event.Event.TheVariants as events
use Rattle.script_text.specs.declared.reply.Reply.{Reply}
use Rattle.script_text.specs.declared.reply.Reply.TheVariants as replies
use Rattle.script_text.specs.Scripts.{IsOpening, IsEvent}
use Rattle.exchange_world.specs.Lanes.{channel_id}
use Rattle.exchange_world.specs.Worlds.{World, opened, lane_of, all_held, partition_lent, partition_limit, gate_lent, gate_limit, DataFrame, Response, Announcement, ControlFrame, AddCredit, Resumption}
use Rattle.exchange_world.specs.Steps.{step, after_events, replies_to}

-- The connection may be opened so: it has channels, and a segment for each that they need.
pub record CanOpen (m size total : ℕ) : Type 0 where
  pub opening : IsOpening m size total
  pub enough : 4 * m ≤ total

-- Each of the events may happen with so many channels.
abbrev pub AreEvents : ℕ → List Event → Type 0
AreEvents m es = AllByRecursion (IsEvent m) es

-- ---- what an event emits and polls on a channel

abbrev pub is_queued : Reply → Bool
is_queued (replies.Queued c n) = true
is_queued reply = false

-- The record that an event emitted on channel c, if it did.
abbrev pub emitted_if : Bool → List ℕ → List (List ℕ)
emitted_if true text = text ∷ []
emitted_if false text = []

abbrev pub emitted_by : ℕ → World → Event → List (List ℕ)
emitted_by c w (events.Emit d text) = emitted_if (d == c && is_queued (step w (events.Emit d text)).1) text.items
emitted_by c w (events.Fill d n) = emitted_if (d == c && is_queued (step w (events.Fill d n)).1) (replicate n 97)
emitted_by c w e = []

-- The records that a reply says were polled there.
abbrev pub polled_in : ℕ → Reply → List (List ℕ)
polled_in c (replies.Data d len records) = if d == c then map (λ (r : Items ℕ). r.items) records.items else []
polled_in c reply = []

-- The bytes of what a poll gives.
abbrev pub bytes_in : Option Parcel → List ℕ
bytes_in (Some (parcels.Data bytes)) = bytes
bytes_in p = []

abbrev pub bytes_polled_by : ℕ → World → Event → List ℕ
bytes_polled_by c w (events.Poll d) = if d == c then bytes_in (poll_gives false (lane_of w d).inbox.queue) else []
bytes_polled_by c w (events.Hold d) = if d == c then bytes_in (poll_gives true (lane_of w d).inbox.queue) else []
bytes_polled_by c w e = []

-- What a list of events emitted and polled on channel c, in order.
abbrev pub emitted : ℕ → World → List Event → List (List ℕ)
emitted c w [] = []
emitted c w (e ∷ es) = emitted_by c w e ++ emitted c (step w e).0 es

abbrev pub polled : ℕ → World → List Event → List (List ℕ)
polled c w [] = []
polled c w (e ∷ es) = polled_in c (step w e).1 ++ polled c (step w e).0 es

abbrev pub bytes_polled : ℕ → World → List Event → List ℕ
bytes_polled c w [] = []
bytes_polled c w (e ∷ es) = bytes_polled_by c w e ++ bytes_polled c (step w e).0 es

-- The records polled are the first of those emitted, and the bytes polled the first of those put.
pub record PollsWhatWasEmitted (c : ℕ) (w : World) (es : List Event) : Type 0 where
  pub records : StartsWith (emitted c w es) (polled c w es)
  pub bytes : StartsWith (all_encoded (emitted c w es)) (bytes_polled c w es)

abbrev pub RecordsComeInOrder : Type 0
RecordsComeInOrder = (m size total c : ℕ) (es : List Event) → CanOpen m size total → AreEvents m es → 1 ≤ c → c ≤ m → PollsWhatWasEmitted c (opened m size total) es

-- ---- the cut

-- Whether a reply tells what barrier k overtook on channel c, and whether an event opened the save for it there.
abbrev pub tells_overtaken : ℕ → ℕ → Reply → Bool
tells_overtaken c k (replies.SavedOut d j bytes) = d == c && j == k
tells_overtaken c k reply = false

abbrev pub is_done : Reply → Bool
is_done replies.Done = true
is_done reply = false

abbrev pub opens_save : ℕ → ℕ → World → Event → Bool
opens_save c k w (events.Save d j) = (d == c && j == k) && is_done (step w (events.Save d j)).1
opens_save c k w e = false

-- The records that were emitted on channel c before barrier k was put in front, and those that were polled there
-- before the save for it was opened; all of them where it was not.
abbrev pub emitted_before : ℕ → ℕ → World → List Event → List (List ℕ)
emitted_before c k w [] = []
emitted_before c k w (e ∷ es) = if tells_overtaken c k (step w e).1 then [] else emitted_by c w e ++ emitted_before c k (step w e).0 es

abbrev pub polled_before : ℕ → ℕ → World → List Event → List (List ℕ)
polled_before c k w [] = []
polled_before c k w (e ∷ es) = if opens_save c k w e then [] else polled_in c (step w e).1 ++ polled_before c k (step w e).0 es

-- A reply is one of these.
abbrev pub IsAmong : Reply → List Reply → Type 0
IsAmong reply [] = ⊥
IsAmong reply (r ∷ rs) = (r ≡ reply) ⊎ IsAmong reply rs

-- Replies tell what barrier k overtook on channel c, and what was saved for it.
pub record TellPieces (c k : ℕ) (all : List Reply) (overtaken saved : List ℕ) : Type 0 where
  pub out : IsAmong (replies.SavedOut c k (record { items = overtaken; room = 0 })) all
  pub into : IsAmong (replies.SavedIn c k (record { items = saved; room = 0 })) all

-- Barrier k cuts the records of a channel in two. Those emitted before it are those polled before its save was
-- opened, then what was saved, then what it overtook.
abbrev pub SavedPiecesMakeTheCut : Type 0
SavedPiecesMakeTheCut = (m size total c k : ℕ) (es : List Event) (overtaken saved : List ℕ) → CanOpen m size total → AreEvents m es → 1 ≤ c → c ≤ m →
    TellPieces c k (replies_to (opened m size total) es) overtaken saved →
    all_encoded (emitted_before c k (opened m size total) es) ≡ all_encoded (polled_before c k (opened m size total) es) ++ (saved ++ overtaken)

-- ---- credit

-- The data frames that replies say were sent on channel c; the credit that came to the sender there; and the
-- credit that was announced.
abbrev pub is_buffer : SentKind → Bool
is_buffer sent.Buffer = true
is_buffer sent.Inline = false
is_buffer sent.Front = false
is_buffer sent.End = false

abbrev pub sent_in : ℕ → Reply → ℕ
sent_in c (replies.Frame d sequence what len backlog) = if d == c && is_buffer what then 1 else 0
sent_in c reply = 0

abbrev pub granted_in : ℕ → Reply → ℕ
granted_in c (replies.Granted d n) = if d == c then n else 0
granted_in c reply = 0

abbrev pub announced_in : ℕ → Reply → ℕ
announced_in c (replies.Credit d n) = if d == c then n else 0
announced_in c reply = 0

-- Over a list of events. Both ends begin with the credit of the request, which is 2.
abbrev pub data_sent : ℕ → World → List Event → ℕ
data_sent c w [] = 0
data_sent c w (e ∷ es) = sent_in c (step w e).1 + data_sent c (step w e).0 es

abbrev pub credit_granted : ℕ → World → List Event → ℕ
credit_granted c w [] = 2
credit_granted c w (e ∷ es) = granted_in c (step w e).1 + credit_granted c (step w e).0 es

abbrev pub credit_announced : ℕ → World → List Event → ℕ
credit_announced c w [] = 2
credit_announced c w (e ∷ es) = announced_in c (step w e).1 + credit_announced c (step w e).0 es

-- No more data is sent than credit came, and no more credit came than was announced.
pub record SendsUnderCredit (c : ℕ) (w : World) (es : List Event) : Type 0 where
  pub sent : data_sent c w es ≤ credit_granted c w es
  pub granted : credit_granted c w es ≤ credit_announced c w es

abbrev pub DataHaveCredit : Type 0
DataHaveCredit = (m size total c : ℕ) (es : List Event) → CanOpen m size total → AreEvents m es → 1 ≤ c → c ≤ m → SendsUnderCredit c (opened m size total) es

-- ---- frames

-- What arrives by a frame, and the bytes of its content.
abbrev pub kind_in : Parcel → ArrivalKind
kind_in (parcels.Data bytes) = kinds.Buffer
kind_in (parcels.Barrier k kind) = kinds.Barrier k kind
kind_in parcels.End = kinds.End

abbrev pub arrival_in : ℕ → Parcel → ℕ → Arrival
arrival_in sequence p backlog = record { sequence = sequence; backlog = backlog; what = kind_in p }

-- Its channel accepts the first data frame on the way, and the sender obeys the first control frame.
abbrev pub IsAccepted : World → List DataFrame → Type 0
IsAccepted w [] = Unit {0}
IsAccepted w (Response c sequence p backlog ∷ frames) = refused (lane_of w c).inbox (arrival_in sequence p backlog) (bytes_in (Some p)) ≡ None
IsAccepted w (Announcement c n ∷ frames) = Unit {0}

abbrev pub IsObeyed : World → List ControlFrame → Type 0
IsObeyed w [] = Unit {0}
IsObeyed w (AddCredit c n ∷ controls) = credit_answer n (reader_of (channel_id c) w.sender.readers) ≡ Ok tt
IsObeyed w (Resumption c ∷ controls) = resume_answer (reader_of (channel_id c) w.sender.readers) ≡ Ok tt

pub record FramesAreTaken (w : World) : Type 0 where
  pub accepted : IsAccepted w w.frames
  pub obeyed : IsObeyed w w.controls

abbrev pub NoFrameIsRefused : Type 0
NoFrameIsRefused = (m size total : ℕ) (es : List Event) → CanOpen m size total → AreEvents m es → FramesAreTaken (after_events (opened m size total) es)

-- ---- pools

-- Each pool lends within its limit, and all of them hold no more than the total.
pub record LendsWithin (m : ℕ) (w : World) : Type 0 where
  pub partitions : (c : ℕ) → 1 ≤ c → c ≤ m → partition_lent (lane_of w c) ≤ partition_limit w
  pub gate : gate_lent w ≤ gate_limit w
  pub all : all_held w ≤ w.total

abbrev pub PoolsLendWithin : Type 0
PoolsLendWithin = (m size total : ℕ) (es : List Event) → CanOpen m size total → AreEvents m es → LendsWithin m (after_events (opened m size total) es)
