-- The receiving end of a channel: what came on it, and what the polls gave. As in Flink's network stack,
-- buffers and events of a channel wait in one line, in the order in which they came. That a front
-- barrier is given before the data that wait is FLIP-76's.
use Rattle.std.specs.Prelude.{◌≡◌, ℕ, Bool, true, false, ◌&&◌, ◌==◌, ◌||◌, List, [], ◌∷◌, ◌++◌, map, drop, if◌then◌else◌, Option, Some, None, option_to_list}
use Rattle.flow_defs.specs.declared.task.BarrierKind.TheVariants.{Inline, Front}
use Rattle.flow_defs.specs.declared.parcel.Parcel.{Parcel}
use Rattle.flow_defs.specs.declared.parcel.Parcel.TheVariants.{Data, Barrier, End}
use Rattle.flow_defs.specs.Parcels.{data_of}
use Rattle.input_channel.specs.declared.entry.ReceiveEntry.{ReceiveEntry}
use Rattle.input_channel.specs.declared.entry.ReceiveEntry.TheVariants.{Push, Poll, Save}

-- ---- what waits

-- Whether the first barrier of these is front.
abbrev pub front_waits : List Parcel → Bool
front_waits [] = false
front_waits (Data bytes ∷ ps) = front_waits ps
front_waits (Barrier k Inline ∷ ps) = false
front_waits (Barrier k Front ∷ ps) = true
front_waits (End ∷ ps) = front_waits ps

-- The first of these, if there is one.
abbrev pub first_parcel : List Parcel → Option Parcel
first_parcel [] = None
first_parcel (p ∷ ps) = Some p

-- The first barrier of these, and these without it.
abbrev pub first_barrier : List Parcel → Option Parcel
first_barrier [] = None
first_barrier (Data bytes ∷ ps) = first_barrier ps
first_barrier (Barrier k kind ∷ ps) = Some (Barrier k kind)
first_barrier (End ∷ ps) = first_barrier ps

abbrev pub without_barrier : List Parcel → List Parcel
without_barrier [] = []
without_barrier (Data bytes ∷ ps) = Data bytes ∷ without_barrier ps
without_barrier (Barrier k kind ∷ ps) = ps
without_barrier (End ∷ ps) = End ∷ without_barrier ps

-- What is due of these: the first barrier where it is front, and else the first of them.
abbrev pub due : List Parcel → Option Parcel
due ps = if front_waits ps then first_barrier ps else first_parcel ps

-- These without the one that is due.
abbrev pub undue : List Parcel → List Parcel
undue ps = if front_waits ps then without_barrier ps else drop 1 ps

abbrev pub is_barrier : Option Parcel → Bool
is_barrier None = false
is_barrier (Some (Data bytes)) = false
is_barrier (Some (Barrier k kind)) = true
is_barrier (Some End) = false

-- What a poll gives of these: what is due, but nothing where that is a barrier and barriers are held back.
abbrev pub poll_gives : Bool → List Parcel → Option Parcel
poll_gives hold ps = if hold && is_barrier (due ps) then None else due ps

-- What a poll leaves of these.
abbrev pub poll_leaves : Bool → List Parcel → List Parcel
poll_leaves hold ps = if hold && is_barrier (due ps) then ps else undue ps

-- ---- the inbox of a history

-- What arrived was polled, or waits.
pub data Arrived : Type 0 where
  WasPolled : Parcel → Arrived
  Waits : Parcel → Arrived

abbrev pub parcel_of : Arrived → Parcel
parcel_of (WasPolled p) = p
parcel_of (Waits p) = p

-- Those that wait, in order.
abbrev pub waiting : List Arrived → List Parcel
waiting [] = []
waiting (WasPolled p ∷ xs) = waiting xs
waiting (Waits p ∷ xs) = p ∷ waiting xs

-- The arrivals once the first one that waits is polled, and once the first barrier that waits is.
abbrev pub poll_first : List Arrived → List Arrived
poll_first [] = []
poll_first (WasPolled p ∷ xs) = WasPolled p ∷ poll_first xs
poll_first (Waits p ∷ xs) = WasPolled p ∷ xs

abbrev pub poll_barrier : List Arrived → List Arrived
poll_barrier [] = []
poll_barrier (WasPolled p ∷ xs) = WasPolled p ∷ poll_barrier xs
poll_barrier (Waits (Data bytes) ∷ xs) = Waits (Data bytes) ∷ poll_barrier xs
poll_barrier (Waits (Barrier k kind) ∷ xs) = WasPolled (Barrier k kind) ∷ xs
poll_barrier (Waits End ∷ xs) = Waits End ∷ poll_barrier xs

abbrev pub poll_due : List Arrived → List Arrived
poll_due xs = if front_waits (waiting xs) then poll_barrier xs else poll_first xs

-- All that arrived, in order, and what the polls gave, in order.
pub record Inbox : Type 0 where
  pub arrivals : List Arrived
  pub given : List Parcel

abbrev pub empty_inbox : Inbox
empty_inbox = record { arrivals = []; given = [] }

abbrev pub polled_one : Bool → Inbox → Inbox
polled_one hold i =
    if hold && is_barrier (due (waiting i.arrivals)) then i
    else record { arrivals = poll_due i.arrivals; given = i.given ++ option_to_list (due (waiting i.arrivals)) }

-- The inbox after one entry, and after several.
abbrev pub received_one : Inbox → ReceiveEntry → Inbox
received_one i (Push p backlog) = record { arrivals = i.arrivals ++ Waits p ∷ []; given = i.given }
received_one i (Poll hold gave) = polled_one hold i
received_one i e = i

abbrev pub received_from : Inbox → List ReceiveEntry → Inbox
received_from i [] = i
received_from i (e ∷ es) = received_from (received_one i e) es

abbrev pub inbox : List ReceiveEntry → Inbox
inbox es = received_from empty_inbox es

-- What was pushed, in order.
abbrev pub pushed : List ReceiveEntry → List Parcel
pushed [] = []
pushed (Push p backlog ∷ es) = p ∷ pushed es
pushed (e ∷ es) = pushed es

-- ---- what a save tells

-- The bytes that polls gave, in the order of the polls.
abbrev pub polled_bytes : List ReceiveEntry → List ℕ
polled_bytes es = data_of (inbox es).given

-- The bytes of the data before barrier k that wait.
abbrev pub waiting_before : ℕ → List Arrived → List ℕ
waiting_before k [] = []
waiting_before k (WasPolled (Data bytes) ∷ xs) = waiting_before k xs
waiting_before k (Waits (Data bytes) ∷ xs) = bytes ++ waiting_before k xs
waiting_before k (WasPolled (Barrier j kind) ∷ xs) = if j == k then [] else waiting_before k xs
waiting_before k (Waits (Barrier j kind) ∷ xs) = if j == k then [] else waiting_before k xs
waiting_before k (WasPolled End ∷ xs) = waiting_before k xs
waiting_before k (Waits End ∷ xs) = waiting_before k xs

-- The bytes of all data that were polled, and of those behind barrier k.
abbrev pub polled_of : List Arrived → List ℕ
polled_of [] = []
polled_of (WasPolled (Data bytes) ∷ xs) = bytes ++ polled_of xs
polled_of (WasPolled (Barrier j kind) ∷ xs) = polled_of xs
polled_of (WasPolled End ∷ xs) = polled_of xs
polled_of (Waits p ∷ xs) = polled_of xs

abbrev pub polled_behind : ℕ → List Arrived → List ℕ
polled_behind k [] = []
polled_behind k (WasPolled (Data bytes) ∷ xs) = polled_behind k xs
polled_behind k (Waits (Data bytes) ∷ xs) = polled_behind k xs
polled_behind k (WasPolled (Barrier j kind) ∷ xs) = if j == k then polled_of xs else polled_behind k xs
polled_behind k (Waits (Barrier j kind) ∷ xs) = if j == k then polled_of xs else polled_behind k xs
polled_behind k (WasPolled End ∷ xs) = polled_behind k xs
polled_behind k (Waits End ∷ xs) = polled_behind k xs

-- What is saved for barrier k: the rest, and then the data before that barrier that waited when the save was opened, or came later.
abbrev pub saved_from : Inbox → ℕ → List ReceiveEntry → List ℕ
saved_from i k [] = []
saved_from i k (Save j rest ∷ es) = if j == k then rest ++ waiting_before k (i.arrivals ++ map Waits (pushed es)) else saved_from i k es
saved_from i k (e ∷ es) = saved_from (received_one i e) k es

abbrev pub saved : ℕ → List ReceiveEntry → List ℕ
saved k es = saved_from empty_inbox k es

-- Whether a save was opened for barrier k.
abbrev pub has_save : ℕ → List ReceiveEntry → Bool
has_save k [] = false
has_save k (Save j rest ∷ es) = (j == k) || has_save k es
has_save k (e ∷ es) = has_save k es

-- The save for barrier k: when it was opened nothing behind that barrier had been polled, and none had been opened for it.
pub record IsSave (es : List ReceiveEntry) (k : ℕ) (before : List ReceiveEntry) (rest : List ℕ) (after : List ReceiveEntry) : Type 0 where
  pub whole : es ≡ before ++ Save k rest ∷ after
  pub once : has_save k before ≡ false
  pub in_time : polled_behind k (inbox before).arrivals ≡ []
