-- Which entries the history of a channel's receiving end may have, and which pass makes which. This is
-- what the calls of an input channel ask and keep, said of histories; it is this project's own choice.
use Rattle.std.specs.Prelude.{◌≡◌, ◌⊎◌, ℕ, suc, ◌+◌, ◌<◌, ⊤, Bool, true, false, ◌==◌, ◌||◌, List, [], ◌∷◌, ◌++◌, map, length, count_by, sum_by, Option, Some, None}
use Rattle.flow_defs.specs.declared.task.BarrierKind.{BarrierKind}
use Rattle.flow_defs.specs.declared.task.BarrierKind.TheVariants.{Inline, Front}
use Rattle.flow_defs.specs.declared.parcel.Parcel.{Parcel}
use Rattle.flow_defs.specs.declared.parcel.Parcel.TheVariants.{Data, Barrier, End}
use Rattle.flow_defs.specs.Parcels.{barriers_of, has_end}
use Rattle.input_channel.specs.declared.entry.Gave.{Gave}
use Rattle.input_channel.specs.declared.entry.Gave.TheVariants.{NoBuffer, Exclusive, Floating}
use Rattle.input_channel.specs.declared.entry.ReceiveEntry.{ReceiveEntry}
use Rattle.input_channel.specs.declared.entry.ReceiveEntry.TheVariants.{Push, Poll, Returned, Added, Backlog, Credit, Shut, Ask, Resume, Save, Saved}
use Rattle.flow_defs.specs.Barriers.{has_barrier}
use Rattle.input_channel.specs.Inboxes.{inbox, pushed, waiting, poll_gives, polled_bytes, polled_behind, has_save}
use Rattle.input_channel.specs.Counts.{numbers, wants, told, gave_by}

-- The buffers of a kind that polls gave, and those that came back.
abbrev pub is_kind : Bool → Gave → Bool
is_kind exclusive NoBuffer = false
is_kind true Exclusive = true
is_kind false Exclusive = false
is_kind true Floating = false
is_kind false Floating = true

abbrev pub gives_kind : Bool → ReceiveEntry → Bool
gives_kind exclusive (Poll hold gave) = is_kind exclusive gave
gives_kind exclusive e = false

abbrev pub returns_kind : Bool → ReceiveEntry → Bool
returns_kind true (Returned true) = true
returns_kind false (Returned false) = true
returns_kind exclusive e = false

abbrev pub polled_with : Bool → List ReceiveEntry → ℕ
polled_with exclusive es = count_by (gives_kind exclusive) es

abbrev pub returned : Bool → List ReceiveEntry → ℕ
returned exclusive es = count_by (returns_kind exclusive) es

-- An inline barrier blocks the sender, and is owed a resumption.
abbrev pub owes : BarrierKind → ℕ
owes Inline = 1
owes Front = 0

-- How many inline barriers are among these; the resumptions asked for, and those taken.
abbrev pub inline_in : List Parcel → ℕ
inline_in [] = 0
inline_in (Data bytes ∷ ps) = inline_in ps
inline_in (Barrier k kind ∷ ps) = owes kind + inline_in ps
inline_in (End ∷ ps) = inline_in ps

abbrev pub is_ask : ReceiveEntry → Bool
is_ask Ask = true
is_ask e = false

abbrev pub is_resume : ReceiveEntry → Bool
is_resume Resume = true
is_resume e = false

abbrev pub asks : List ReceiveEntry → ℕ
asks es = count_by is_ask es

abbrev pub resumes : List ReceiveEntry → ℕ
resumes es = count_by is_resume es

-- Whether a floating buffer came, and how many did.
abbrev pub is_added : ReceiveEntry → Bool
is_added Added = true
is_added e = false

abbrev pub adds : List ReceiveEntry → ℕ
adds es = count_by is_added es

-- The credit that was told to the sender, beside the 2 of the partition request.
abbrev pub credit_of : ReceiveEntry → ℕ
credit_of (Credit given) = given
credit_of e = 0

abbrev pub credit_told : List ReceiveEntry → ℕ
credit_told es = sum_by credit_of es

-- Data may come within the announced credit, a barrier with the next number, and the end at any time.
abbrev pub MayArrive : List ReceiveEntry → Parcel → Type 0
MayArrive es (Data bytes) = (numbers es).received < (numbers es).announced
MayArrive es (Barrier k kind) = k ≡ suc (length (barriers_of (pushed es)))
MayArrive es End = ⊤

-- Nothing comes after the end.
pub record MayPush (es : List ReceiveEntry) (p : Parcel) : Type 0 where
  pub before_end : has_end (pushed es) ≡ false
  pub fits : MayArrive es p

-- The barrier for which a save is open.
abbrev pub open_from : Option ℕ → List ReceiveEntry → Option ℕ
open_from now [] = now
open_from now (Save k rest ∷ es) = open_from (Some k) es
open_from now (Saved k ∷ es) = open_from None es
open_from now (e ∷ es) = open_from now es

abbrev pub open_save : List ReceiveEntry → Option ℕ
open_save es = open_from None es

-- Barrier k is the first, or the one before it was polled.
abbrev pub IsInTurn : List ReceiveEntry → ℕ → Type 0
IsInTurn es k = (k ≡ 1) ⊎ ((j : ℕ) × (k ≡ suc j) × (has_barrier j (inbox es).given ≡ true))

-- A save is opened while none is, once for each barrier, in turn, and before anything behind that barrier is polled. What it takes over
-- was polled last.
pub record MaySave (es : List ReceiveEntry) (k : ℕ) (rest : List ℕ) : Type 0 where
  pub none_open : open_save es ≡ None
  pub once : has_save k es ≡ false
  pub in_turn : IsInTurn es k
  pub in_time : polled_behind k (inbox es).arrivals ≡ []
  pub is_rest : (given : List ℕ) × (polled_bytes es ≡ given ++ rest)

-- It is closed once its barrier has come.
pub record MayClose (es : List ReceiveEntry) (k : ℕ) : Type 0 where
  pub opened : open_save es ≡ Some k
  pub came : has_barrier k (pushed es) ≡ true

-- What may be added to the history of a channel with so much room.
abbrev pub MayReceive : ℕ → List ReceiveEntry → ReceiveEntry → Type 0
MayReceive room es (Push p backlog) = MayPush es p
MayReceive room es (Poll hold gave) = gave ≡ gave_by (poll_gives hold (waiting (inbox es).arrivals)) (numbers es).counts.held
MayReceive room es (Returned exclusive) = returned exclusive es < polled_with exclusive es
MayReceive room es Added = 0 < wants room (numbers es).counts
MayReceive room es (Backlog backlog) = ⊤
MayReceive room es (Credit given) = given ≡ told (numbers es).counts
MayReceive room es Shut = (numbers es).received ≡ (numbers es).announced
MayReceive room es Ask = asks es < inline_in (inbox es).given
MayReceive room es Resume = resumes es < asks es
MayReceive room es (Save k rest) = MaySave es k rest
MayReceive room es (Saved k) = MayClose es k

-- Pass 0, the gate, polls, saves, gives buffers back and asks for resumptions; pass 1, the reader of frames, pushes;
-- pass 2, the writer of control frames, tells credit and resumes. Both the first two add floating buffers.
abbrev pub may_receive : ℕ → ReceiveEntry → Bool
may_receive n (Push p backlog) = n == 1
may_receive n (Poll hold gave) = n == 0
may_receive n (Returned exclusive) = n == 0
may_receive n Added = (n == 0) || (n == 1)
may_receive n (Backlog backlog) = n == 1
may_receive n (Credit given) = n == 2
may_receive n Shut = n == 1
may_receive n Ask = n == 0
may_receive n Resume = n == 2
may_receive n (Save k rest) = n == 0
may_receive n (Saved k) = n == 0

-- A pass adds an entry of its own that may be added.
abbrev pub MayReceiveAs : ℕ → List (ℕ × ReceiveEntry) → ℕ × ReceiveEntry → Type 0
MayReceiveAs room pairs pair = (may_receive pair.0 pair.1 ≡ true) × MayReceive room (map (λ x. x.1) pairs) pair.1

-- Each entry is one that its pass makes.
abbrev pub ReceivedByPasses : List (ℕ × ReceiveEntry) → Type 0
ReceivedByPasses [] = ⊤
ReceivedByPasses (pair ∷ pairs) = (may_receive pair.0 pair.1 ≡ true) × ReceivedByPasses pairs
