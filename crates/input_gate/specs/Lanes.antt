-- One channel of a gate, with what was polled there and not given. What a gate keeps of a channel is this project's own choice.
use Rattle.std.specs.Prelude.{◌≡◌, ℕ, suc, ◌+◌, ◌<◌, Bool, true, false, List, [], ◌∷◌, ◌++◌, length, Option, Some, None, IfSome, IsSomeAnd, Result, Ok, Err}
use Rattle.turn_cell.specs.History.{entries_of}
use Rattle.turn_cell.specs.Passes.{IsPassOf, opened_with, seen, mine}
use Rattle.flow_defs.specs.Items.{Items}
use Rattle.flow_defs.specs.declared.parcel.Parcel.{Parcel}
use Rattle.flow_defs.specs.declared.task.BarrierKind.{BarrierKind}
use Rattle.flow_defs.specs.declared.task.BarrierKind.TheVariants.{Inline}
use Rattle.flow_defs.specs.Parcels.{barriers_of, has_end}
use Rattle.flow_defs.specs.Records.{encoded, first_record, IsShort}
use Rattle.record_spans.specs.Spans.{HasNoRecord, BeginsTooLong}
use Rattle.segment_pool.specs.Pools.{size_of}
use Rattle.local_pool.specs.Helds.{pool_of}
use Rattle.input_channel.specs.declared.entry.ReceiveEntry.{ReceiveEntry}
use Rattle.input_channel.specs.declared.entry.ReceiveEntry.TheVariants.{Returned}
use Rattle.input_channel.specs.declared.held.HeldBuf.{HeldBuf}
use Rattle.input_channel.specs.Contents.{content}
use Rattle.input_channel.specs.Legal.{asks, inline_in}
use Rattle.input_gate.specs.declared.lane.Lane.{Lane}
use Rattle.input_gate.specs.declared.lane.LaneFault.{LaneFault}
use Rattle.input_gate.specs.declared.lane.LaneFault.TheVariants.{Memory, TooLong, Left}
use Rattle.input_gate.specs.declared.lane.LaneStep.{LaneStep}
use Rattle.input_gate.specs.declared.lane.LaneStep.TheVariants.{Nothing, Found, Barrier}
use Rattle.input_gate.specs.declared.lender.Lender.{Lender}
use Rattle.channel_cut.specs.Cuts.{Cut, InLine, Shows, IsRead}
use Rattle.channel_cut.specs.Lanes.{lines_told}
use Rattle.input_gate.specs.Turning.{InputPass, IsGatePass, IsEven, IsLater, NoFront, given_to}

-- ---- the gate's pool

-- The length of the segments of the gate's pool.
abbrev pub lent_size : Lender → ℕ
lent_size lender = size_of (pool_of (opened_with lender.cell.now))

-- It has a pass of the pool's cell.
abbrev pub IsLender : Lender → Type 0
IsLender lender = IsSomeAnd lender.pass (λ pass. IsPassOf lender.cell.now pass)

-- ---- what is kept of a channel

-- What its polls gave.
abbrev pub polled : Lane → List Parcel
polled lane = given_to lane.pass

-- The encoding of a line that is ready, and the bytes of a buffer that was polled and not read.
abbrev pub ready_bytes : Option (Items ℕ) → List ℕ
ready_bytes None = []
ready_bytes (Some line) = encoded line.items

abbrev pub spare_bytes : Option HeldBuf → List ℕ
spare_bytes None = []
spare_bytes (Some buf) = content buf

-- What was polled and not given.
abbrev pub left_of : Lane → List ℕ
left_of lane = ready_bytes lane.ready ++ (lane.reader ++ spare_bytes lane.spare)

-- The lines and the barriers given, and how many inline barriers were resumed.
abbrev pub lines_by : Lane → List (List ℕ)
lines_by lane = lines_told [] (entries_of (seen lane.pass)) (left_of lane)

abbrev pub barriers_by : Lane → List (ℕ × BarrierKind)
barriers_by lane = barriers_of (polled lane)

abbrev pub resumed_by : Lane → ℕ
resumed_by lane = asks (mine lane.pass)

-- By which cuts its barriers cut it.
abbrev pub shows_by : Lane → Cut → Type 0
shows_by lane = Shows [] (entries_of (seen lane.pass))

abbrev pub weight : Bool → ℕ
weight true = 1
weight false = 0

-- The entry that a buffer which was polled is still to make.
abbrev pub due_back : Option HeldBuf → List ReceiveEntry
due_back None = []
due_back (Some buf) = Returned buf.exclusive ∷ []

-- What is kept fits what the pass tells, where segments have this length.
pub record IsLane (size : ℕ) (lane : Lane) : Type 0 where
  pub pass : IsGatePass lane.cell.now lane.pass
  pub size_is : (opened_with lane.cell.now).size ≡ size
  pub read : IsRead [] (entries_of (seen lane.pass)) (lines_by lane) (left_of lane)
  pub count : lane.barriers ≡ length (barriers_by lane)
  pub asked : resumed_by lane + weight lane.blocked ≡ inline_in (polled lane)
  pub ends : lane.ended ≡ true → has_end (polled lane) ≡ true
  pub even : IsEven (mine lane.pass ++ due_back lane.spare)
  pub spare_size : IfSome lane.spare (λ buf. length buf.segment ≡ size)
  pub short : IfSome lane.ready (λ line. IsShort line.items)
  pub clear_is : lane.clear ≡ true → NoFront (seen lane.pass)

-- ---- what a step makes of it

-- The pass took turns that gave nothing.
pub record IsIdle (p q : InputPass) : Type 0 where
  pub later : IsLater p q
  pub given : given_to q ≡ given_to p
  pub asked : asks (mine q) ≡ asks (mine p)
  pub even : IsEven (mine p) → IsEven (mine q)

-- Nothing was given.
pub record IsQuiet (a b : Lane) : Type 0 where
  pub cell : b.cell ≡ a.cell
  pub later : IsLater a.pass b.pass
  pub lines : lines_by b ≡ lines_by a
  pub barriers : barriers_by b ≡ barriers_by a
  pub resumed : resumed_by b ≡ resumed_by a
  pub blocked : b.blocked ≡ a.blocked

-- This was given of a channel that no inline barrier blocked.
pub record Gives (a b : Lane) (more : List (List ℕ)) (barriers : List (ℕ × BarrierKind)) : Type 0 where
  pub cell : b.cell ≡ a.cell
  pub later : IsLater a.pass b.pass
  pub free : a.blocked ≡ false
  pub lines : lines_by b ≡ lines_by a ++ more
  pub barriers_are : barriers_by b ≡ barriers_by a ++ barriers
  pub resumed : resumed_by b ≡ resumed_by a

-- A barrier, which has the next number and was not held back. An inline one is given where no whole record is left, and cuts the channel.
pub record GivesBarrier (hold : Bool) (a b : Lane) (k : ℕ) (kind : BarrierKind) : Type 0 where
  pub gives : Gives a b [] ((k, kind) ∷ [])
  pub number : k ≡ suc (length (barriers_by a))
  pub not_held : hold ≡ false
  pub whole : kind ≡ Inline → first_record (left_of b) ≡ None
  pub cuts : kind ≡ Inline → shows_by b (InLine k (lines_by a))

-- Why nothing is given.
abbrev pub IsFault : Lane → LaneFault → Type 0
IsFault lane Memory = Unit {0}
IsFault lane (TooLong len) = BeginsTooLong (left_of lane) len
IsFault lane (Left len) = (lane.ended ≡ true) × (length (left_of lane) ≡ len) × (0 < len) × HasNoRecord (left_of lane)

-- What a step gave.
abbrev pub Stepped : Bool → Lane → LaneStep → Lane → Type 0
Stepped hold a Nothing b = IsQuiet a b
Stepped hold a Found b = IsQuiet a b
Stepped hold a (Barrier k kind) b = GivesBarrier hold a b k kind

abbrev pub Came : Bool → Lane → Result LaneStep LaneFault → Lane → Type 0
Came hold a (Ok step) b = Stepped hold a step b
Came hold a (Err fault) b = IsQuiet a b × IsFault b fault

-- The channel was resumed.
pub record IsResumed (a b : Lane) : Type 0 where
  pub cell : b.cell ≡ a.cell
  pub lines : lines_by b ≡ lines_by a
  pub barriers : barriers_by b ≡ barriers_by a
  pub resumed : resumed_by b ≡ suc (resumed_by a)
  pub ended : b.ended ≡ a.ended
  pub left : left_of b ≡ left_of a
  pub later : IsLater a.pass b.pass
