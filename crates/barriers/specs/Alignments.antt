-- Alignment. As Flink's documentation has it, a task with several channels aligns them for a checkpoint:
-- a channel whose inline barrier has come is read no further until the barriers of all others have come,
-- and then the task snapshots. As in FLIP-76, the first front barrier of a checkpoint makes the task
-- snapshot at once, and save of each channel what stands before the barrier there. That barriers count
-- from 1 on each channel, one checkpoint after another, is this project's own choice.
use Rattle.std.specs.Prelude.{◌≡◌, ℕ, ◌+◌, ◌<◌, ◌≤◌, ◌==◌, Bool, true, false, ◌||◌, ⊤, List, [], ◌∷◌, length, map, replicate, Some, slice_get, slice_set, slice_index_or, if◌then◌else◌}
use Rattle.std.specs.List.{list_all, list_any}
use Rattle.flow_defs.specs.declared.task.BarrierKind.{BarrierKind}
use Rattle.flow_defs.specs.declared.task.BarrierKind.TheVariants.{Inline, Front}
use Rattle.barriers.specs.declared.aligner.Action.{Action}
use Rattle.barriers.specs.declared.aligner.Action.TheVariants.{Nothing, Block, SnapshotInline, SnapshotFront, Done}

-- A barrier as a task gets it: the place of the channel that gave it, the checkpoint's number, and its kind.
pub record Barrier : Type 0 where
  pub channel : ℕ
  pub number : ℕ
  pub kind : BarrierKind

abbrev pub barrier : ℕ → ℕ → BarrierKind → Barrier
barrier channel number kind = record { channel = channel; number = number; kind = kind }

abbrev pub is_front : BarrierKind → Bool
is_front Inline = false
is_front Front = true

-- Where a task's alignment stands: how many checkpoints are closed; which channels have given the barrier of
-- the next one; whether the task saves for it, since a front barrier came; and which channels were saved.
pub record Alignment : Type 0 where
  pub closed : ℕ
  pub gave : List Bool
  pub saving : Bool
  pub saved : List Bool

-- As many flags, none of which is set.
abbrev pub none_of : List Bool → List Bool
none_of flags = map (λ flag. false) flags

-- Before the first barrier.
abbrev pub unaligned : ℕ → Alignment
unaligned channels = record { closed = 0; gave = replicate channels false; saving = false; saved = replicate channels false }

-- A checkpoint is open from its first barrier on.
abbrev pub is_open : Alignment → Bool
is_open a = a.saving || list_any (λ g. g) a.gave

-- ---- a barrier

-- Which channels have given the barrier of the next checkpoint, once this one has too.
abbrev pub gave_with : Alignment → Barrier → List Bool
gave_with a b = slice_set a.gave b.channel true

-- Whether this barrier is the last one of its checkpoint.
abbrev pub is_last : Alignment → Barrier → Bool
is_last a b = list_all (λ g. g) (gave_with a b)

-- While the task saves, a barrier is counted and no more. Else a front one makes it save, and an inline one
-- closes the checkpoint where it is the last.
abbrev pub alignment_next : Alignment → Barrier → Alignment
alignment_next a b =
    if a.saving then record a { gave = gave_with a b }
    else if is_front b.kind then record a { gave = gave_with a b; saving = true; saved = none_of a.saved }
    else if is_last a b then record a { closed = b.number; gave = none_of a.gave }
    else record a { gave = gave_with a b }

-- The task snapshots at the first front barrier, or at the last inline one. At each inline one before, it
-- blocks the barrier's channel.
abbrev pub action : Alignment → Barrier → Action
action a b =
    if a.saving then Nothing
    else if is_front b.kind then SnapshotFront b.number
    else if is_last a b then SnapshotInline b.number
    else Block

-- The barrier that a channel may give now: it is of the checkpoint after those closed, and the channel
-- has not given it yet.
pub record MayGive (a : Alignment) (b : Barrier) : Type 0 where
  pub once : slice_get a.gave b.channel ≡ Some false
  pub number : b.number ≡ a.closed + 1

-- ---- the saved bytes of a channel

-- Which channels were saved, once this one was too.
abbrev pub saved_with : Alignment → ℕ → List Bool
saved_with a channel = slice_set a.saved channel true

-- Whether this channel is the last one to be saved.
abbrev pub is_last_saved : Alignment → ℕ → Bool
is_last_saved a channel = list_all (λ s. s) (saved_with a channel)

-- The checkpoint is closed with the last channel.
abbrev pub after_saved : Alignment → ℕ → Alignment
after_saved a channel =
    if is_last_saved a channel then record { closed = a.closed + 1; gave = none_of a.gave; saving = false; saved = none_of a.saved }
    else record a { saved = saved_with a channel }

abbrev pub action_saved : Alignment → ℕ → Action
action_saved a channel = if is_last_saved a channel then Done (a.closed + 1) else Nothing

-- The channel that may be saved now: the task saves, the channel has given the barrier, and it was not saved
-- yet.
pub record MayBeSaved (a : Alignment) (channel : ℕ) : Type 0 where
  pub saving : a.saving ≡ true
  pub gave : slice_get a.gave channel ≡ Some true
  pub once : slice_get a.saved channel ≡ Some false

-- ---- one after another

-- A barrier came, or a channel was saved, of this place and for the checkpoint of this number.
pub data Event : Type 0 where
  Came : Barrier → Event
  Saved : ℕ → ℕ → Event

abbrev pub event_next : Alignment → Event → Alignment
event_next a (Came b) = alignment_next a b
event_next a (Saved channel k) = after_saved a channel

abbrev pub MayHappen : Alignment → Event → Type 0
MayHappen a (Came b) = MayGive a b
MayHappen a (Saved channel k) = MayBeSaved a channel × (k ≡ a.closed + 1)

-- The alignment after these events, in the order in which they came.
abbrev pub after_all : Alignment → List Event → Alignment
after_all a [] = a
after_all a (event ∷ events) = after_all (event_next a event) events

-- Each of these events may happen after those before it.
abbrev pub MayAllHappen : Alignment → List Event → Type 0
MayAllHappen a [] = ⊤
MayAllHappen a (event ∷ events) = MayHappen a event × MayAllHappen (event_next a event) events

-- An alignment stands for the barriers that a task got since its start, and for the channels saved since.
pub record AlignmentStandsFor (channels : ℕ) (events : List Event) (a : Alignment) : Type 0 where
  pub some : 1 ≤ channels
  pub may : MayAllHappen (unaligned channels) events
  pub is : after_all (unaligned channels) events ≡ a

-- ---- what a call changes

-- How many barriers a channel has given: one for each checkpoint closed, and that of the next one.
abbrev pub given_by : Alignment → ℕ → ℕ
given_by a channel = a.closed + (if slice_index_or a.gave channel false then 1 else 0)

-- Of this barrier its channel has given one more, and no other channel has.
pub record AddsBarrier (b : Barrier) (old new : Alignment) : Type 0 where
  pub channels : length new.gave ≡ length old.gave
  pub given : (channel : ℕ) → channel < length old.gave → given_by new channel ≡ (if channel == b.channel then b.number else given_by old channel)

-- Each channel has given as many barriers as before.
pub record KeepsBarriers (old new : Alignment) : Type 0 where
  pub channels : length new.gave ≡ length old.gave
  pub given : (channel : ℕ) → channel < length old.gave → given_by new channel ≡ given_by old channel

-- What an answer to a barrier says. Behind a front snapshot there is nothing to do. A channel is blocked while
-- its checkpoint stays open, and of those that gave its barrier this one is the last so far. Where the task
-- snapshots in line, the checkpoint is closed and none is open. Where it snapshots at a front barrier, the
-- checkpoint stays open and no channel is saved yet.
abbrev pub Answers : Barrier → Alignment → Action → Alignment → Type 0
Answers b old Nothing new = (old.saving ≡ true) × (new ≡ record old { gave = gave_with old b })
Answers b old Block new = (b.kind ≡ Inline) × (new ≡ record old { gave = gave_with old b }) × (is_open new ≡ true) × (new.saving ≡ false)
Answers b old (SnapshotInline k) new = (b.kind ≡ Inline) × (k ≡ b.number) × (new ≡ record old { closed = k; gave = none_of old.gave }) × (is_open new ≡ false)
Answers b old (SnapshotFront k) new = (b.kind ≡ Front) × (k ≡ b.number) × (new ≡ record old { gave = gave_with old b; saving = true; saved = none_of old.saved })
Answers b old (Done k) new = ⊥

-- What an answer to the saved bytes of a channel says. While others are missing the task saves on. With the
-- last one the checkpoint is closed and none is open.
abbrev pub AnswersSaved : ℕ → Alignment → Action → Alignment → Type 0
AnswersSaved channel old Nothing new = new ≡ record old { saved = saved_with old channel }
AnswersSaved channel old Block new = ⊥
AnswersSaved channel old (SnapshotInline k) new = ⊥
AnswersSaved channel old (SnapshotFront k) new = ⊥
AnswersSaved channel old (Done k) new =
    (k ≡ old.closed + 1) × (new ≡ record { closed = k; gave = none_of old.gave; saving = false; saved = none_of old.saved }) × (is_open new ≡ false)
