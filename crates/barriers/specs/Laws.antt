-- What alignment comes to, told by the barriers that came and by the channels saved alone. This project's own
-- statements.
use Rattle.std.specs.Prelude.{◌≡◌, ℕ, zero, suc, ◌+◌, ◌<◌, ◌==◌, ◌↔◌, Bool, true, false, ◌&&◌, ◌||◌, List, [], ◌∷◌, ◌++◌, slice_index_or, if◌then◌else◌}
use Rattle.flow_defs.specs.declared.task.BarrierKind.TheVariants.{Front}
use Rattle.barriers.specs.declared.aligner.Action.TheVariants.{Nothing, SnapshotInline, SnapshotFront, Done}
use Rattle.barriers.specs.Alignments.{Barrier, Event, Came, Saved, Alignment, MayGive, MayBeSaved, AlignmentStandsFor, action, action_saved, given_by, is_front}

-- ---- barriers by number

-- The numbers of the barriers that a channel gave, in order.
abbrev pub numbers_of : ℕ → List Event → List ℕ
numbers_of channel [] = []
numbers_of channel (Came b ∷ events) = if channel == b.channel then b.number ∷ numbers_of channel events else numbers_of channel events
numbers_of channel (Saved c k ∷ events) = numbers_of channel events

-- The numbers 1, 2 and so on up to n.
abbrev pub counting : ℕ → List ℕ
counting zero = []
counting (suc n) = counting n ++ suc n ∷ []

-- Each channel has given barriers 1, 2 and so on, in this order.
abbrev pub NumbersCountUp : Type 0
NumbersCountUp =
    (channels : ℕ) (events : List Event) (a : Alignment) → AlignmentStandsFor channels events a →
    (channel : ℕ) → channel < channels → numbers_of channel events ≡ counting (given_by a channel)

-- ---- snapshots

-- All channels have given barriers 1 to k, and none a later one.
abbrev pub AllGave : ℕ → ℕ → List Event → Type 0
AllGave channels k events = (channel : ℕ) → channel < channels → numbers_of channel events ≡ counting k

-- Whether barrier k came as a front one, of any channel.
abbrev pub has_front : ℕ → List Event → Bool
has_front k [] = false
has_front k (Came b ∷ events) = ((b.number == k) && is_front b.kind) || has_front k events
has_front k (Saved c j ∷ events) = has_front k events

-- A task snapshots in line exactly where, with the barrier that came, all its channels have given theirs, and
-- none as a front one,
abbrev pub SnapshotsWithLast : Type 0
SnapshotsWithLast =
    (channels : ℕ) (events : List Event) (a : Alignment) (b : Barrier) → AlignmentStandsFor channels events a → MayGive a b →
    (action a b ≡ SnapshotInline b.number) ↔ (AllGave channels b.number (events ++ Came b ∷ []) × (has_front b.number (events ++ Came b ∷ []) ≡ false))

-- in front of the data exactly at the first front barrier,
abbrev pub SnapshotsAtFirstFront : Type 0
SnapshotsAtFirstFront =
    (channels : ℕ) (events : List Event) (a : Alignment) (b : Barrier) → AlignmentStandsFor channels events a → MayGive a b →
    (action a b ≡ SnapshotFront b.number) ↔ ((b.kind ≡ Front) × (has_front b.number events ≡ false))

-- and does nothing exactly behind that one.
abbrev pub NothingBehindFront : Type 0
NothingBehindFront =
    (channels : ℕ) (events : List Event) (a : Alignment) (b : Barrier) → AlignmentStandsFor channels events a → MayGive a b →
    (action a b ≡ Nothing) ↔ (has_front b.number events ≡ true)

-- ---- saved channels

-- Whether a channel was saved for checkpoint k.
abbrev pub was_saved : ℕ → ℕ → List Event → Bool
was_saved channel k [] = false
was_saved channel k (Came b ∷ events) = was_saved channel k events
was_saved channel k (Saved c j ∷ events) = ((c == channel) && (j == k)) || was_saved channel k events

-- Channels are saved only while the task saves, and behind the barrier.
abbrev pub SavesAreBehind : Alignment → Type 0
SavesAreBehind a = (channel : ℕ) → slice_index_or a.saved channel false ≡ true → (a.saving ≡ true) × (slice_index_or a.gave channel false ≡ true)

abbrev pub SavesFollowBarriers : Type 0
SavesFollowBarriers = (channels : ℕ) (events : List Event) (a : Alignment) → AlignmentStandsFor channels events a → SavesAreBehind a

-- A checkpoint for which the task saves is done exactly where, with this channel, all were saved.
abbrev pub DoneWithLast : Type 0
DoneWithLast =
    (channels : ℕ) (events : List Event) (a : Alignment) (channel : ℕ) → AlignmentStandsFor channels events a → MayBeSaved a channel →
    (action_saved a channel ≡ Done (a.closed + 1)) ↔
    ((c : ℕ) → c < channels → was_saved c (a.closed + 1) (events ++ Saved channel (a.closed + 1) ∷ []) ≡ true)
