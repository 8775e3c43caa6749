-- The laws of histories. Each is proved as a clause of a function of `laws`.
use Rattle.std.specs.Prelude.{◌≡◌, ◌⊎◌, ⊤, ℕ, suc, ◌≤◌, true, false, List, [], ◌∷◌, ◌++◌, length, map, Option, Some, None, slice_get, option_to_list}
use Rattle.flow_defs.specs.declared.parcel.Parcel.{Parcel}
use Rattle.flow_defs.specs.declared.task.BarrierKind.TheVariants.{Inline, Front}
use Rattle.flow_defs.specs.declared.parcel.Parcel.TheVariants.{Data, Barrier, End}
use Rattle.flow_defs.specs.Parcels.{data_of, barriers_of, has_end}
use Rattle.turn_cell.specs.History.{by, StartsWith}
use Rattle.flow_defs.specs.Limits.{segment_min}
use Rattle.subpartition.specs.declared.entry.SendEntry.{SendEntry}
use Rattle.subpartition.specs.declared.entry.SendEntry.TheVariants.{Put, PutInline, PutFront, Finish, Take, Size}
use Rattle.flow_defs.specs.Barriers.{data_before, has_barrier, kind_of}
use Rattle.subpartition.specs.declared.item.Filled.{Filled}
use Rattle.subpartition.specs.declared.item.Item.{Item}
use Rattle.turn_cell.specs.History.{IsHistory, entries_of}
use Rattle.std.specs.List.{range_with_len}
use Rattle.subpartition.specs.Sending.{outbox, taken, travelled, parcels_put, put, put_before, barriers_put, overtaken, is_finished, MaySend, MaySendAs, numbers_of}
use Rattle.subpartition.specs.Queues.{Queue, bytes_of, last_bytes, parcel_of, empty_queue, with_buffer, with_barrier, with_front_barrier, overtaken_in, with_end, without_first, filling_to}
use Rattle.subpartition.specs.Standing.{QueueStandsFor}

-- Of every history whatever.

-- The data travel in the order in which they were put.
abbrev pub DataTravelInOrder : Type 0
DataTravelInOrder = (es : List SendEntry) → data_of (travelled es) ≡ put es

-- What was taken of them are the first, and what is left are the others.
abbrev pub DataAreTakenOrLeft : Type 0
DataAreTakenOrLeft = (es : List SendEntry) → put es ≡ data_of (taken es) ++ data_of (outbox es).items

-- Those that travel before a barrier, and then those that it overtook, are those that were put before it.
abbrev pub BarrierSplitsData : Type 0
BarrierSplitsData = (es : List SendEntry) (k : ℕ) → data_before k (travelled es) ++ overtaken k es ≡ put_before k es

-- A barrier in line overtakes nothing.
abbrev pub InlineOvertakesNothing : Type 0
InlineOvertakesNothing = (es : List SendEntry) (k : ℕ) → kind_of k (barriers_put es) ≡ Some Inline → overtaken k es ≡ []

-- What was put before a barrier, and what it overtook, stay once it was put.
pub record BarrierStays (es more : List SendEntry) (k : ℕ) : Type 0 where
  pub overtaken_is : overtaken k (es ++ more) ≡ overtaken k es
  pub before_is : put_before k (es ++ more) ≡ put_before k es

abbrev pub PutStays : Type 0
PutStays = (es more : List SendEntry) (k : ℕ) → has_barrier k (parcels_put es) ≡ true → BarrierStays es more k

-- The barriers travel in the order in which they were put, with their numbers and kinds.
abbrev pub BarriersTravelInOrder : Type 0
BarriersTravelInOrder = (es : List SendEntry) → barriers_of (travelled es) ≡ barriers_put es

-- The end travels exactly where it was put.
abbrev pub EndTravels : Type 0
EndTravels = (es : List SendEntry) → has_end (travelled es) ≡ is_finished es

-- What was taken stays, and is followed by what is taken next.
abbrev pub TakenGrows : Type 0
TakenGrows = (es more : List SendEntry) → StartsWith (taken (es ++ more)) (taken es)

-- Of every history whose entries were allowed.

-- The barriers that were put have the numbers 1, 2 and so on.
abbrev pub BarriersAreNumbered : Type 0
BarriersAreNumbered = (size : ℕ) (es : List SendEntry) → IsHistory (MaySend size) es → numbers_of (barriers_put es) ≡ range_with_len 1 (length (barriers_put es))

-- Nothing travels behind the end.
abbrev pub EndIsLast : Type 0
EndIsLast = (size : ℕ) (es : List SendEntry) (front back : List Parcel) → IsHistory (MaySend size) es → travelled es ≡ front ++ End ∷ back → back ≡ []

-- Of a cell.

-- Its entries are an allowed history.
abbrev pub EntriesAreHistory : Type 0
EntriesAreHistory = (size : ℕ) (history : List (ℕ × SendEntry)) → IsHistory (MaySendAs size) history → IsHistory (MaySend size) (entries_of history)

-- What was put is told by the entries of the task, pass 0.
pub record IsToldByTask (history : List (ℕ × SendEntry)) : Type 0 where
  pub bytes : put (entries_of history) ≡ put (by 0 history)
  pub barriers : barriers_put (entries_of history) ≡ barriers_put (by 0 history)
  pub finished : is_finished (entries_of history) ≡ is_finished (by 0 history)

abbrev pub TaskTellsPuts : Type 0
TaskTellsPuts = (size : ℕ) (history : List (ℕ × SendEntry)) → IsHistory (MaySendAs size) history → IsToldByTask history

-- While the sender, pass 1, makes no entry, nothing is taken.
abbrev pub TakenStays : Type 0
TakenStays = (size : ℕ) (before now : List (ℕ × SendEntry)) → IsHistory (MaySendAs size) now → StartsWith now before → by 1 now ≡ by 1 before → taken (entries_of now) ≡ taken (entries_of before)

-- While the sender makes no entry, what stood first still does, or it was data and a front barrier came before it.
abbrev pub FirstStays : Option Parcel → Option Parcel → Type 0
FirstStays None now = ⊤
FirstStays (Some (Data bytes)) now = (now ≡ Some (Data bytes)) ⊎ ((k : ℕ) × (now ≡ Some (Barrier k Front)))
FirstStays (Some (Barrier k kind)) now = now ≡ Some (Barrier k kind)
FirstStays (Some End) now = now ≡ Some End

abbrev pub FirstItemStays : Type 0
FirstItemStays = (size : ℕ) (before now : List (ℕ × SendEntry)) → IsHistory (MaySendAs size) now → StartsWith now before → by 1 now ≡ by 1 before →
    FirstStays (slice_get (outbox (entries_of before)).items 0) (slice_get (outbox (entries_of now)).items 0)

-- Of a queue that stands for a history.

-- A new queue stands for the empty history.
abbrev pub NewStandsForNone : Type 0
NewStandsForNone = (size room : ℕ) → QueueStandsFor (empty_queue size room) []

-- Each call adds its entry, where its pass may make it.
abbrev pub PutAdds : Type 0
PutAdds = (queue : Queue) (history : List (ℕ × SendEntry)) (number : ℕ) (filled : Filled) → QueueStandsFor queue history → number ≡ 0 → queue.finished ≡ false → length filled.segment ≡ queue.size → QueueStandsFor (with_buffer queue filled) (history ++ (number, Put (bytes_of filled)) ∷ [])

abbrev pub PutInlineAdds : Type 0
PutInlineAdds = (queue : Queue) (history : List (ℕ × SendEntry)) (number k : ℕ) → QueueStandsFor queue history → number ≡ 0 → queue.finished ≡ false → k ≡ suc queue.barriers → QueueStandsFor (with_barrier queue k) (history ++ (number, PutInline k) ∷ [])

abbrev pub PutFrontAdds : Type 0
PutFrontAdds = (queue : Queue) (history : List (ℕ × SendEntry)) (number k : ℕ) → QueueStandsFor queue history → number ≡ 0 → queue.finished ≡ false → k ≡ suc queue.barriers → QueueStandsFor (with_front_barrier queue k) (history ++ (number, PutFront k) ∷ [])

abbrev pub FinishAdds : Type 0
FinishAdds = (queue : Queue) (history : List (ℕ × SendEntry)) (number : ℕ) → QueueStandsFor queue history → number ≡ 0 → queue.finished ≡ false → QueueStandsFor (with_end queue) (history ++ (number, Finish) ∷ [])

abbrev pub TakeAdds : Type 0
TakeAdds = (queue : Queue) (history : List (ℕ × SendEntry)) (number : ℕ) → QueueStandsFor queue history → number ≡ 1 → QueueStandsFor (without_first queue) (history ++ (number, Take) ∷ [])

abbrev pub SizeAdds : Type 0
SizeAdds = (queue : Queue) (history : List (ℕ × SendEntry)) (number n : ℕ) → QueueStandsFor queue history → number ≡ 2 → segment_min ≤ n → n ≤ queue.size → QueueStandsFor (filling_to queue n) (history ++ (number, Size n) ∷ [])

-- What a take gives is what was taken next.
abbrev pub TakeTells : Type 0
TakeTells = (queue : Queue) (history : List (ℕ × SendEntry)) (number : ℕ) (item : Option Item) → QueueStandsFor queue history → item ≡ slice_get queue.items 0 →
    taken (entries_of (history ++ (number, Take) ∷ [])) ≡ taken (entries_of history) ++ map parcel_of (option_to_list item)

-- A buffer that was put is the last item, so its bytes can be read off the queue at the end of the turn.
abbrev pub LastIsPut : Type 0
LastIsPut = (queue : Queue) (filled : Filled) → last_bytes (with_buffer queue filled).items ≡ bytes_of filled

-- What the next barrier overtakes, where it is put in front, is read off the queue.
abbrev pub FrontOvertakes : Type 0
FrontOvertakes = (queue : Queue) (history : List (ℕ × SendEntry)) (number k : ℕ) → QueueStandsFor queue history → k ≡ suc queue.barriers →
    overtaken k (entries_of (history ++ (number, PutFront k) ∷ [])) ≡ overtaken_in queue

-- The task's own entries tell the last barrier of the queue, and whether it was finished.
pub record QueueIsTold (queue : Queue) (own : List SendEntry) : Type 0 where
  pub barriers : queue.barriers ≡ length (barriers_put own)
  pub finished : queue.finished ≡ is_finished own

abbrev pub TaskTellsQueue : Type 0
TaskTellsQueue = (queue : Queue) (history : List (ℕ × SendEntry)) → QueueStandsFor queue history → QueueIsTold queue (by 0 history)
