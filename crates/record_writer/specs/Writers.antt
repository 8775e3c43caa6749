-- What a task has written to the channels of its edge. As by Flink's record writer each record goes to the channel that its exchange
-- selects, laid end to end with the others of that channel in buffers of its result partition; an aligned barrier travels in line with
-- them. That one buffer of each channel is filled at a time, and goes when it is full, before a barrier or at the end, is this project's
-- own choice.
use Rattle.std.specs.Prelude.{◌≡◌, ◌≢◌, ℕ, suc, ◌+◌, ◌*◌, ◌<◌, ◌≤◌, ◌⊎◌, ⊤, true, false, List, [], ◌∷◌, ◌++◌, length, map, take, slice_get, Option, Some, None, IfSome}
use Rattle.std.specs.Option.{option_map_or}
use Rattle.turn_cell.specs.declared.cell.TurnCell.{TurnCell}
use Rattle.turn_cell.specs.declared.pass.Pass.{Pass}
use Rattle.turn_cell.specs.Passes.{IsPassOf, IsSamePass, opened_with, number, seen}
use Rattle.flow_defs.specs.declared.job.Job.{Job}
use Rattle.flow_defs.specs.declared.job.Exchange.{Exchange}
use Rattle.flow_defs.specs.declared.job.Exchange.TheVariants.{Hash, Rebalance, Forward}
use Rattle.flow_defs.specs.Jobs.{tasks, exchange}
use Rattle.flow_defs.specs.Records.{all_encoded}
pub use Rattle.local_pool.specs.Lending.{PoolCell}
use Rattle.local_pool.specs.declared.entry.PoolEntry.{PoolEntry}
use Rattle.flow_defs.specs.Limits.{segment_min}
use Rattle.subpartition.specs.declared.entry.SendEntry.{SendEntry}
use Rattle.subpartition.specs.declared.entry.SendEntry.TheVariants.{Put, PutInline, PutFront, Finish, Take, Size}
use Rattle.subpartition.specs.Queues.{Queue}
use Rattle.subpartition.specs.Sending.{put, barriers_put, is_finished}
use Rattle.record_writer.specs.declared.part.Part.{Part}
use Rattle.plain_machine.specs.Emitting.{receiver_on, emit, count_after}
use Rattle.conn_parts.specs.Shares.{mine_at}
use Rattle.conn_parts.specs.Stopping.{StopCell, StopPass}

abbrev pub SendCell : Type 0
SendCell = TurnCell Queue SendEntry ℕ

abbrev pub SendPass : Type 0
SendPass = Pass Queue SendEntry ℕ

-- ---- the channels of a task

-- How many channels a task has on an edge to so many tasks, and to which task each of them leads.
abbrev pub ways : Exchange → ℕ → ℕ
ways Hash n = n
ways Rebalance n = n
ways Forward n = 1

abbrev pub receiver_at : Exchange → ℕ → ℕ → ℕ
receiver_at Hash a c = c
receiver_at Rebalance a c = c
receiver_at Forward a c = a

abbrev pub ways_on : Job → ℕ → ℕ
ways_on job e = ways (exchange job e) (tasks job (suc e))

-- How many channels lead to a task, and from which task each of them does.
abbrev pub ways_into : Job → ℕ → ℕ
ways_into job e = ways (exchange job e) (tasks job e)

abbrev pub sender_at : Exchange → ℕ → ℕ → ℕ
sender_at Hash b i = i
sender_at Rebalance b i = i
sender_at Forward b i = b

-- Channel c of the task stands at this place among the channels of the edge.
abbrev pub place_of : ℕ → ℕ → ℕ → ℕ
place_of first stride c = first + c * stride

-- These are the task's passes of the cells of its channels.
pub record AreOwnAt (cells : List SendCell) (first stride many : ℕ) (passes : List SendPass) : Type 0 where
  pub many_are : length passes ≡ many
  pub each : (c : ℕ) (pass : SendPass) → slice_get passes c ≡ Some pass →
      (cell : SendCell) × (slice_get cells (place_of first stride c) ≡ Some cell) × IsPassOf cell pass × (number pass ≡ 0)

-- Their segments have this size.
abbrev pub HaveSizeAt : List SendCell → ℕ → ℕ → ℕ → ℕ → Type 0
HaveSizeAt cells first stride many size = (c : ℕ) (cell : SendCell) → c < many →
    slice_get cells (place_of first stride c) ≡ Some cell → (opened_with cell).size ≡ size

-- ---- what is put on a channel

-- No buffer is longer than a segment, and each that another follows with no barrier between has as many bytes as the least segment at
-- least. The first number is the size of segments, the second the length of a buffer right before these entries.
abbrev pub AreCutFrom : ℕ → Option ℕ → List SendEntry → Type 0
AreCutFrom size before [] = ⊤
AreCutFrom size before (Put bytes ∷ es) = IfSome before (λ n. segment_min ≤ n) × (length bytes ≤ size) × AreCutFrom size (Some (length bytes)) es
AreCutFrom size before (PutInline k ∷ es) = AreCutFrom size None es
AreCutFrom size before (PutFront k ∷ es) = AreCutFrom size None es
AreCutFrom size before (Finish ∷ es) = AreCutFrom size None es
AreCutFrom size before (Take ∷ es) = AreCutFrom size before es
AreCutFrom size before (Size n ∷ es) = AreCutFrom size before es

abbrev pub AreCut : ℕ → List SendEntry → Type 0
AreCut size own = AreCutFrom size None own

-- The length of the buffer that was put last, where no barrier was put behind it.
abbrev pub last_put : Option ℕ → List SendEntry → Option ℕ
last_put before [] = before
last_put before (Put bytes ∷ es) = last_put (Some (length bytes)) es
last_put before (PutInline k ∷ es) = last_put None es
last_put before (PutFront k ∷ es) = last_put None es
last_put before (Finish ∷ es) = last_put None es
last_put before (Take ∷ es) = last_put before es
last_put before (Size n ∷ es) = last_put before es

-- Of these bytes that a channel was to get some were put.
pub record PutSome (size : ℕ) (own : List SendEntry) (bytes : List ℕ) : Type 0 where
  pub owed : List ℕ
  pub begins : put own ++ owed ≡ bytes
  pub buffers : AreCut size own

-- All of them were put, and then the end.
pub record PutAll (size : ℕ) (own : List SendEntry) (bytes : List ℕ) : Type 0 where
  pub whole : put own ≡ bytes
  pub ended : is_finished own ≡ true
  pub buffers : AreCut size own

-- Behind these entries data was put: these buffers, and no other entry.
abbrev pub GrewByData : List SendEntry → List SendEntry → Type 0
GrewByData own own' = (buffers : List (List ℕ)) × (own' ≡ own ++ map Put buffers)

-- Data was put, and then this entry.
abbrev pub GrewUpTo : SendEntry → List SendEntry → List SendEntry → Type 0
GrewUpTo last own own' = (buffers : List (List ℕ)) × (own' ≡ own ++ map Put buffers ++ last ∷ [])

-- Data was put, and then this entry or nothing.
abbrev pub GrewTowards : SendEntry → List SendEntry → List SendEntry → Type 0
GrewTowards last own own' = GrewByData own own' ⊎ GrewUpTo last own own'

-- ---- a writer

-- Its job, and the edge and the index of its task; the cells of the edge and the places of its own among them; the size of segments; the
-- cells of its pool and of what stops the job; its passes; of each channel the bytes in the buffer that is being filled; the own entries of its
-- pass of the pool, and how many segments its channels are filling; and the count of the records emitted.
pub record Writer : Type 0 where
  pub job : Job
  pub edge : ℕ
  pub index : ℕ
  pub cells : List SendCell
  pub first : ℕ
  pub stride : ℕ
  pub size : ℕ
  pub pool : PoolCell
  pub stop : StopCell
  pub passes : List SendPass
  pub stop_pass : StopPass
  pub filling : List (List ℕ)
  pub lending : List PoolEntry
  pub held : ℕ
  pub emitted : ℕ

-- The own entries at channel c, and all the bytes that were laid down for it.
abbrev pub own_at : Writer → ℕ → List SendEntry
own_at w c = mine_at c w.passes

abbrev pub laid_at : Writer → ℕ → List ℕ
laid_at w c = put (own_at w c) ++ option_map_or (λ (bytes : List ℕ). bytes) (slice_get w.filling c) []

-- What comes to channel c of these records.
abbrev pub coming : Writer → List (List ℕ) → ℕ → List ℕ
coming w records c = all_encoded (emit (receiver_on w.job w.edge w.index) w.emitted records (receiver_at (exchange w.job w.edge) w.index c))

-- It is the same writer, which has told the stop cell nothing.
pub record IsSame (w w' : Writer) : Type 0 where
  pub job : w'.job ≡ w.job
  pub edge : w'.edge ≡ w.edge
  pub index : w'.index ≡ w.index
  pub cells : w'.cells ≡ w.cells
  pub first : w'.first ≡ w.first
  pub stride : w'.stride ≡ w.stride
  pub size : w'.size ≡ w.size
  pub pool : w'.pool ≡ w.pool
  pub stop : w'.stop ≡ w.stop
  pub stop_pass : IsSamePass w.stop_pass w'.stop_pass

-- Besides, it has put, laid down and emitted nothing more.
pub record IsStill (w w' : Writer) : Type 0 where
  pub same : IsSame w w'
  pub passes : w'.passes ≡ w.passes
  pub filling : w'.filling ≡ w.filling
  pub lending : w'.lending ≡ w.lending
  pub held : w'.held ≡ w.held
  pub emitted : w'.emitted ≡ w.emitted

-- Its pass of the stop cell has seen a fault.
abbrev pub HasSeenFault : Writer → Type 0
HasSeenFault w = seen w.stop_pass ≢ []

-- What is being filled.
abbrev pub bytes_in : Part → List ℕ
bytes_in part = option_map_or (λ (segment : List ℕ). take part.len segment) part.segment []

-- It writes on: no end was put, and a buffer behind which more data may come is full.
pub record IsOpen (w : Writer) : Type 0 where
  pub each : (c : ℕ) → c < ways_on w.job w.edge → (is_finished (own_at w c) ≡ false) × AreCut w.size (own_at w c)
  pub full : (c : ℕ) → c < ways_on w.job w.edge → IfSome (last_put None (own_at w c)) (λ n. n ≡ w.size)

-- On each channel the next barrier has this number.
abbrev pub IsNextBarrier : Writer → ℕ → Type 0
IsNextBarrier w k = (c : ℕ) → c < ways_on w.job w.edge → k ≡ suc (length (barriers_put (own_at w c)))

-- On each channel it has put data; data and then this entry; data and then this entry or nothing.
abbrev pub HasPutData : Writer → Writer → Type 0
HasPutData w w' = (c : ℕ) → c < ways_on w.job w.edge → GrewByData (own_at w c) (own_at w' c)

abbrev pub HasPutUpTo : SendEntry → Writer → Writer → Type 0
HasPutUpTo last w w' = (c : ℕ) → c < ways_on w.job w.edge → GrewUpTo last (own_at w c) (own_at w' c)

abbrev pub HasPutTowards : SendEntry → Writer → Writer → Type 0
HasPutTowards last w w' = (c : ℕ) → c < ways_on w.job w.edge → GrewTowards last (own_at w c) (own_at w' c)

-- A new one has put and laid down nothing, and is filling no segment.
pub record IsNew (w : Writer) : Type 0 where
  pub own : (c : ℕ) → own_at w c ≡ []
  pub laid : (c : ℕ) → laid_at w c ≡ []
  pub held : w.held ≡ 0

-- It has laid down these records, one after another.
pub record HasEmitted (w w' : Writer) (records : List (List ℕ)) : Type 0 where
  pub count : w'.emitted ≡ count_after w.emitted records
  pub each : (c : ℕ) → c < ways_on w.job w.edge → laid_at w' c ≡ laid_at w c ++ coming w records c

-- It was stopped among them: its pass has seen a fault.
pub record WasStopped (w w' : Writer) (records : List (List ℕ)) : Type 0 where
  pub fault : seen w'.stop_pass ≡ [] → ⊥
  pub each : (c : ℕ) → c < ways_on w.job w.edge → PutSome w.size (own_at w' c) (laid_at w c ++ coming w records c)

-- It has put all that was laid down, and then the end of each channel.
pub record HasFinished (w w' : Writer) : Type 0 where
  pub each : (c : ℕ) → c < ways_on w.job w.edge → PutAll w.size (own_at w' c) (laid_at w c)
  pub entries : HasPutUpTo Finish w w'

-- It has put all that was laid down, and then this barrier on each channel. Nothing is being filled.
pub record HasMarked (w w' : Writer) (k : ℕ) : Type 0 where
  pub count : w'.emitted ≡ w.emitted
  pub whole : (c : ℕ) → c < ways_on w.job w.edge → put (own_at w' c) ≡ laid_at w c
  pub none_filled : (c : ℕ) → c < ways_on w.job w.edge → laid_at w' c ≡ put (own_at w' c)
  pub entries : HasPutUpTo (PutInline k) w w'
