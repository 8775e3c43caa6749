-- The channels of a writer, one by one: what was put on each, and the buffer that is being filled. That a buffer is put in a turn of its
-- subpartition's cell, and a segment is lent in a turn of the pool's cell, is this project's own choice.
use Rattle.std.specs.Prelude.{◌≡◌, ◌≢◌, ℕ, suc, ◌≤◌, false, List, [], ◌∷◌, ◌++◌, length, Option, Some, None, IfSome, IsSomeAnd}
use Rattle.turn_cell.specs.Passes.{IsPassOf, IsSamePass, opened_with, number, seen}
use Rattle.local_pool.specs.Helds.{pool_of}
use Rattle.flow_defs.specs.Limits.{segment_min}
use Rattle.segment_pool.specs.Pools.{size_of}
use Rattle.subpartition.specs.declared.entry.SendEntry.{SendEntry}
use Rattle.subpartition.specs.declared.entry.SendEntry.TheVariants.{Put, PutInline, Finish}
use Rattle.subpartition.specs.Sending.{put, barriers_put, is_finished}
use Rattle.record_writer.specs.declared.part.Part.{Part}
use Rattle.record_writer.specs.declared.supply.Supply.{Supply}
use Rattle.record_writer.specs.Writers.{SendCell, SendPass, bytes_in, AreCut, last_put, PutSome, PutAll, GrewUpTo, GrewTowards}

-- It is the task's pass of this cell.
pub record IsTaskPass (cell : SendCell) (pass : SendPass) : Type 0 where
  pub pass_of : IsPassOf cell pass
  pub task : number pass ≡ 0

-- A segment of this size of which so many bytes are filled, or none.
abbrev pub IsFilledTo : ℕ → Option (List ℕ) → ℕ → Type 0
IsFilledTo size None len = len ≡ 0
IsFilledTo size (Some segment) len = (length segment ≡ size) × (len ≤ size) × (segment_min ≤ size)

abbrev pub IsPart : ℕ → Part → Type 0
IsPart size part = IsFilledTo size part.segment part.len

-- More may be put: no end was, and a buffer behind which more data may come is full.
pub record IsOpenAt (size : ℕ) (own : List SendEntry) : Type 0 where
  pub unfinished : is_finished own ≡ false
  pub buffers : AreCut size own
  pub full : IfSome (last_put None own) (λ n. n ≡ size)

-- The next barrier has this number.
abbrev pub IsNextAt : ℕ → List SendEntry → Type 0
IsNextAt k own = k ≡ suc (length (barriers_put own))

-- All of these bytes were put, and then the end.
pub record WasEndedAt (size : ℕ) (own own' : List SendEntry) (bytes : List ℕ) : Type 0 where
  pub all : PutAll size own' bytes
  pub entries : GrewUpTo Finish own own'

-- All of these bytes were put, and then this barrier. More may be put.
pub record WasMarkedAt (size k : ℕ) (own own' : List SendEntry) (bytes : List ℕ) : Type 0 where
  pub whole : put own' ≡ bytes
  pub entries : GrewUpTo (PutInline k) own own'
  pub is_open : IsOpenAt size own'

-- Some of these bytes were put, and then this entry or nothing.
pub record WasStoppedAt (size : ℕ) (last : SendEntry) (own own' : List SendEntry) (bytes : List ℕ) : Type 0 where
  pub some : PutSome size own' bytes
  pub entries : GrewTowards last own own'

-- All that was laid down for a channel: what was put, and then what is in the buffer that is being filled.
abbrev pub laid : List SendEntry → Part → List ℕ
laid own part = put own ++ bytes_in part

-- The supply has the passes of its cells, and its pool lends segments of its size.
pub record IsSupply (supply : Supply) : Type 0 where
  pub pool : IsSomeAnd supply.pool_pass (λ pass. IsPassOf supply.pool.now pass)
  pub size : size_of (pool_of (opened_with supply.pool.now)) ≡ supply.size
  pub stop : IsPassOf supply.stop.now supply.stop_pass

-- It is the same supply, which has told the stop cell nothing.
pub record IsSameSupply (supply supply' : Supply) : Type 0 where
  pub pool : supply'.pool ≡ supply.pool
  pub size : supply'.size ≡ supply.size
  pub stop : supply'.stop ≡ supply.stop
  pub stop_pass : IsSamePass supply.stop_pass supply'.stop_pass

-- Its pass of the stop cell has seen a fault.
abbrev pub HasSeenFault : Supply → Type 0
HasSeenFault supply = seen supply.stop_pass ≢ []

-- A buffer of these bytes was put, unless it was empty.
abbrev pub PutIfSome : List ℕ → List SendEntry → List SendEntry → Type 0
PutIfSome [] own own' = own' ≡ own
PutIfSome (b ∷ bytes) own own' = own' ≡ own ++ Put (b ∷ bytes) ∷ []

-- Of these bytes the first ones were laid down.
pub record LaidSome (bytes laid_down : List ℕ) : Type 0 where
  pub rest : List ℕ
  pub begins : laid_down ++ rest ≡ bytes
