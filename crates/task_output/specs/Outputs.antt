-- What a task sends on its channels: records, and the barriers between them. As in Flink an aligned barrier travels in line behind the
-- records that were emitted before it. That what a task emitted is told by what it emitted from each barrier to the next is this project's
-- own choice.
use Rattle.std.specs.Prelude.{◌≡◌, ◌≢◌, ℕ, suc, ◌<◌, ◌≤◌, ◌⊎◌, true, List, [], ◌∷◌, ◌++◌, length, flat_map, map, slice_get}
use Rattle.std.specs.Option.{option_map_or}
use Rattle.turn_cell.specs.Passes.{seen}
use Rattle.flow_defs.specs.Items.{Items}
use Rattle.flow_defs.specs.declared.job.Exchange.{Exchange}
use Rattle.flow_defs.specs.declared.job.Exchange.TheVariants.{Hash, Rebalance, Forward}
use Rattle.flow_defs.specs.declared.job.Job.{Job}
use Rattle.flow_defs.specs.declared.parcel.Parcel.{Parcel}
use Rattle.flow_defs.specs.Jobs.{exchange}
use Rattle.flow_defs.specs.Records.{all_encoded}
use Rattle.plain_machine.specs.Emitting.{receiver_on, emit, count_after}
use Rattle.checkpoint_laws.specs.Puts.{stretches}
use Rattle.subpartition.specs.declared.entry.SendEntry.{SendEntry}
use Rattle.subpartition.specs.Sending.{parcels_put, is_finished}
use Rattle.conn_parts.specs.Shares.{mine_at}
use Rattle.record_writer.specs.Writers.{Writer, SendPass, IsOpen, IsNextBarrier, PutSome, PutAll, ways_on, receiver_at, own_at}

-- ---- what is put on a channel

-- What these groups of records bring to a task, group by group, where the first record is emitted from the count n on.
abbrev pub brought : (ℕ → List ℕ → ℕ) → ℕ → List (List (List ℕ)) → ℕ → List (List ℕ)
brought to n [] b = []
brought to n (group ∷ groups) b = all_encoded (emit to n group b) ∷ brought to (count_after n group) groups b

-- All records of the groups; and the count behind them, where so many records were emitted before.
abbrev pub all_of : List (List (List ℕ)) → List (List ℕ)
all_of groups = flat_map (λ (group : List (List ℕ)). group) groups

abbrev pub count_behind : ℕ → List (List (List ℕ)) → ℕ
count_behind from groups = count_after from (all_of groups)

-- Where records go, and how many were emitted before.
module _ (to : ℕ → List ℕ → ℕ) (from : ℕ) (groups : List (List (List ℕ))) (b : ℕ) where
  -- On the channel to task b the groups were put, each before its barrier, and behind the last barrier these records are laid down.
  pub record SentOn (records : List (List ℕ)) (own : List SendEntry) (filling : List ℕ) : Type 0 where
    pub behind : List ℕ
    pub cut : stretches (parcels_put own) ≡ brought to from groups b ++ behind ∷ []
    pub laid : behind ++ filling ≡ all_encoded (emit to (count_behind from groups) records b)

  -- The groups were put, each before its barrier, and of these records some. A further barrier was put only where that may be, and not
  -- two; and the end only where that may be, with no further barrier before it.
  pub record BegunOn (size : ℕ) (records : List (List ℕ)) (may_mark may_end : Type 0) (own : List SendEntry) : Type 0 where
    pub more : List (List ℕ)
    pub cut : stretches (parcels_put own) ≡ brought to from groups b ++ more
    pub few : (length more ≤ 1) ⊎ (may_mark × (length more ≤ 2))
    pub ended : is_finished own ≡ true → may_end × (length more ≡ 1)
    pub some : PutSome size own (all_encoded (emit to from (all_of groups ++ records) b))

  -- The groups were put, each before its barrier, and then all of these records and the end.
  pub record FinishedOn (size : ℕ) (records : List (List ℕ)) (own : List SendEntry) : Type 0 where
    pub cut : stretches (parcels_put own) ≡ brought to from groups b ++ all_encoded (emit to (count_behind from groups) records b) ∷ []
    pub all : PutAll size own (all_encoded (emit to from (all_of groups ++ records) b))

-- ---- the channel to a task

-- The place of the channel to task b among those of a task.
abbrev pub place_to : Exchange → ℕ → ℕ
place_to Hash b = b
place_to Rebalance b = b
place_to Forward b = 0

-- What a task before edge e put on the channel to task b.
abbrev pub parcels_to : Job → ℕ → List SendPass → ℕ → List Parcel
parcels_to job e passes b = parcels_put (mine_at (place_to (exchange job e) b) passes)

-- ---- what a task sent

-- A task's writer, and how many records the task has emitted.
pub record Output : Type 0 where
  pub writer : Writer
  pub emitted : ℕ

-- The writer writes for task a before edge e of the job, in segments of this size.
pub record WritesFor (job : Job) (e a size : ℕ) (w : Writer) : Type 0 where
  pub job_is : w.job ≡ job
  pub edge : w.edge ≡ e
  pub index : w.index ≡ a
  pub size_is : w.size ≡ size

-- The bytes of channel c that are in a buffer.
abbrev pub filling_at : Writer → ℕ → List ℕ
filling_at w c = option_map_or (λ (bytes : List ℕ). bytes) (slice_get w.filling c) []

-- The task at the end of channel c.
abbrev pub end_of : Job → ℕ → ℕ → ℕ → ℕ
end_of job e a c = receiver_at (exchange job e) a c

-- Behind so many records before, the task has emitted these groups of records, put a barrier behind each, and then emitted these records. It
-- goes on.
pub record HasSent (from : ℕ) (job : Job) (e a size : ℕ) (out : Output) (groups : List (List (List ℕ))) (records : List (List ℕ)) : Type 0 where
  pub writes_for : WritesFor job e a size out.writer
  pub is_open : IsOpen out.writer
  pub next : IsNextBarrier out.writer (suc (length groups))
  pub counted : out.emitted ≡ count_after (count_behind from groups) records
  pub agrees : out.writer.emitted ≡ out.emitted
  pub each : (c : ℕ) → c < ways_on job e → SentOn (receiver_on job e a) from groups (end_of job e a c) records (own_at out.writer c) (filling_at out.writer c)

-- It has emitted these records behind the barriers, and had begun to emit those. It may have put a further barrier only where that may be,
-- and its channels may have ended only where that may be.
pub record HasBegun (from : ℕ) (job : Job) (e a size : ℕ) (out : Output) (groups : List (List (List ℕ))) (records begun : List (List ℕ)) (may_mark may_end : Type 0) : Type 0 where
  pub counted : out.emitted ≡ count_after (count_behind from groups) records
  pub each : (c : ℕ) → c < ways_on job e → BegunOn (receiver_on job e a) from groups (end_of job e a c) size (records ++ begun) may_mark may_end (own_at out.writer c)

-- It was stopped among them.
pub record HasStopped (from : ℕ) (job : Job) (e a size : ℕ) (out : Output) (groups : List (List (List ℕ))) (records begun : List (List ℕ)) (may_mark may_end : Type 0) : Type 0 where
  pub fault : seen out.writer.stop_pass ≢ []
  pub begun_them : HasBegun from job e a size out groups records begun may_mark may_end

-- It has ended its channels.
pub record HasFinished (from : ℕ) (job : Job) (e a size : ℕ) (out : Output) (groups : List (List (List ℕ))) (records : List (List ℕ)) : Type 0 where
  pub counted : out.emitted ≡ count_after (count_behind from groups) records
  pub each : (c : ℕ) → c < ways_on job e → FinishedOn (receiver_on job e a) from groups (end_of job e a c) size records (own_at out.writer c)

-- Of these further records it has emitted the first ones, and had begun the one behind them.
pub record StoppedAmong (from : ℕ) (job : Job) (e a size : ℕ) (out : Output) (groups : List (List (List ℕ))) (records further : List (List ℕ)) : Type 0 where
  pub done : List (List ℕ)
  pub begun : List (List ℕ)
  pub rest : List (List ℕ)
  pub parts : further ≡ done ++ (begun ++ rest)
  pub stopped : HasStopped from job e a size out groups (records ++ done) begun ⊥ ⊥

-- The bytes of each of these.
abbrev pub bytes_of : List (Items ℕ) → List (List ℕ)
bytes_of lines = map (λ (line : Items ℕ). line.items) lines
