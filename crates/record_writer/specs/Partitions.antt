-- What a task is lent to write its records: its result partition. As in Flink a result partition has a subpartition for each channel.
use Rattle.std.specs.Prelude.{◌≡◌, ℕ, ◌<◌, ◌≤◌, ◌^◌, length}
use Rattle.turn_cell.specs.Passes.{IsPassOf, opened_with, mine}
use Rattle.flow_defs.specs.declared.job.Job.{Job}
use Rattle.flow_defs.specs.Jobs.{IsJob, last_edge, tasks}
use Rattle.local_pool.specs.Helds.{pool_of}
use Rattle.segment_pool.specs.Pools.{size_of}
use Rattle.conn_parts.specs.Shares.{AreNew}
use Rattle.record_writer.specs.declared.partition.Partition.{Partition}
use Rattle.record_writer.specs.declared.partition.PartitionPasses.{PartitionPasses}
use Rattle.record_writer.specs.Writers.{ways_on, AreOwnAt, HaveSizeAt, Writer}

-- These are passes of the partition's cells.
pub record ArePassesOf (job : Job) (e : ℕ) (partition : Partition) (passes : PartitionPasses) : Type 0 where
  pub own : AreOwnAt partition.subpartitions.now partition.first partition.stride (ways_on job e) passes.subpartitions.items
  pub pool : IsPassOf partition.pool.now passes.pool

-- It is the partition of task a of the stage before edge e: its passes have made no entry, and all its segments have one size.
pub record IsPartitionOf (job : Job) (e a : ℕ) (partition : Partition) : Type 0 where
  pub is_job : IsJob job
  pub edge : e ≤ last_edge job
  pub index : a < tasks job e
  pub passes : ArePassesOf job e partition partition.passes
  pub new : AreNew partition.passes.subpartitions.items
  pub sizes : HaveSizeAt partition.subpartitions.now partition.first partition.stride (ways_on job e) partition.size
  pub pool_size : size_of (pool_of (opened_with partition.pool.now)) ≡ partition.size
  pub few : length partition.subpartitions.now < 2 ^ 32

-- The writer is that of this task, over this partition.
pub record IsWriterOf (job : Job) (e a : ℕ) (partition : Partition) (w : Writer) : Type 0 where
  pub job_is : w.job ≡ job
  pub edge : w.edge ≡ e
  pub index : w.index ≡ a
  pub cells : w.cells ≡ partition.subpartitions.now
  pub first : w.first ≡ partition.first
  pub stride : w.stride ≡ partition.stride
  pub size : w.size ≡ partition.size
  pub pool : w.pool ≡ partition.pool.now
  pub lending : w.lending ≡ mine partition.passes.pool
