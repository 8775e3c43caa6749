-- The workers of a job as they are made, from the last edge on. This is this project's own choice.
use Rattle.std.specs.Prelude.{◌≡◌, ℕ, suc, ◌+◌, ◌<◌, ◌≤◌, List, [], length, slice_get, Option, Some}
use Rattle.flow_defs.specs.Items.{Items}
use Rattle.flow_defs.specs.declared.job.Job.{Job}
use Rattle.flow_defs.specs.Jobs.{last_edge, tasks}
use Rattle.snapshot_channel.specs.declared.opened.SnapshotChannel.{SnapshotChannel}
use Rattle.job_cells.specs.declared.edge.Edge.{Edge}
use Rattle.job_deploy.specs.declared.loops.Shares.{Shares}
use Rattle.job_deploy.specs.declared.prepare.Made.{Made}
use Rattle.job_deploy.specs.declared.prepare.Prepared.{Prepared}
use Rattle.job_deploy.specs.Deployed.{TaskPlace, AreStage, AreAggregates}
use Rattle.job_deploy.specs.Lending.{AreTurned, AreSendersAt, AreLent}
use Rattle.job_deploy.specs.Sharing.{AreSharesOf}

-- What the loops of edge e are lent.
pub record AreSharesAt {O I : Type 0} (edges : List Edge) (e : ℕ) (shares : Shares O I) : Type 0 where
  pub edge : Edge
  pub stands : slice_get edges e ≡ Some edge
  pub are : AreSharesOf edge shares

module _ (job : Job) (size : ℕ) (every : Option ℕ) (snapshots : SnapshotChannel) (edges : List Edge) where
  -- The row of a stage behind the sources.
  pub record IsRowAt {S : Type 0} (stage : ℕ) (row : Items (TaskPlace S)) : Type 0 where
    pub stages : (e : ℕ) → stage ≡ suc e → e < last_edge job → AreStage job size every snapshots edges e row.items
    pub aggregates : stage ≡ suc (last_edge job) → AreAggregates job size every snapshots edges row.items

  -- The workers of the edges from edge e on are made, and of the stages behind them.
  pub record AreMade {S O I : Type 0} (e : ℕ) (made : Made S O I) : Type 0 where
    pub senders : AreSendersAt job edges e made.senders
    pub senders_all : length made.senders.own.items ≡ tasks job e
    pub rows_many : length made.rows.items + e ≡ suc (last_edge job)
    pub rows : AreTurned IsRowAt (suc (suc (last_edge job))) made.rows.items
    pub shares_many : length made.shares.items + e ≡ suc (last_edge job)
    pub shares : AreTurned (AreSharesAt edges) (suc (last_edge job)) made.shares.items

  pub record ArePrepared {S O I : Type 0} (all : Prepared S O I) : Type 0 where
    pub lents : AreLent job size every snapshots edges all.lents.items
    pub sources : (all.sources.items ≡ []) × (tasks job 0 ≤ all.sources.room)
    pub rows_many : length all.rows.items ≡ suc (last_edge job)
    pub rows : AreTurned IsRowAt (suc (suc (last_edge job))) all.rows.items
    pub rows_room : 1 ≤ all.rows.room
    pub shares_many : length all.shares.items ≡ suc (last_edge job)
    pub shares : (e : ℕ) (shares : Shares O I) → slice_get all.shares.items e ≡ Some shares → AreSharesAt edges e shares
    pub loops : (all.loops.items ≡ []) × (suc (last_edge job) ≤ all.loops.room)
