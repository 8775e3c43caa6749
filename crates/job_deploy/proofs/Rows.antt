-- Tasks at their places.
use Rattle.std.proofs.Common.{◌≡◌, ℕ, suc, ◌<◌, List, length, Option, Some, refl, sym, ap, subst, ◌∙◌}
use Rattle.std.specs.Prelude.{slice_get, reverse}
use Rattle.flow_defs.specs.declared.job.Job.{Job}
use Rattle.flow_defs.specs.Jobs.{last_edge, tasks}
use Rattle.input_gate.specs.Channels.{cells_in}
use Rattle.input_gate.specs.Turning.{InputCell}
use Rattle.record_writer.specs.declared.partition.Partition.{Partition}
use Rattle.record_writer.specs.Partitions.{IsPartitionOf}
use Rattle.snapshot_channel.specs.declared.opened.SnapshotChannel.{SnapshotChannel}
use Rattle.job_cells.specs.declared.edge.Edge.{Edge}
use Rattle.job_workers.specs.declared.task.SourceTask.{SourceTask}
use Rattle.job_workers.specs.declared.task.StageTask.{StageTask}
use Rattle.job_workers.specs.declared.task.AggregateTask.{AggregateTask}
use Rattle.job_start.specs.Starts.{IsStartFor}
use Rattle.task_output.specs.Acking.{IsLent}
use Rattle.job_workers.specs.Tasks.{IsGateBehind}
use Rattle.job_deploy.specs.declared.senders.Senders.{Senders}
use Rattle.job_deploy.specs.declared.takers.Takers.{Takers}
use Rattle.job_deploy.specs.declared.tasks.SourceLent.{SourceLent}
use Rattle.job_deploy.specs.Deployed.{TaskPlace, IsPartitionAt, IsLentOf, IsGateAt, IsSourceAt, IsStageAt, IsAggregateAt, AreSources, AreStage, AreAggregates}
use Rattle.job_deploy.specs.Lending.{AreLent, AreSendersAt, AreTakersAt, AreTurned, IsLentAt, AreSourcesOver, IsStagePlace, IsAggregatePlace}
use Rattle.job_deploy.specs.Placing.{AreGateCells, AreSenders, AreTakers, IsOverCells}
use Rattle.job_deploy.proofs.Orders.{stands_at, in_order, length_turned}

-- ---- the passes of an edge

module _ (job : Job) (edges : List Edge) (e k : ℕ) (edge : Edge) (same : k ≡ e) (stands : slice_get edges k ≡ Some edge) where
  stands_here : slice_get edges e ≡ Some edge
  stands_here = ap (slice_get edges) (sym same) ∙ stands

  pub senders_here : (senders : Senders) → AreSendersAt job edges e senders → AreSenders job k edge senders
  senders_here senders at =
      subst (λ (j : ℕ). AreSenders job j edge senders) (sym same)
      (subst (λ (x : Edge). AreSenders job e x senders) (stands_at edges e at.edge edge at.stands stands_here) at.are)

  pub senders_there : (senders : Senders) → AreSenders job k edge senders → AreSendersAt job edges e senders
  senders_there senders are = record { edge = edge; stands = stands_here; are = subst (λ (j : ℕ). AreSenders job j edge senders) same are }

  pub takers_here : (takers : Takers) → AreTakersAt job edges e takers → AreTakers job k edge takers
  takers_here takers at =
      subst (λ (j : ℕ). AreTakers job j edge takers) (sym same)
      (subst (λ (x : Edge). AreTakers job e x takers) (stands_at edges e at.edge edge at.stands stands_here) at.are)

  pub takers_there : (takers : Takers) → AreTakers job k edge takers → AreTakersAt job edges e takers
  takers_there takers are = record { edge = edge; stands = stands_here; are = subst (λ (j : ℕ). AreTakers job j edge takers) same are }

  pub partition_of : (a : ℕ) (partition : Partition) → IsPartitionOf job k a partition → IsPartitionOf job e a partition
  partition_of a partition is = subst (λ (j : ℕ). IsPartitionOf job j a partition) same is

  module _ (size : ℕ) (every : Option ℕ) (snapshots : SnapshotChannel) where
    pub partition_at : (a : ℕ) (partition : Partition) → IsOverCells job k a size edge partition → IsPartitionAt job size every snapshots edges e a partition
    partition_at a partition over = record {
      edge = edge;
      stands = stands_here;
      cells = over.cells;
      first = over.first;
      stride = over.stride ∙ ap (tasks job) same;
      size_is = over.size_is;
    }

    pub gate_at : (b : ℕ) (cells : List InputCell) → AreGateCells job k b edge cells → IsGateAt job size every snapshots edges e b cells
    gate_at b cells are =
        let are' : AreGateCells job e b edge cells = subst (λ (j : ℕ). AreGateCells job j b edge cells) same are in
        record { edge = edge; stands = stands_here; many = are'.many; each = are'.each }

-- ---- a task

module _ (job : Job) (size : ℕ) (every : Option ℕ) (snapshots : SnapshotChannel) (edges : List Edge) where
  pub stage_at : (e b : ℕ) (task : StageTask) → task.edge ≡ e → task.index ≡ b → e < last_edge job → b < tasks job (suc e) →
      IsGateAt job size every snapshots edges e b (cells_in task.gate.lanes) → IsGateBehind job e task.gate → IsPartitionAt job size every snapshots edges (suc e) b task.world.partition → IsPartitionOf job (suc e) b task.world.partition →
      IsLentOf job size every snapshots edges task.every task.world → IsLent job (suc e) b task.start.now task.every task.world → IsStageAt job size every snapshots edges e b task
  stage_at e b task edge_is index_is low here gate behind partition of lent may = record {
    edge = edge_is;
    index = index_is;
    gate = gate;
    partition = partition;
    lent = lent;
    may = record {
      stage = subst (λ (j : ℕ). (j < last_edge job) × (task.index < tasks job (suc j))) (sym edge_is) (low, subst (λ (i : ℕ). i < tasks job (suc e)) (sym index_is) here);
      gate = subst (λ (j : ℕ). IsGateBehind job j task.gate) (sym edge_is) behind;
      partition = subst (λ (j : ℕ). IsPartitionOf job (suc j) task.index task.world.partition) (sym edge_is) (subst (λ (i : ℕ). IsPartitionOf job (suc e) i task.world.partition) (sym index_is) of);
      lent = subst (λ (j : ℕ). IsLent job (suc j) task.index task.start.now task.every task.world) (sym edge_is) (subst (λ (i : ℕ). IsLent job (suc e) i task.start.now task.every task.world) (sym index_is) may);
    };
  }

  pub aggregate_at : (b : ℕ) (task : AggregateTask) → task.index ≡ b → b < tasks job (suc (last_edge job)) →
      IsGateAt job size every snapshots edges (last_edge job) b (cells_in task.gate.lanes) → IsGateBehind job (last_edge job) task.gate →
      IsLentOf job size every snapshots edges task.every task.world → IsStartFor job task.start.now → IsLent job (suc (last_edge job)) b task.start.now task.every task.world → IsAggregateAt job size every snapshots edges b task
  aggregate_at b task index_is here gate behind lent start may = record {
    index = index_is;
    gate = gate;
    lent = lent;
    may = record {
      index = subst (λ (i : ℕ). i < tasks job (suc (last_edge job))) (sym index_is) here;
      gate = behind;
      start = start;
      lent = subst (λ (i : ℕ). IsLent job (suc (last_edge job)) i task.start.now task.every task.world) (sym index_is) may;
    };
  }

  pub source_at : {S : Type 0} (inputs : List S) (a : ℕ) (task : SourceTask S) (lent : SourceLent) → task.index ≡ a → slice_get inputs a ≡ Some task.input →
      lent ≡ record { start = task.start; every = task.every; world = task.world } → IsLentAt job size every snapshots edges a lent → IsSourceAt job size every snapshots edges inputs a task
  source_at inputs a task lent index_is input same is =
      let is' : IsLentAt job size every snapshots edges a (record { start = task.start; every = task.every; world = task.world }) = subst (λ (l : SourceLent). IsLentAt job size every snapshots edges a l) same is in
      record {
        index = index_is;
        input = input;
        partition = is'.at;
        lent = is'.lent;
        may = record {
          partition = subst (λ (i : ℕ). IsPartitionOf job 0 i task.world.partition) (sym index_is) is'.partition;
          lent = subst (λ (i : ℕ). IsLent job 0 i task.start.now task.every task.world) (sym index_is) is'.may;
        };
      }

  -- ---- the rows

  module _ {S : Type 0} where
    pub stage_row_is : (e : ℕ) (acc row : List (TaskPlace S)) → row ≡ reverse acc → length acc ≡ tasks job (suc e) → AreTurned (IsStagePlace job size every snapshots edges e) (tasks job (suc e)) acc → AreStage job size every snapshots edges e row
    stage_row_is e acc row is many each = record {
      many = length_turned acc row is ∙ many;
      each = λ b place at. let found = in_order (IsStagePlace job size every snapshots edges e) (tasks job (suc e)) acc row is many each b place at in (found.task, found.is, found.at);
    }

    pub aggregate_row_is : (acc row : List (TaskPlace S)) → row ≡ reverse acc → length acc ≡ tasks job (suc (last_edge job)) → AreTurned (IsAggregatePlace job size every snapshots edges) (tasks job (suc (last_edge job))) acc →
        AreAggregates job size every snapshots edges row
    aggregate_row_is acc row is many each = record {
      many = length_turned acc row is ∙ many;
      each = λ b place at. let found = in_order (IsAggregatePlace job size every snapshots edges) (tasks job (suc (last_edge job))) acc row is many each b place at in (found.task, found.is, found.at);
    }

    -- Sources over inputs, with what they are lent, are the sources of the job.
    pub sources_are : (lents : List SourceLent) (inputs : List S) (row : List (TaskPlace S)) → length inputs ≡ tasks job 0 → AreLent job size every snapshots edges lents → AreSourcesOver lents inputs row →
        AreSources job size every snapshots edges inputs row
    sources_are lents inputs row many lent over = record {
      many = over.many ∙ many;
      each = λ a place at.
          let found = over.each a place at in let lent_here : SourceLent = record { start = found.task.start; every = found.task.every; world = found.task.world } in
          (found.task, found.is, source_at inputs a found.task lent_here found.index found.input refl (lent.each a lent_here found.lent));
    }
