-- What the loops of an edge are lent.
use Rattle.std.proofs.Common.{◌≡◌, ℕ, ◌<◌, List, [], length, Some, sym, ap, subst, ◌∙◌}
use Rattle.std.specs.Prelude.{All}
use Rattle.turn_cell.specs.declared.cell.TurnCell.{TurnCell}
use Rattle.turn_cell.specs.declared.pass.Pass.{Pass}
use Rattle.turn_cell.specs.Passes.{IsPassOf, mine, opened_with}
use Rattle.flow_defs.specs.declared.task.ChannelId.{ChannelId}
use Rattle.credit_reader.specs.Senders.{AreDistinct}
use Rattle.subpartition.specs.Queues.{Queue}
use Rattle.subpartition.specs.declared.entry.SendEntry.{SendEntry}
use Rattle.input_channel.specs.States.{ChannelState}
use Rattle.input_channel.specs.declared.entry.ReceiveEntry.{ReceiveEntry}
use Rattle.reader_state.specs.Turning.{ReaderCell, ReaderPass, channels_in, IsReaderPass}
use Rattle.conn_parts.specs.declared.share.ConnShare.{ConnShare}
use Rattle.conn_parts.specs.declared.share.SharePasses.{SharePasses}
use Rattle.conn_parts.specs.Shares.{AreOf, AreOwn, HavePoolSize}
use Rattle.conn_parts.specs.Stopping.{StopCell}
use Rattle.conn_send_items.specs.Sending.{MaySendItems}
use Rattle.conn_read_control.specs.Controlling.{MayReadControl}
use Rattle.conn_read_items.specs.Receiving.{MayReadItems}
use Rattle.conn_send_control.specs.Announcing.{MaySendControl}
use Rattle.input_gate.specs.States.{PoolCell}
use Rattle.job_cells.specs.declared.edge.Edge.{Edge}
use Rattle.job_deploy.specs.Sharing.{IsOver, IsWired}

own_of : {S E F : Type 0} (n : ℕ) (cells cells' : List (TurnCell S E F)) (passes passes' : List (Pass S E F)) → cells' ≡ cells → passes' ≡ passes → AreOwn n cells passes → AreOwn n cells' passes'
own_of {S} {E} {F} n cells cells' passes passes' c p own = subst (λ (l : List (TurnCell S E F)). AreOwn n l passes') (sym c) (subst (λ (l : List (Pass S E F)). AreOwn n cells l) (sym p) own)

of_of : {S E F : Type 0} (cells cells' : List (TurnCell S E F)) (passes passes' : List (Pass S E F)) → cells' ≡ cells → passes' ≡ passes → AreOf cells passes → AreOf cells' passes'
of_of {S} {E} {F} cells cells' passes passes' c p of = subst (λ (l : List (TurnCell S E F)). AreOf l passes') (sym c) (subst (λ (l : List (Pass S E F)). AreOf cells l) (sym p) of)

module _ (size : ℕ) (edge : Edge) (stop : StopCell) (share : ConnShare) (passes : SharePasses) (wired : IsWired size edge) (over : IsOver edge size stop share) (same : share.passes ≡ passes)
    (is_stop : IsPassOf stop passes.stop) where
  stop_here : IsPassOf share.stop.now share.passes.stop
  stop_here = subst (λ (c : StopCell). IsPassOf c share.passes.stop) (sym over.stop_is) (subst (λ (p : SharePasses). IsPassOf stop p.stop) (sym same) is_stop)

  channels_here : channels_in share.readers.now ≡ share.channels.now
  channels_here = ap channels_in over.readers ∙ wired.readers ∙ sym over.channels

  distinct_here : AreDistinct share.channels.now
  distinct_here = subst AreDistinct (sym over.channels) wired.distinct

  reader_here : (n : ℕ) (pass : ReaderPass) → IsReaderPass edge.readers n pass → IsReaderPass share.readers.now n pass
  reader_here n pass is = subst (λ (r : ReaderCell). IsReaderPass r n pass) (sym over.readers) is

  pub may_send : (pass : ReaderPass) → passes.readers ≡ Some pass → IsReaderPass edge.readers 0 pass × (mine pass ≡ []) → AreOwn 1 edge.subpartitions.items passes.subpartitions.items →
      share.pools.now ≡ edge.partitions.items → AreOf edge.partitions.items passes.pools.items → MaySendItems share
  may_send pass readers reader own pools of = record {
    channels = channels_here;
    distinct = distinct_here;
    places = ap length over.subpartitions ∙ wired.subpartitions ∙ sym (ap length over.channels);
    reader_pass = pass;
    readers = ap (λ (p : SharePasses). p.readers) same ∙ readers;
    reader_is = reader_here 0 pass reader.0;
    new = reader.1;
    subpartitions = own_of 1 edge.subpartitions.items share.subpartitions.now passes.subpartitions.items share.passes.subpartitions.items over.subpartitions (ap (λ (p : SharePasses). p.subpartitions.items) same) own;
    pools = of_of edge.partitions.items share.pools.now passes.pools.items share.passes.pools.items pools (ap (λ (p : SharePasses). p.pools.items) same) of;
    sizes = subst (λ (n : ℕ). HavePoolSize n share.pools.now) (sym over.size_is) (subst (λ (l : List PoolCell). HavePoolSize size l) (sym pools) wired.partition_sizes);
    queue_sizes = subst (λ (n : ℕ). All (λ (cell : TurnCell Queue SendEntry ℕ). (opened_with cell).size ≡ n) share.subpartitions.now) (sym over.size_is)
        (subst (λ (l : List (TurnCell Queue SendEntry ℕ)). All (λ (cell : TurnCell Queue SendEntry ℕ). (opened_with cell).size ≡ size) l) (sym over.subpartitions) wired.sizes);
    senders = subst (λ (l : List ChannelId). All (λ c. c.from < length share.pools.now) l) (sym over.channels)
        (subst (λ (l : List PoolCell). All (λ c. c.from < length l) edge.channels.items) (sym pools) wired.senders);
    stop = stop_here;
  }

  pub may_grant : (pass : ReaderPass) → passes.readers ≡ Some pass → IsReaderPass edge.readers 1 pass × (mine pass ≡ []) → AreOwn 2 edge.subpartitions.items passes.subpartitions.items → MayReadControl share
  may_grant pass readers reader own = record {
    channels = channels_here;
    distinct = distinct_here;
    places = ap length over.subpartitions ∙ wired.subpartitions ∙ sym (ap length over.channels);
    sizes = subst (λ (n : ℕ). All (λ (cell : TurnCell Queue SendEntry ℕ). (opened_with cell).size ≡ n) share.subpartitions.now) (sym over.size_is)
        (subst (λ (l : List (TurnCell Queue SendEntry ℕ)). All (λ (cell : TurnCell Queue SendEntry ℕ). (opened_with cell).size ≡ size) l) (sym over.subpartitions) wired.sizes);
    reader_pass = pass;
    readers = ap (λ (p : SharePasses). p.readers) same ∙ readers;
    reader_is = reader_here 1 pass reader.0;
    new = reader.1;
    subpartitions = own_of 2 edge.subpartitions.items share.subpartitions.now passes.subpartitions.items share.passes.subpartitions.items over.subpartitions (ap (λ (p : SharePasses). p.subpartitions.items) same) own;
    stop = stop_here;
  }

  pub may_receive : AreOwn 1 edge.inputs.items passes.inputs.items → share.pools.now ≡ edge.gates.items → AreOf edge.gates.items passes.pools.items → MayReadItems share
  may_receive own pools of = record {
    distinct = distinct_here;
    places = ap length over.inputs ∙ wired.inputs ∙ sym (ap length over.channels);
    inputs = own_of 1 edge.inputs.items share.inputs.now passes.inputs.items share.passes.inputs.items over.inputs (ap (λ (p : SharePasses). p.inputs.items) same) own;
    input_sizes = subst (λ (n : ℕ). All (λ (cell : TurnCell ChannelState ReceiveEntry ℕ). (opened_with cell).size ≡ n) share.inputs.now) (sym over.size_is)
        (subst (λ (l : List (TurnCell ChannelState ReceiveEntry ℕ)). All (λ (cell : TurnCell ChannelState ReceiveEntry ℕ). (opened_with cell).size ≡ size) l) (sym over.inputs) wired.input_sizes);
    pools = of_of edge.gates.items share.pools.now passes.pools.items share.passes.pools.items pools (ap (λ (p : SharePasses). p.pools.items) same) of;
    sizes = subst (λ (n : ℕ). HavePoolSize n share.pools.now) (sym over.size_is) (subst (λ (l : List PoolCell). HavePoolSize size l) (sym pools) wired.gate_sizes);
    receivers = subst (λ (l : List ChannelId). All (λ c. c.to < length share.pools.now) l) (sym over.channels)
        (subst (λ (l : List PoolCell). All (λ c. c.to < length l) edge.channels.items) (sym pools) wired.receivers);
    stop = stop_here;
  }

  pub may_announce : AreOwn 2 edge.inputs.items passes.inputs.items → MaySendControl share
  may_announce own = record {
    distinct = distinct_here;
    places = ap length over.inputs ∙ wired.inputs ∙ sym (ap length over.channels);
    inputs = own_of 2 edge.inputs.items share.inputs.now passes.inputs.items share.passes.inputs.items over.inputs (ap (λ (p : SharePasses). p.inputs.items) same) own;
    stop = stop_here;
  }
