-- The workers of a job as they are made, and in their places.
use Rattle.std.proofs.Common.{◌≡◌, ℕ, suc, ◌+◌, ◌<◌, List, [], ◌∷◌, ◌++◌, length, Option, Some, refl, sym, ap, subst, ◌∙◌, arith}
use Rattle.std.specs.Prelude.{slice_get, reverse, All}
use Rattle.std.proofs.lemmas.List.{length_push}
use Rattle.std.proofs.lemmas.Option.{slice_get_within}
use Rattle.turn_cell.specs.Passes.{seen}
use Rattle.flow_defs.specs.Items.{Items}
use Rattle.flow_defs.specs.declared.job.Job.{Job}
use Rattle.flow_defs.specs.Jobs.{last_edge, tasks}
use Rattle.outside.specs.declared.wires.Wire.{Wire}
use Rattle.conn_parts.specs.declared.share.ConnShare.{ConnShare}
use Rattle.conn_parts.specs.Shares.{AreNew}
use Rattle.conn_send_items.specs.Sending.{MaySendItems}
use Rattle.conn_read_control.specs.Controlling.{MayReadControl}
use Rattle.conn_read_items.specs.Receiving.{MayReadItems}
use Rattle.conn_send_control.specs.Announcing.{MaySendControl}
use Rattle.record_writer.specs.Writers.{SendPass}
use Rattle.snapshot_channel.specs.declared.opened.SnapshotChannel.{SnapshotChannel}
use Rattle.job_cells.specs.declared.edge.Edge.{Edge}
use Rattle.job_cells.specs.declared.edge.EdgePasses.{EdgePasses}
use Rattle.job_cells.specs.Edges.{AreEdgesOf, ArePassesOf, IsEdgeOf}
use Rattle.job_deploy.specs.declared.loops.Shares.{Shares}
use Rattle.job_deploy.specs.declared.split.Ends.{Ends}
use Rattle.job_deploy.specs.declared.tasks.SourceLent.{SourceLent}
use Rattle.job_deploy.specs.Deployed.{TaskPlace, LoopPlace, AreSources, AreStage, AreAggregates, AreLoopsAt, AreDeployed}
use Rattle.job_deploy.specs.Lending.{AreLent, AreSourcesOver, AreTurned}
use Rattle.job_deploy.specs.Making.{AreSharesAt, IsRowAt}
use Rattle.job_deploy.specs.Sharing.{AreEndsOf, AreLoopsOver, AreRowsOver, AreSharesOf}
use Rattle.job_deploy.proofs.Orders.{in_order, length_turned, stands_at, turned_none, turned_push}
use Rattle.job_deploy.proofs.Rows.{sources_are}

-- ---- the passes of an edge, by who gets them

abbrev pub ends_from : EdgePasses → Ends
ends_from passes = record {
  senders = record { own = passes.senders; pools = passes.task_partitions };
  takers = record { own = passes.gates; pools = passes.task_gates };
  loops = record {
    send_items = passes.send_items;
    read_control = passes.read_control;
    takers = passes.takers;
    sizers = passes.sizers;
    pushers = passes.pushers;
    tellers = passes.tellers;
    partitions = passes.loop_partitions;
    gates = passes.loop_gates;
  };
}

pub ends_are : (job : Job) (e size : ℕ) (edge : Edge) (passes : EdgePasses) → IsEdgeOf job e size edge → ArePassesOf job e edge passes → AreEndsOf job e edge (ends_from passes)
ends_are job e size edge passes of are = record {
  senders = record {
    many = (let m = are.senders in omega (arith, m));
    pools_many = are.task_partitions.many ∙ of.partitions ∙ sym are.senders;
    own = are.sender;
    pools = are.task_partitions.each;
  };
  senders_all = are.senders;
  takers = record {
    many = (let m = are.gates in omega (arith, m));
    pools_many = are.task_gates.many ∙ of.gates ∙ sym are.gates;
    own = are.gate;
    pools = are.task_gates.each;
  };
  takers_all = are.gates;
  loops = record {
    send_items = (are.send_items, are.send_items_new);
    read_control = (are.read_control, are.read_control_new);
    takers = are.takers;
    sizers = are.sizers;
    pushers = are.pushers;
    tellers = are.tellers;
    partitions = are.loop_partitions;
    gates = are.loop_gates;
    takers_new = are.takers_new;
    pushers_new = are.pushers_new;
  };
}

-- ---- the rows of the stages behind the sources, and the shares of the edges

module _ (job : Job) (size : ℕ) (every : Option ℕ) (snapshots : SnapshotChannel) (edges : List Edge) where
  module _ {S : Type 0} where
    pub first_row : (rows : List (Items (TaskPlace S))) (row : Items (TaskPlace S)) → rows ≡ row ∷ [] → AreAggregates job size every snapshots edges row.items →
        AreTurned (λ (stage : ℕ) (r : Items (TaskPlace S)). IsRowAt job size every snapshots edges stage r) (suc (suc (last_edge job))) rows
    first_row rows row is are =
        turned_push (λ (stage : ℕ) (r : Items (TaskPlace S)). IsRowAt job size every snapshots edges stage r) (suc (suc (last_edge job))) [] rows row is (turned_none (λ (stage : ℕ) (r : Items (TaskPlace S)). IsRowAt job size every snapshots edges stage r) (suc (suc (last_edge job))) [] refl) (λ k sum. record {
          stages = λ e here low. absurd (omega (arith, here, low, sum));
          aggregates = λ here. are;
        })

    pub row_more : (e : ℕ) (rows rows' : List (Items (TaskPlace S))) (row : Items (TaskPlace S)) → e < last_edge job → length rows + suc e ≡ suc (last_edge job) → rows' ≡ rows ++ row ∷ [] →
        AreTurned (λ (stage : ℕ) (r : Items (TaskPlace S)). IsRowAt job size every snapshots edges stage r) (suc (suc (last_edge job))) rows → AreStage job size every snapshots edges e row.items → AreTurned (λ (stage : ℕ) (r : Items (TaskPlace S)). IsRowAt job size every snapshots edges stage r) (suc (suc (last_edge job))) rows'
    row_more e rows rows' row low many is each are =
        turned_push (λ (stage : ℕ) (r : Items (TaskPlace S)). IsRowAt job size every snapshots edges stage r) (suc (suc (last_edge job))) rows rows' row is each (λ k sum. record {
          stages = λ e' here low'. subst (λ (j : ℕ). AreStage job size every snapshots edges j row.items) (let same : e ≡ e' = omega (arith, here, sum, many) in same) are;
          aggregates = λ here. absurd (omega (arith, here, sum, many, low));
        })

-- What the loops of an edge are lent, behind the edges of a job with so many.
module _ {O I : Type 0} (edges : List Edge) (many : ℕ) where
  pub share_more : (e : ℕ) (shares shares' : List (Shares O I)) (share : Shares O I) → length shares + suc e ≡ many → shares' ≡ shares ++ share ∷ [] →
      AreTurned (λ (k : ℕ) (s : Shares O I). AreSharesAt edges k s) many shares → AreSharesAt edges e share → AreTurned (λ (k : ℕ) (s : Shares O I). AreSharesAt edges k s) many shares'
  share_more e shares shares' share left is each are =
      turned_push (λ (k : ℕ) (s : Shares O I). AreSharesAt edges k s) many shares shares' share is each
      (λ k sum. subst (λ (j : ℕ). AreSharesAt edges j share) (let same : e ≡ k = omega (arith, sum, left) in same) are)

-- ---- in their places

pub loops_at : {O I : Type 0} (job : Job) (e size : ℕ) (edge : Edge) (wire : Wire O I) (share : Shares O I) (row : List (LoopPlace O I)) →
    IsEdgeOf job e size edge → AreSharesOf edge share → AreLoopsOver share wire row → AreLoopsAt job e edge wire row
loops_at job e size edge wire share row of are over =
    let send = over.send_shares.0 in let control = over.send_shares.1 in let items = over.receive_shares.0 in let announce = over.receive_shares.1 in
    record {
      send = over.send;
      control = over.control;
      items = over.items;
      announce = over.announce;
      row_is = over.row_is;
      sending = over.sending;
      receiving = over.receiving;
      channels = (ap (λ (s : ConnShare). s.channels.now) send ∙ are.channels.0 ∙ of.channels, ap (λ (s : ConnShare). s.channels.now) items ∙ are.channels.1 ∙ of.channels);
      cells = (ap (λ (s : ConnShare). s.subpartitions.now) send ∙ are.cells.0, ap (λ (s : ConnShare). s.inputs.now) items ∙ are.cells.1);
      unseen = subst (λ (s : ConnShare). All (λ (pass : SendPass). seen pass ≡ []) s.passes.subpartitions.items) (sym send) are.unseen;
      new = subst (λ (s : ConnShare). AreNew s.passes.inputs.items) (sym items) are.new;
      may_send = (subst (λ (s : ConnShare). MaySendItems s) (sym send) are.may_send.0, subst (λ (s : ConnShare). MayReadControl s) (sym control) are.may_send.1);
      may_receive = (subst (λ (s : ConnShare). MayReadItems s) (sym items) are.may_receive.0, subst (λ (s : ConnShare). MaySendControl s) (sym announce) are.may_receive.1);
    }

-- A row of any stage.
record IsAnyRow {S : Type 0} (job : Job) (size : ℕ) (every : Option ℕ) (snapshots : SnapshotChannel) (edges : List Edge) (inputs : List S) (stage : ℕ) (row : Items (TaskPlace S)) : Type 0 where
  sources : stage ≡ 0 → AreSources job size every snapshots edges inputs row.items
  others : 0 < stage → IsRowAt job size every snapshots edges stage row

module _ {S O I : Type 0} (job : Job) (size : ℕ) (every : Option ℕ) (snapshots : SnapshotChannel) (edges : List Edge) (inputs : List S) (wires : List (Wire O I)) (lents : List SourceLent) (acc rows : List (Items (TaskPlace S))) (first : Items (TaskPlace S))
    (shares : List (Shares O I)) (loops : List (Items (LoopPlace O I))) where
  any_row : length acc ≡ suc (last_edge job) → AreTurned (λ (stage : ℕ) (r : Items (TaskPlace S)). IsRowAt job size every snapshots edges stage r) (suc (suc (last_edge job))) acc → AreSources job size every snapshots edges inputs first.items → rows ≡ reverse (acc ++ first ∷ []) →
      (k : ℕ) (row : Items (TaskPlace S)) → slice_get rows k ≡ Some row → IsAnyRow job size every snapshots edges inputs k row
  any_row many each sources is =
      let n = suc (suc (last_edge job)) in
      let whole : AreTurned (IsAnyRow job size every snapshots edges inputs) n (acc ++ first ∷ []) =
      turned_push (IsAnyRow job size every snapshots edges inputs) n acc (acc ++ first ∷ []) first refl
      (λ j k x sum at. record {
        sources = λ z. absurd (let low = slice_get_within acc j x at in omega (arith, low, z, sum, many));
        others = λ some. each j k x sum at;
      })
      (λ k sum. record {
        sources = λ z. sources;
        others = λ some. absurd (omega (arith, some, sum, many));
      })
      in
      in_order (IsAnyRow job size every snapshots edges inputs) n (acc ++ first ∷ []) rows is (let l = length_push acc first in omega (arith, l, many)) whole

  pub deployed_is : AreEdgesOf job size edges → length inputs ≡ tasks job 0 → length wires ≡ suc (last_edge job) → AreLent job size every snapshots edges lents → AreSourcesOver lents inputs first.items →
      length acc ≡ suc (last_edge job) → AreTurned (λ (stage : ℕ) (r : Items (TaskPlace S)). IsRowAt job size every snapshots edges stage r) (suc (suc (last_edge job))) acc → rows ≡ reverse (acc ++ first ∷ []) →
      ((e : ℕ) (share : Shares O I) → slice_get shares e ≡ Some share → AreSharesAt edges e share) → AreRowsOver shares wires loops → AreDeployed job size every snapshots edges inputs wires rows loops
  deployed_is are many_inputs many_wires lent over many each is shared looped =
      let at_any = any_row many each (sources_are job size every snapshots edges lents inputs first.items many_inputs lent over) is in
      record {
        rows_many = (let l = length_turned (acc ++ first ∷ []) rows is in let m = length_push acc first in omega (arith, l, m, many));
        sources = λ row at. (at_any 0 row at).sources refl;
        stages = λ e row low at. ((at_any (suc e) row at).others (omega arith)).stages e refl low;
        aggregates = λ row at. ((at_any (suc (last_edge job)) row at).others (omega arith)).aggregates refl;
        loops_many = looped.many ∙ many_wires;
        loops = λ e edge wire row stands over_wire at.
            let found = looped.each e row at in
            let share = shared e found.share found.lent in
            loops_at job e size edge wire found.share row.items (are.each e edge stands)
            (subst (λ (x : Edge). AreSharesOf x found.share) (stands_at edges e share.edge edge share.stands stands) share.are)
            (subst (λ (w : Wire O I). AreLoopsOver found.share w row.items) (stands_at wires e found.wire wire found.over over_wire) found.are);
      }
