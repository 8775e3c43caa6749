-- Workers that ran have ended.
use Rattle.std.proofs.Common.{◌≡◌, ℕ, zero, suc, ◌*◌, ◌<◌, List, [], Option, Some, None, slice_get, refl, sym, ap, subst, ◌∙◌, arith, inl, inr}
use Rattle.std.specs.Prelude.{IfSome}
use Rattle.std.proofs.lemmas.Bool.{cases_lt}
use Rattle.std.proofs.lemmas.Option.{slice_get_within}
use Rattle.turn_cell.specs.History.{entries_of}
use Rattle.turn_cell.specs.Passes.{number}
use Rattle.flow_defs.specs.declared.cause.Cause.{Cause}
use Rattle.flow_defs.specs.declared.job.Job.{Job}
use Rattle.flow_defs.specs.declared.task.ChannelId.{ChannelId}
use Rattle.flow_defs.specs.Jobs.{last_edge, tasks}
use Rattle.checkpoint_laws.specs.Chapters.{task_at}
use Rattle.subpartition.specs.declared.entry.SendEntry.{SendEntry}
use Rattle.subpartition.specs.Sending.{taken}
use Rattle.input_channel.specs.declared.entry.ReceiveEntry.{ReceiveEntry}
use Rattle.input_channel.specs.Inboxes.{pushed}
use Rattle.outside.specs.declared.wires.Wire.{Wire}
use Rattle.conn_parts.specs.Shares.{AreOwn}
use Rattle.conn_send_items.specs.Sending.{SendAccount}
use Rattle.conn_read_items.specs.Receiving.{ItemsAccount}
use Rattle.conn_run.specs.Theorems.{ItemsArrive}
use Rattle.record_writer.specs.declared.partition.Partition.{Partition}
use Rattle.record_writer.specs.Writers.{SendCell, SendPass, AreOwnAt, place_of, ways_into}
use Rattle.input_gate.specs.Turning.{InputCell, InputPass}
use Rattle.snapshot_channel.specs.declared.opened.SnapshotChannel.{SnapshotChannel}
use Rattle.snapshot_channel.specs.Passes as channels
use Rattle.job_cells.specs.declared.edge.Edge.{Edge}
use Rattle.job_cells.specs.Edges.{place_into}
use Rattle.task_output.specs.declared.world.World.{World}
use Rattle.job_workers.specs.declared.task.TaskLeft.{TaskLeft}
use Rattle.job_workers.specs.Tasks.{HasGatePasses, HasPartitionPasses, HasSnapshotPass}
use Rattle.job_deploy.specs.Deployed.{IsPartitionAt, IsGateAt, IsLentOf}
use Rattle.job_ends.specs.Ended.{LoopPlace, HasSent, HasTaken, HasAcknowledged, HaveAcknowledged, AreLoopsEnded, AreEnded, left_at}
use Rattle.job_outcome.specs.Theorems.{HaveRun, Run, IsNewWire, WorkersEnd}
use Rattle.job_outcome.specs.Words.{LinkWords, WorldWords}
use Rattle.job_outcome.proofs.Places.{same_some, at_place, all_at, seen_nothing, made_nothing}
use Rattle.job_outcome.proofs.Running.{is_left, EndsAt, row_many, source_at, stage_at, aggregate_at, loops_at}

-- ---- tasks

own_moved : {cells cells' : List SendCell} {first first' stride stride' many : ℕ} {passes : List SendPass} → cells ≡ cells' → first ≡ first' → stride ≡ stride' →
    AreOwnAt cells first stride many passes → AreOwnAt cells' first' stride' many passes
own_moved ec ef es own = rw (ec, ef, es) at own

module _ {S : Type 0} {job : Job} {size : ℕ} {every : Option ℕ} {snapshots : SnapshotChannel} {edges : List Edge} where
  -- A task has its pass of the channel of snapshots that it was lent.
  has_acknowledged : {P : Type 0} {i a j b : ℕ} {told : Option ℕ} {world : World P} {end : TaskLeft S} → IsLentOf job size every snapshots edges told world → i ≡ j → a ≡ b →
      HasSnapshotPass i a world.acks.snapshots.now end.snapshots → HasAcknowledged snapshots j b end
  has_acknowledged {a = a} {j = j} of ei ea h = record {
    pass = h.pass;
    is_there = h.is_there;
    of_channel = subst (λ (channel : SnapshotChannel). channels.IsPassOf channel h.pass) of.channel h.of_channel;
    task = h.task ∙ ap (λ (k : ℕ). task_at k a) ei ∙ ap (λ (k : ℕ). task_at j k) ea;
  }

  has_sent : {e a : ℕ} {edge : Edge} {lent : Partition} {end : TaskLeft S} → slice_get edges e ≡ Some edge → IsPartitionAt job size every snapshots edges e a lent →
      HasPartitionPasses job e lent end.partition → HasSent job e a edge end
  has_sent {e = e} {edge = edge} at p h =
      let same_edge : p.edge ≡ edge = same_some (slice_get edges e) p.edge edge p.stands at in
      record {
        passes = h.passes;
        are_there = h.are_there;
        own = own_moved (p.cells ∙ ap (λ (x : Edge). x.subpartitions.items) same_edge) p.first p.stride h.are_of.own;
      }

  has_taken : {e a : ℕ} {edge : Edge} {cells : List InputCell} {end : TaskLeft S} → slice_get edges e ≡ Some edge → IsGateAt job size every snapshots edges e a cells →
      HasGatePasses cells end.gate → HasTaken job e a edge end
  has_taken {e = e} {a = a} {edge = edge} {cells = cells} at g h =
      let same_edge : g.edge ≡ edge = same_some (slice_get edges e) g.edge edge g.stands at in
      record {
        passes = h.passes;
        are_there = h.are_there;
        many = h.own.of_cells.many ∙ g.many;
        own = λ c pass at_pass.
            let low = slice_get_within h.passes.cells.items c pass at_pass in
            let cell = at_place cells c (omega (arith, low, h.own.of_cells.many)) in
            let same : place_into job e a c ≡ place_of (a * ways_into job e) 1 c = omega arith in (
              cell.0,
              subst (λ (k : ℕ). slice_get edge.inputs.items k ≡ Some cell.0) same
                  (subst (λ (x : Edge). slice_get x.inputs.items (place_into job e a c) ≡ Some cell.0) same_edge (g.each c cell.0 cell.1)),
              h.own.of_cells.each c cell.0 pass cell.1 at_pass,
              all_at (λ (q : InputPass). number q ≡ 0) h.passes.cells.items c pass h.own.numbered at_pass,
            );
      }

-- ---- loops

some_nothing : (o : Option (List ℕ)) (bytes : List ℕ) → o ≡ Some bytes → IfSome o (λ b. b ≡ []) → o ≡ Some []
some_nothing (Some b) bytes e h = ap (λ (x : List ℕ). Some x) h
some_nothing None bytes e h = absurd (cc)

module _ {O I L N : Type 0} (links : LinkWords O I L N) where
  open links use {line, sent, of_out, end_line, got, ended, of_in, belong}

  abbrev Meet : O → I → Type 0
  Meet out input = belong (line out) (end_line input)

  module _ {job : Job} {e : ℕ} {edge : Edge} {wire : Wire O I} {row : List (LoopPlace O I)} (new : IsNewWire links wire) (ends : EndsAt links job e edge wire row) where
    meets : belong (line ends.send.half) (end_line ends.items.half)
    meets =
        subst (λ (l : L). belong l (end_line ends.items.half)) (sym (ends.by_send.line_is ∙ ap line ends.was.sending.0))
        (subst (λ (n : N). belong (line wire.data_out) n) (sym (ends.by_items.line_is ∙ ap end_line ends.was.receiving.0)) new.belonged)

    pub loops_ended : ItemsArrive → AreLoopsEnded Meet sent got job e edge row
    loops_ended law = record {
      send = ends.send;
      control = ends.control;
      items = ends.items;
      announce = ends.announce;
      row_is = ends.row_is;
      «data» = meets;
      takers = subst (λ (cells : List SendCell). AreOwn 1 cells ends.send.passes.subpartitions.items) ends.was.cells.0 ends.by_send.back.subpartitions;
      pushers = subst (λ (cells : List InputCell). AreOwn 1 cells ends.items.passes.inputs.items) ends.was.cells.1 ends.by_items.back.inputs;
      arrived = λ tell all front sent_is got_is begins k c at.
          let w = ends.was in
          let out : sent w.send.half ≡ Some [] =
          ap sent w.sending.0 ∙ some_nothing (sent wire.data_out) (tell.out wire.data_out).0 (tell.out wire.data_out).1 new.data_out.nothing in
          let input : got w.items.half ≡ Some [] =
          ap got w.receiving.0 ∙ some_nothing (got wire.data_in) (tell.input wire.data_in).0 (tell.input wire.data_in).1 new.data_in.nothing in
          let Sent : Option (List ℕ) → Option (List ℕ) → Type 0 =
          λ old new. SendAccount w.send.share.channels.now w.send.share.passes ends.send.passes old new (of_out w.send.half) (of_out ends.send.half) ends.send.cause in
          let Read : Option (List ℕ) → Option (List ℕ) → Cause → Type 0 =
          λ old new. ItemsAccount w.items.share ends.items.passes old new (ended w.items.half) (ended ends.items.half) (of_in w.items.half) (of_in ends.items.half) in
          let by_send : Sent (Some []) (Some all) =
          subst (λ (o : Option (List ℕ)). Sent o (Some all)) out (subst (λ (o : Option (List ℕ)). Sent (sent w.send.half) o) sent_is ends.by_send.account) in
          let by_items : Read (Some []) (Some front) ends.items.cause =
          subst (λ (o : Option (List ℕ)). Read o (Some front) ends.items.cause) input
          (subst (λ (o : Option (List ℕ)). Read (got w.items.half) o ends.items.cause) got_is ends.by_items.account) in
          let of_loops = law w.send.share w.items.share ends.send.passes ends.items.passes all front (ended w.items.half) (ended ends.items.half) in
          let by_both = of_loops (of_out w.send.half) (of_out ends.send.half) (of_in w.items.half) (of_in ends.items.half) ends.send.cause ends.items.cause by_send by_items in
          (by_both (w.channels.1 ∙ sym w.channels.0) begins k c
          (subst (λ (cs : List ChannelId). slice_get cs k ≡ Some c) (sym w.channels.0) at)
          (ap (λ (history : List (ℕ × SendEntry)). taken (entries_of history)) (seen_nothing w.send.share.passes.subpartitions.items k w.unseen))
          (ap (λ (es : List ReceiveEntry). pushed es) (made_nothing w.items.share.passes.inputs.items k w.new))).begins;
    }

-- ---- all of them

module _ {S O I L N : Type 0} {words : WorldWords S O I L N} {run : Run S O I} (ran : HaveRun words run) where
  open run use {job, size, snapshots, edges, wires, rows, loops}

  abbrev SentBy : ℕ → ℕ → Edge → Type 0
  SentBy e a edge = (end : TaskLeft S) × (left_at rows e a ≡ Some end) × HasSent job e a edge end

  abbrev TakenBy : ℕ → ℕ → Edge → Type 0
  TakenBy e b edge = (end : TaskLeft S) × (left_at rows (suc e) b ≡ Some end) × HasTaken job e b edge end

  abbrev AcknowledgedBy : ℕ → ℕ → Type 0
  AcknowledgedBy s i = (end : TaskLeft S) × (left_at rows s i ≡ Some end) × HasAcknowledged snapshots s i end

  sent_by : (e a : ℕ) (edge : Edge) → a < tasks job e → slice_get edges e ≡ Some edge → SentBy e a edge
  sent_by zero a edge low at =
      let s = source_at ran a low in
      (s.end.left, is_left rows 0 a s.end, has_sent at s.was.partition s.by.partition)
  sent_by (suc e) a edge low at =
      let within = slice_get_within edges (suc e) edge at in
      let s = stage_at ran e a (omega (arith, within, ran.edges_are.many)) low in (
        s.end.left,
        is_left rows (suc e) a s.end,
        has_sent at s.was.partition
            (subst (λ (k : ℕ). HasPartitionPasses job (suc k) s.task.world.partition s.end.left.partition) s.was.edge s.by.partition),
      )

  taken_last : (b : ℕ) (edge : Edge) → b < tasks job (suc (last_edge job)) → slice_get edges (last_edge job) ≡ Some edge → TakenBy (last_edge job) b edge
  taken_last b edge low at =
      let s = aggregate_at ran b low in
      (s.end.left, is_left rows (suc (last_edge job)) b s.end, has_taken at s.was.gate s.by.gate)

  taken_by : (e b : ℕ) (edge : Edge) → b < tasks job (suc e) → slice_get edges e ≡ Some edge → TakenBy e b edge
  taken_by e b edge low at = elim (cases_lt e (last_edge job)) [
    | inl before ↦
        let s = stage_at ran e b before low in
        (s.end.left, is_left rows (suc e) b s.end, has_taken at s.was.gate s.by.gate)
    | inr behind ↦
        let within = slice_get_within edges e edge at in
        let is : e ≡ last_edge job = omega (arith, within, behind, ran.edges_are.many) in
        subst (λ (k : ℕ). b < tasks job (suc k) → slice_get edges k ≡ Some edge → TakenBy k b edge) (sym is) (taken_last b edge) low at
  ]

  acknowledged_last : (b : ℕ) → b < tasks job (suc (last_edge job)) → AcknowledgedBy (suc (last_edge job)) b
  acknowledged_last b low =
      let s = aggregate_at ran b low in (
        s.end.left,
        is_left rows (suc (last_edge job)) b s.end,
        has_acknowledged s.was.lent refl s.was.index s.by.snapshots,
      )

  acknowledged_by : (s i : ℕ) → s < suc (suc (last_edge job)) → i < tasks job s → AcknowledgedBy s i
  acknowledged_by zero i within low =
      let s = source_at ran i low in (
        s.end.left,
        is_left rows 0 i s.end,
        has_acknowledged s.was.lent refl s.was.index s.by.snapshots,
      )
  acknowledged_by (suc e) i within low = elim (cases_lt e (last_edge job)) [
    | inl before ↦
        let s = stage_at ran e i before low in (
          s.end.left,
          is_left rows (suc e) i s.end,
          has_acknowledged s.was.lent (ap (λ (k : ℕ). suc k) s.was.edge) s.was.index s.by.snapshots,
        )
    | inr behind ↦
        let is : e ≡ last_edge job = omega (arith, within, behind) in
        subst (λ (k : ℕ). i < tasks job (suc k) → AcknowledgedBy (suc k) i) (sym is) (acknowledged_last i) low
  ]

  pub workers_end : ItemsArrive → AreEnded (Meet words.links) words.sent words.got job size edges rows loops
  workers_end law = record {
    edges_are = ran.edges_are;
    rows_many = ran.rows_many ∙ ran.deployed.rows_many;
    row_many = row_many ran;
    sent_by = sent_by;
    taken_by = taken_by;
    loops_many = ran.loops_many ∙ ran.deployed.loops_many;
    loops_are = λ e edge row at_edge at_row.
        let l = loops_at ran e edge row at_edge at_row in
        loops_ended words.links (all_at (IsNewWire words.links) wires e l.wire ran.new_wires l.wire_is) l.ends law;
  }

  pub have_acknowledged : HaveAcknowledged job snapshots rows
  have_acknowledged = record {
    rows_many = ran.rows_many ∙ ran.deployed.rows_many;
    row_many = row_many ran;
    each = acknowledged_by;
  }

module _ {S O I L N : Type 0} (words : WorldWords S O I L N) where
  pub all_workers_end : ItemsArrive → WorkersEnd words
  all_workers_end law run ran = (workers_end ran law, have_acknowledged ran)
