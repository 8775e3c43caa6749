-- All workers of a job have ended, and its edges are settled one after another.
use Rattle.std.proofs.Common.{◌≡◌, ◌≢◌, Bool, ℕ, zero, suc, ◌+◌, ◌<◌, ◌≤◌, Option, Some, List, [], length, sym, ap, subst, ◌∙◌, arith}
use Rattle.std.proofs.lemmas.Option.{same_Some, slice_get_within}
use Rattle.std.specs.Prelude.{slice_get, IfSome}
use Rattle.std.specs.Option.{option_map_or}
use Rattle.flow_defs.specs.Items.{Items}
use Rattle.flow_defs.specs.declared.job.Job.{Job}
use Rattle.flow_defs.specs.Jobs.{IsJob, last_edge}
use Rattle.plain_machine.proofs.Channels.{ends_of}
use Rattle.turn_cell.specs.History.{StartsWith}
use Rattle.outside.specs.Links.{HasMet, faults_of}
use Rattle.conn_parts.specs.Shares.{AreOwn}
use Rattle.record_writer.specs.Writers.{SendPass}
use Rattle.input_gate.specs.Turning.{InputPass}
use Rattle.job_cells.specs.declared.edge.Edge.{Edge}
use Rattle.job_chain.specs.Ran.{EndsAt}
use Rattle.job_workers.specs.declared.task.TaskLeft.{TaskLeft}
use Rattle.job_workers.specs.Tasks.{gate_in, passes_in}
use Rattle.job_ends.specs.Edges.{EdgeCarries}
use Rattle.job_ends.specs.declared.left.EdgeLeft.{EdgeLeft}
use Rattle.job_ends.specs.Ended.{TaskPlace, LoopPlace, left_at, own_at, gate_at, AreEnded, AreLoopsEnded, AreSettled, LinksTell, SnapshotsStay, faults_in}
use Rattle.job_ends.specs.Leaving.{HasArrived, HasEdge, LoopEnds, RowsGoOn, places_of}
use Rattle.job_ends.proofs.Rows.{stands, rows_again, rows_fewer}

-- ---- the loops of an edge

if_some : {A : Type 0} (o : Option A) (P : A → Type 0) (x : A) → o ≡ Some x → IfSome o P → P x
if_some {A} o P x is holds = subst (λ (q : Option A). IfSome q P) is holds

met_starts : (sent : Option (List ℕ)) (finished : Option Bool) (got : Option (List ℕ)) (over : Option Bool) (all front : List ℕ) → HasMet sent finished got over → sent ≡ Some all → got ≡ Some front → StartsWith all front
met_starts sent finished got over all front met is came =
    if_some got (λ (f : List ℕ). StartsWith all f) front came (if_some sent (λ (a : List ℕ). IfSome got (λ (f : List ℕ). StartsWith a f)) all is met.begins)

-- A fault of a loop is one of its wire.
pub wire_fault : {O I : Type 0} (of_out : O → ℕ) (of_in : I → ℕ) (ends : LoopEnds O I) (i : ℕ) (place : LoopPlace O I) → slice_get (places_of ends) i ≡ Some place → 0 < faults_in of_out of_in place →
    0 < of_out ends.send.half + of_in ends.items.half + of_out ends.announce.half + of_in ends.control.half
wire_fault {O} {I} of_out of_in ends zero place at fault = let f : 0 < of_out ends.send.half = subst (λ (p : LoopPlace O I). 0 < faults_in of_out of_in p) (sym (same_Some _ place at)) fault in omega (arith, f)
wire_fault {O} {I} of_out of_in ends (suc zero) place at fault = let f : 0 < of_in ends.control.half = subst (λ (p : LoopPlace O I). 0 < faults_in of_out of_in p) (sym (same_Some _ place at)) fault in omega (arith, f)
wire_fault {O} {I} of_out of_in ends (suc (suc zero)) place at fault = let f : 0 < of_in ends.items.half = subst (λ (p : LoopPlace O I). 0 < faults_in of_out of_in p) (sym (same_Some _ place at)) fault in omega (arith, f)
wire_fault {O} {I} of_out of_in ends (suc (suc (suc zero))) place at fault = let f : 0 < of_out ends.announce.half = subst (λ (p : LoopPlace O I). 0 < faults_in of_out of_in p) (sym (same_Some _ place at)) fault in omega (arith, f)
wire_fault of_out of_in ends (suc (suc (suc (suc i)))) place at fault = absurd (cc)

module _ {O I : Type 0} {belong : O → I → Type 0} {sent : O → Option (List ℕ)} {got : I → Option (List ℕ)} {job : Job} {e : ℕ} {edge : Edge} {row : List (LoopPlace O I)}
    (ended : AreLoopsEnded belong sent got job e edge row) where
  abbrev pub ends_in : LoopEnds O I
  ends_in = record { send = ended.send; control = ended.control; items = ended.items; announce = ended.announce }

  module _ (left : EdgeLeft O I) (is : left ≡ record {
    wire = record { data_out = ended.send.half; data_in = ended.items.half; control_out = ended.announce.half; control_in = ended.control.half };
    takers = ended.send.passes.subpartitions;
    pushers = ended.items.passes.inputs;
  }) where
    pub wire_belongs : belong left.wire.data_out left.wire.data_in
    wire_belongs = subst (λ (l : EdgeLeft O I). belong l.wire.data_out l.wire.data_in) (sym is) ended.«data»

    pub takers_own : AreOwn 1 edge.subpartitions.items left.takers.items
    takers_own = subst (λ (l : EdgeLeft O I). AreOwn 1 edge.subpartitions.items l.takers.items) (sym is) ended.takers

    pub pushers_own : AreOwn 1 edge.inputs.items left.pushers.items
    pushers_own = subst (λ (l : EdgeLeft O I). AreOwn 1 edge.inputs.items l.pushers.items) (sym is) ended.pushers

    pub edge_arrived : (finished over : Option Bool) → HasMet (sent left.wire.data_out) finished (got left.wire.data_in) over → LinksTell sent got → HasArrived job e left.takers.items left.pushers.items
    edge_arrived finished over met tell =
        let all = tell.out ended.send.half in
        let front = tell.input ended.items.half in
        let starts : StartsWith all.0 front.0 = met_starts (sent left.wire.data_out) finished (got left.wire.data_in) over all.0 front.0 met
        (ap (λ (l : EdgeLeft O I). sent l.wire.data_out) is ∙ all.1) (ap (λ (l : EdgeLeft O I). got l.wire.data_in) is ∙ front.1) in
        subst (λ (l : EdgeLeft O I). HasArrived job e l.takers.items l.pushers.items) (sym is) (λ k c at. ended.arrived tell all.0 front.0 all.1 front.1 starts k c at)

    pub left_fault : (of_out : O → ℕ) (of_in : I → ℕ) (i : ℕ) (place : LoopPlace O I) → slice_get row i ≡ Some place → 0 < faults_in of_out of_in place → 0 < faults_of of_out of_in left.wire
    left_fault of_out of_in i place at fault =
        subst (λ (l : EdgeLeft O I). 0 < faults_of of_out of_in l.wire) (sym is)
        (wire_fault of_out of_in (record { send = ended.send; control = ended.control; items = ended.items; announce = ended.announce }) i place (ap (λ (r : List (LoopPlace O I)). slice_get r i) (sym ended.row_is) ∙ at) fault)

-- ---- rows

module _ {S : Type 0} (rows now : List (Items (TaskPlace S))) where
  pub rows_step : (e : ℕ) (after : List (Items (TaskPlace S))) → RowsGoOn (λ s. e ≤ s) (λ s. e < s) rows now → RowsGoOn (λ s. s ≢ e) (λ s. s ≢ suc e) now after →
      RowsGoOn (λ s. e + 1 ≤ s) (λ s. e + 1 < s) rows after
  rows_step e after s t =
      rows_again (λ s. e + 1 ≤ s) (λ s. e + 1 < s) rows now after
      (rows_fewer (λ s. e ≤ s) (λ s. e < s) (λ s. e + 1 ≤ s) (λ s. e + 1 < s) rows now (λ s p. omega (arith, p)) (λ s p. omega (arith, p)) s)
      (rows_fewer (λ s. s ≢ e) (λ s. s ≢ suc e) (λ s. e + 1 ≤ s) (λ s. e + 1 < s) now after (λ s p q. omega (arith, p, q)) (λ s p q. omega (arith, p, q)) t)

  pub rows_settled : (P G : ℕ → Type 0) → RowsGoOn P G rows now → AreSettled rows now
  rows_settled P G go = record {
    many = go.many;
    row_many = λ s before after at then.
        sym (ap (λ (o : Option (Items (TaskPlace S))). option_map_or (λ (row : Items (TaskPlace S)). length row.items) o 0) then)
        ∙ go.row_many s ∙ ap (λ (o : Option (Items (TaskPlace S))). option_map_or (λ (row : Items (TaskPlace S)). length row.items) o 0) at;
    each = λ s i left at. let m = go.each s i left at in (m.0, m.1, m.2.rest);
  }

  pub snapshots_stay : (P G : ℕ → Type 0) → RowsGoOn P G rows now → SnapshotsStay rows now
  snapshots_stay P G go s i left at = let m = go.each s i left at in (m.0, m.1, m.2.snapshots_stay)

own_of : {S : Type 0} (rows : List (Items (TaskPlace S))) (e a : ℕ) (left : TaskLeft S) → left_at rows e a ≡ Some left → own_at rows e a ≡ passes_in left.partition
own_of {S} rows e a left at = ap (λ (o : Option (TaskLeft S)). option_map_or (λ (left : TaskLeft S). passes_in left.partition) o []) at

gate_of : {S : Type 0} (rows : List (Items (TaskPlace S))) (e b : ℕ) (left : TaskLeft S) → left_at rows (suc e) b ≡ Some left → gate_at rows e b ≡ gate_in left.gate
gate_of {S} rows e b left at = ap (λ (o : Option (TaskLeft S)). option_map_or (λ (left : TaskLeft S). gate_in left.gate) o []) at

-- ---- an edge among them

module _ {S O I : Type 0} {belong : O → I → Type 0} {sent : O → Option (List ℕ)} {got : I → Option (List ℕ)} {job : Job} {size : ℕ} {edges : List Edge}
    {rows : List (Items (TaskPlace S))} {loops : List (Items (LoopPlace O I))} (ended : AreEnded belong sent got job size edges rows loops) (e : ℕ) (edge : Edge) (at : slice_get edges e ≡ Some edge) where
  pub edge_low : e ≤ last_edge job
  edge_low = let low = slice_get_within edges e edge at in let m = ended.edges_are.many in omega (arith, low, m)

  pub loops_at : e < length loops
  loops_at = let low = slice_get_within edges e edge at in let m = ended.edges_are.many in let n = ended.loops_many in omega (arith, low, m, n)

  module _ (now : List (Items (TaskPlace S))) (go : RowsGoOn (λ s. e ≤ s) (λ s. e < s) rows now) where
    pub has_edge : IsJob job → HasEdge job e edge now
    has_edge is = record {
      size = size;
      is_edge = ended.edges_are.each e edge at;
      rows_many = (let low = edge_low in let m = go.many in let n = ended.rows_many in omega (arith, low, m, n));
      low = edge_low;
      row_many = λ s row there.
          let start = stands rows s (let l = slice_get_within now s row there in let m = go.many in omega (arith, l, m)) in
          sym (ap (λ (o : Option (Items (TaskPlace S))). option_map_or (λ (row : Items (TaskPlace S)). length row.items) o 0) there)
          ∙ go.row_many s
          ∙ ap (λ (o : Option (Items (TaskPlace S))). option_map_or (λ (row : Items (TaskPlace S)). length row.items) o 0) start.1
          ∙ ended.row_many s start.0 start.1;
      sent_by = λ a low.
          let s = ended.sent_by e a edge low at in
          let m = go.each e a s.0 s.1 in
          (m.0, m.1, record { passes = s.2.passes; are_there = m.2.partition_stays (omega arith) ∙ s.2.are_there; own = s.2.own });
      taken_by = λ b low.
          let t = ended.taken_by e b edge low at in
          let m = go.each (suc e) b t.0 t.1 in
          (m.0, m.1, record { passes = t.2.passes; are_there = m.2.gate_stays (omega arith) ∙ t.2.are_there; many = t.2.many; own = t.2.own });
    }

    pub carried : EdgeCarries job e (own_at now e) (gate_at now e) → EdgeCarries job e (own_at rows e) (gate_at rows e)
    carried carries a b is_one =
        let ends = ends_of job e a b is_one in
        let s = ended.sent_by e a edge ends.sender at in
        let t = ended.taken_by e b edge ends.receiver at in
        let m = go.each e a s.0 s.1 in
        let n = go.each (suc e) b t.0 t.1 in
        let own : own_at now e a ≡ own_at rows e a = own_of now e a m.0 m.1 ∙ ap passes_in (m.2.partition_stays (omega arith)) ∙ sym (own_of rows e a s.0 s.1) in
        let gate : gate_at now e b ≡ gate_at rows e b = gate_of now e b n.0 n.1 ∙ ap gate_in (n.2.gate_stays (omega arith)) ∙ sym (gate_of rows e b t.0 t.1) in
        subst (λ (x : List SendPass). EndsAt job e a b x (gate_at rows e b)) own (subst (λ (y : List InputPass). EndsAt job e a b (own_at now e a) y) gate (carries a b is_one))
