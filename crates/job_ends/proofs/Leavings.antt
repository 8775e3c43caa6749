-- What tasks and loops left for an edge, and what is settled of it.
use Rattle.std.proofs.Common.{◌≡◌, ℕ, suc, ◌*◌, ◌^◌, ◌<◌, ◌≤◌, Option, Some, List, [], ◌∷◌, length, refl, sym, ap, subst, ◌∙◌, arith}
use Rattle.std.specs.Prelude.{slice_get}
use Rattle.std.specs.Option.{option_map_or}
use Rattle.std.proofs.Math.Nat.{mul-le-mul}
use Rattle.std.proofs.lemmas.List.FromFn.{length-map-range_with_len}
use Rattle.std.proofs.lemmas.Option.{same_Some, slice_get_within}
use Rattle.turn_cell.specs.declared.pass.Pass.{Pass}
use Rattle.turn_cell.proofs.Lists.{starts_on}
use Rattle.flow_defs.specs.Items.{Items}
use Rattle.flow_defs.specs.declared.job.Job.{Job}
use Rattle.flow_defs.specs.declared.job.Exchange.{Exchange}
use Rattle.flow_defs.specs.declared.job.Exchange.TheVariants.{Hash, Rebalance, Forward}
use Rattle.flow_defs.specs.Jobs.{IsJob, last_edge, tasks, exchange}
use Rattle.plain_machine.proofs.PlaceLemmas.{length-concat_below, sum_same}
use Rattle.subpartition.specs.Standing as sending
use Rattle.input_channel.specs.States as receiving
use Rattle.conn_parts.specs.Shares.{AreOwn, seen_at}
use Rattle.record_writer.specs.declared.partition.PartitionPasses.{PartitionPasses}
use Rattle.record_writer.specs.Writers.{SendCell, SendPass, place_of, ways, ways_into, sender_at}
use Rattle.input_gate.specs.declared.passes.GatePasses.{GatePasses}
use Rattle.input_gate.specs.Turning.{InputCell, InputPass}
use Rattle.job_cells.specs.declared.edge.Edge.{Edge}
use Rattle.job_cells.specs.Edges.{channels_on, channels_into}
use Rattle.job_workers.specs.declared.task.TaskLeft.{TaskLeft}
use Rattle.job_workers.specs.Tasks.{gate_in, passes_in}
use Rattle.job_ends.specs.Settling.{AllSettled, AreTaskAt, GoOn}
use Rattle.job_ends.specs.Edges.{IsSettled}
use Rattle.job_ends.specs.Ended.{TaskPlace, left_in, place_at, own_at, gate_at}
use Rattle.job_ends.specs.Leaving.{HasArrived, HasEdge, HasPartition, HasGate, SentAt, TookAt, TookPartition, TookGate, sent_in, taken_in}
use Rattle.job_ends.proofs.Rows.{stands, place_is}

-- ---- channels that were settled after others

pub settled_back : {S E F : Type 0} (stands : S → List (ℕ × E) → Type 0) (first stride : ℕ) (own before now : List (Pass S E F)) → GoOn before now →
    AllSettled stands first stride own now → AllSettled stands first stride own before
settled_back stands first stride own before now go settled c low = let s = settled c low in let p : ℕ = place_of first stride c in record {
  state = s.state;
  history = s.history;
  stands_for = s.stands_for;
  of_task = s.of_task;
  later_task = s.later_task;
  of_loop = s.of_loop ∙ go.same p;
  later_loop = starts_on s.history (seen_at p now) (seen_at p before) s.later_loop (go.seen_more p);
}

-- ---- the passes that were taken out

module _ {S : Type 0} where
  pub partition_is : (before after : TaskPlace S) (passes : PartitionPasses) (has : HasPartition before) → TookPartition before after passes → has.passes ≡ passes
  partition_is before after passes has took =
      let same : has.left ≡ took.without.left = same_Some has.left took.without.left (sym has.is_left ∙ took.without.was) in
      same_Some has.passes passes (sym has.are_there ∙ ap (λ (l : TaskLeft S). l.partition) same ∙ took.had)

  pub gate_is : (before after : TaskPlace S) (passes : GatePasses) (has : HasGate before) → TookGate before after passes → has.passes ≡ passes
  gate_is before after passes has took =
      let same : has.left ≡ took.without.left = same_Some has.left took.without.left (sym has.is_left ∙ took.without.was) in
      same_Some has.passes passes (sym has.are_there ∙ ap (λ (l : TaskLeft S). l.gate) same ∙ took.had)

  pub sent_is : (before after : TaskPlace S) (passes : PartitionPasses) → TookPartition before after passes → sent_in before ≡ passes.subpartitions.items
  sent_is before after passes took =
      ap (λ (o : Option (TaskLeft S)). option_map_or (λ (left : TaskLeft S). passes_in left.partition) o []) took.without.was ∙ ap passes_in took.had

  pub taken_is : (before after : TaskPlace S) (passes : GatePasses) → TookGate before after passes → taken_in before ≡ passes.cells.items
  taken_is before after passes took =
      ap (λ (o : Option (TaskLeft S)). option_map_or (λ (left : TaskLeft S). gate_in left.gate) o []) took.without.was ∙ ap gate_in took.had

  pub own_sent : (cells : List SendCell) (first stride : ℕ) (before after : TaskPlace S) (passes : PartitionPasses) → SentAt cells first stride before → TookPartition before after passes →
      AreTaskAt cells first stride passes.subpartitions.items
  own_sent cells first stride before after passes sent took =
      subst (λ (p : PartitionPasses). AreTaskAt cells first stride p.subpartitions.items) (partition_is before after passes sent.has took) sent.own

  pub own_taken : (cells : List InputCell) (number : ℕ) (before after : TaskPlace S) (passes : GatePasses) → TookAt cells number before → TookGate before after passes →
      AreTaskAt cells (number * length passes.cells.items) 1 passes.cells.items
  own_taken cells number before after passes took out =
      subst (λ (p : GatePasses). AreTaskAt cells (number * length p.cells.items) 1 p.cells.items) (gate_is before after passes took.has out) took.own

-- The first cell of a gate is one of the edge's, if it has any.
pub first_low : (cells : List InputCell) (number : ℕ) (own : List InputPass) → AreTaskAt cells (number * length own) 1 own → number * length own ≤ length cells
first_low cells number [] at = omega arith
first_low cells number (pass ∷ own) at =
    let there = at 0 pass refl in
    let low = slice_get_within cells (place_of (number * length (pass ∷ own)) 1 0) there.0 there.1 in
    omega (arith, low)

-- ---- how many channels there are

ways_few : (x : Exchange) (n : ℕ) → n ≤ 8 → ways x n ≤ 8
ways_few Hash n few = few
ways_few Rebalance n few = few
ways_few Forward n few = omega arith

few_product : (m n : ℕ) → m ≤ 8 → n ≤ 8 → m * n < 4294967296
few_product m n a b = let p : m * n ≤ 8 * 8 = mul-le-mul a b in omega (arith, p)

pub few_channels : (job : Job) (e : ℕ) → IsJob job → e ≤ last_edge job → length (channels_on job e) < 2 ^ 32
few_channels job e is low =
    let w : ℕ = ways_into job e in
    let from : tasks job e ≤ 8 = (is.counts e (omega arith)).1 in
    let to : tasks job (suc e) ≤ 8 = (is.counts (suc e) (omega arith)).1 in
    let many : length (channels_on job e) ≡ tasks job (suc e) * w =
    length-concat_below (tasks job (suc e)) (channels_into job e) (λ b. w)
    (λ b below. length-map-range_with_len (λ (i : ℕ). record { edge = e; «from» = sender_at (exchange job e) b i; to = b }) 0 w)
    ∙ sum_same (tasks job (suc e)) w in
    let few = few_product (tasks job (suc e)) w to (ways_few (exchange job e) (tasks job e) from) in
    omega (arith, many, few)

-- ---- an edge with the tasks at both ends

module _ {S : Type 0} (job : Job) (e : ℕ) (edge : Edge) (rows : List (Items (TaskPlace S))) (has : HasEdge job e edge rows) where
  pub few_sent : IsJob job → e ≤ last_edge job → length edge.subpartitions.items < 2 ^ 32
  few_sent is low = let f = few_channels job e is low in let m = has.is_edge.subpartitions in let c = ap length has.is_edge.channels in omega (arith, f, m, c)

  pub few_taken : IsJob job → e ≤ last_edge job → length edge.inputs.items < 2 ^ 32
  few_taken is low = let f = few_channels job e is low in let m = has.is_edge.inputs in let c = ap length has.is_edge.channels in omega (arith, f, m, c)

  pub sends : (row : Items (TaskPlace S)) → slice_get rows e ≡ Some row → (a : ℕ) (place : TaskPlace S) → slice_get row.items a ≡ Some place → SentAt edge.subpartitions.items a (length row.items) place
  sends row at a place there =
      let many = has.row_many e row at in
      let s = has.sent_by a (let low = slice_get_within row.items a place there in omega (arith, low, many)) in
      record {
        has = record { left = s.0; is_left = sym (ap (λ (p : TaskPlace S). left_in p) (place_is rows e a row place at there)) ∙ s.1; passes = s.2.passes; are_there = s.2.are_there };
        own = subst (λ (n : ℕ). AreTaskAt edge.subpartitions.items a n s.2.passes.subpartitions.items) (sym many) s.2.own.each;
      }

  pub takes : (row : Items (TaskPlace S)) → slice_get rows (suc e) ≡ Some row → (b : ℕ) (place : TaskPlace S) → slice_get row.items b ≡ Some place → TookAt edge.inputs.items b place
  takes row at b place there =
      let many = has.row_many (suc e) row at in
      let t = has.taken_by b (let low = slice_get_within row.items b place there in omega (arith, low, many)) in
      record {
        has = record { left = t.0; is_left = sym (ap (λ (p : TaskPlace S). left_in p) (place_is rows (suc e) b row place at there)) ∙ t.1; passes = t.2.passes; are_there = t.2.are_there };
        own = subst (λ (n : ℕ). AreTaskAt edge.inputs.items (b * n) 1 t.2.passes.cells.items) (sym t.2.many) t.2.own;
      }

  own_is : (a : ℕ) (low : a < tasks job e) → own_at rows e a ≡ (has.sent_by a low).2.passes.subpartitions.items
  own_is a low = let s = has.sent_by a low in
      ap (λ (o : Option (TaskLeft S)). option_map_or (λ (left : TaskLeft S). passes_in left.partition) o []) s.1 ∙ ap passes_in s.2.are_there

  gate_are : (b : ℕ) (low : b < tasks job (suc e)) → gate_at rows e b ≡ (has.taken_by b low).2.passes.cells.items
  gate_are b low = let t = has.taken_by b low in
      ap (λ (o : Option (TaskLeft S)). option_map_or (λ (left : TaskLeft S). gate_in left.gate) o []) t.1 ∙ ap gate_in t.2.are_there

  module _ (sent came : Items (TaskPlace S)) (at : slice_get rows e ≡ Some sent) (next_at : slice_get rows (suc e) ≡ Some came) (takers : List SendPass) (pushers : List InputPass) where
    pub is_settled : AreOwn 1 edge.subpartitions.items takers → AreOwn 1 edge.inputs.items pushers →
        ((a : ℕ) (place : TaskPlace S) → slice_get sent.items a ≡ Some place → AllSettled sending.QueueStandsFor a (length sent.items) (sent_in place) takers) →
        ((b : ℕ) (place : TaskPlace S) → slice_get came.items b ≡ Some place → AllSettled receiving.ChannelStandsFor (b * length (taken_in place)) 1 (taken_in place) pushers) →
        HasArrived job e takers pushers → IsSettled job e edge.subpartitions.items edge.inputs.items (own_at rows e) (gate_at rows e) takers pushers
    is_settled own pushed settled settled_next arrived = record {
      cells = has.is_edge.subpartitions ∙ ap length has.is_edge.channels;
      inputs_many = has.is_edge.inputs ∙ ap length has.is_edge.channels;
      takers_are = own;
      pushers_are = pushed;
      own_many = λ a low. ap length (own_is a low) ∙ (has.sent_by a low).2.own.many_are;
      own_are = λ a low. subst (AreTaskAt edge.subpartitions.items a (tasks job e)) (sym (own_is a low)) (has.sent_by a low).2.own.each;
      sent = λ a low.
          let many = has.row_many e sent at in
          let p = stands sent.items a (omega (arith, low, many)) in
          let is : place_at rows e a ≡ p.0 = place_is rows e a sent p.0 at p.1 in
          subst (λ (n : ℕ). AllSettled sending.QueueStandsFor a n (own_at rows e a) takers) many
          (subst (λ (q : TaskPlace S). AllSettled sending.QueueStandsFor a (length sent.items) (sent_in q) takers) (sym is) (settled a p.0 p.1));
      gate_many = λ b low. ap length (gate_are b low) ∙ (has.taken_by b low).2.many;
      gate_are = λ b low. subst (AreTaskAt edge.inputs.items (b * ways_into job e) 1) (sym (gate_are b low)) (has.taken_by b low).2.own;
      came = λ b low.
          let many = has.row_many (suc e) came next_at in
          let p = stands came.items b (omega (arith, low, many)) in
          let is : place_at rows (suc e) b ≡ p.0 = place_is rows (suc e) b came p.0 next_at p.1 in
          let count : length (gate_at rows e b) ≡ ways_into job e = ap length (gate_are b low) ∙ (has.taken_by b low).2.many in
          subst (λ (n : ℕ). AllSettled receiving.ChannelStandsFor (b * n) 1 (gate_at rows e b) pushers) count
          (subst (λ (q : TaskPlace S). AllSettled receiving.ChannelStandsFor (b * length (taken_in q)) 1 (taken_in q) pushers) (sym is) (settled_next b p.0 p.1));
      arrived = arrived;
    }
