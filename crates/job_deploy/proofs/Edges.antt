-- The cells of an edge.
use Rattle.std.proofs.Common.{◌≡◌, ℕ, suc, ◌+◌, ◌*◌, ◌/◌, ◌%◌, ◌<◌, ◌≤◌, length, get_or, sym, ap, ◌∙◌, arith}
use Rattle.std.specs.Prelude.{slice_get}
use Rattle.std.proofs.lemmas.Nat.{mul-le, div-add-mod', div_below, mod_below}
use Rattle.std.proofs.lemmas.Option.{get_or_from_slice_get}
use Rattle.flow_defs.specs.declared.job.Job.{Job}
use Rattle.flow_defs.specs.declared.job.Exchange.{Exchange}
use Rattle.flow_defs.specs.declared.job.Exchange.TheVariants.{Hash, Rebalance, Forward}
use Rattle.flow_defs.specs.declared.task.ChannelId.{ChannelId}
use Rattle.flow_defs.specs.Jobs.{IsJob, last_edge, tasks, exchange}
use Rattle.record_writer.specs.Writers.{ways, ways_into}
use Rattle.job_cells.specs.declared.edge.Edge.{Edge}
use Rattle.job_cells.specs.declared.span.Span.{Span}
use Rattle.job_cells.specs.Edges.{IsEdgeOf}
use Rattle.job_cells.specs.Spans.{span_on, ids_below, id_at, ways_in}
use Rattle.job_cells.proofs.Places.{length_ids, id_stands, sender_within}
use Rattle.job_deploy.specs.Sharing.{IsWired}

ways_few : (x : Exchange) (n : ℕ) → 1 ≤ n → n ≤ 8 → (1 ≤ ways x n) × (ways x n ≤ 8)
ways_few Hash n low high = (low, high)
ways_few Rebalance n low high = (low, high)
ways_few Forward n low high = (omega arith, omega arith)

-- Which channel stands at a place.
id_here : (span : Span) (m k : ℕ) (d : ChannelId) → 0 < ways_in span → k < m * ways_in span → get_or (ids_below span m) k d ≡ id_at span (k / ways_in span) (k % ways_in span)
id_here span m k d some low =
    let w = ways_in span in
    get_or_from_slice_get (ids_below span m) k (id_at span (k / w) (k % w)) d
    (ap (slice_get (ids_below span m)) (sym (div-add-mod' k w)) ∙ id_stands span m (k / w) (k % w) (div_below k w m some low) (mod_below k w some))

module _ (job : Job) (e size : ℕ) (edge : Edge) (is : IsJob job) (low : e ≤ last_edge job) (are : IsEdgeOf job e size edge) where
  pub edge_long : length edge.channels.items ≡ tasks job (suc e) * ways_into job e
  edge_long = ap length are.channels ∙ length_ids (span_on job e) (tasks job (suc e))

  few_ways : (1 ≤ ways_into job e) × (ways_into job e ≤ 8)
  few_ways = let n = is.counts e (omega arith) in ways_few (exchange job e) (tasks job e) n.0 n.1

  pub edge_few : length edge.channels.items ≤ 64
  edge_few =
      let m = is.counts (suc e) (omega arith) in
      let product = mul-le (tasks job (suc e)) (ways_into job e) 8 8 m.1 few_ways.1 in
      omega (arith, edge_long, product)

  -- A gate's channels are channels of the edge.
  pub gate_within : (b : ℕ) → b < tasks job (suc e) → b * ways_into job e + ways_into job e ≤ length edge.inputs.items
  gate_within b here =
      let some = few_ways.0 in
      let inside = mul-le (suc b) (ways_into job e) (tasks job (suc e)) (ways_into job e) (omega (arith, here)) (omega arith) in
      let next : suc b * ways_into job e ≡ b * ways_into job e + ways_into job e = omega arith in
      let long = edge_long in let same = are.inputs in omega (arith, inside, next, long, same)

  channel_at : (k : ℕ) (d : ChannelId) → k < length edge.channels.items → get_or edge.channels.items k d ≡ id_at (span_on job e) (k / ways_into job e) (k % ways_into job e)
  channel_at k d inside =
      ap (λ l. get_or l k d) are.channels
      ∙ id_here (span_on job e) (tasks job (suc e)) k d few_ways.0 (let long = edge_long in omega (arith, inside, long))

  receiver_here : (k : ℕ) → k < length edge.channels.items → k / ways_into job e < tasks job (suc e)
  receiver_here k inside = div_below k (ways_into job e) (tasks job (suc e)) few_ways.0 (let long = edge_long in omega (arith, inside, long))

  pub wired : IsWired size edge
  wired = record {
    distinct = are.distinct;
    readers = are.readers;
    subpartitions = are.subpartitions;
    sizes = are.sizes;
    inputs = are.inputs;
    input_sizes = are.input_sizes;
    partition_sizes = are.partition_sizes;
    gate_sizes = are.gate_sizes;
    senders = λ k d inside.
        let x = exchange job e in let w = ways_into job e in
        let within = sender_within x (tasks job e) (tasks job (suc e)) (k / w) (k % w) (is.widths e low) (receiver_here k inside) (mod_below k w few_ways.0) in
        let from_is = ap (λ (c : ChannelId). c.from) (channel_at k d inside) in
        let many = are.partitions in omega (arith, within, from_is, many);
    receivers = λ k d inside.
        let within = receiver_here k inside in
        let to_is = ap (λ (c : ChannelId). c.to) (channel_at k d inside) in
        let many = are.gates in omega (arith, within, to_is, many);
  }
