-- An edge and its passes from their parts.
use Rattle.std.proofs.Common.{◌≡◌, ℕ, suc, ◌+◌, ◌*◌, ◌<◌, ◌≤◌, length, get_or, Some, refl, sym, ap, subst, ◌∙◌, arith}
use Rattle.std.specs.Prelude.{slice_get}
use Rattle.std.proofs.lemmas.Option.{slice_get-get_or}
use Rattle.flow_defs.specs.declared.job.Job.{Job}
use Rattle.flow_defs.specs.declared.job.Exchange.{Exchange}
use Rattle.flow_defs.specs.declared.job.Exchange.TheVariants.{Hash, Rebalance, Forward}
use Rattle.flow_defs.specs.Items.{Items}
use Rattle.flow_defs.specs.Jobs.{IsJob, last_edge, tasks, exchange}
use Rattle.conn_parts.specs.Shares.{AreNew}
use Rattle.subpartition.specs.Queues.{Queue}
use Rattle.input_channel.specs.States.{ChannelState}
use Rattle.credit_reader.specs.Senders.{AreDistinct}
use Rattle.record_writer.specs.Writers.{SendPass, ways, ways_on, AreOwnAt, ways_into}
use Rattle.job_cells.specs.declared.edge.Edge.{Edge}
use Rattle.job_cells.specs.declared.edge.EdgePasses.{EdgePasses}
use Rattle.job_cells.specs.declared.lender.Lender.{Lender}
use Rattle.job_cells.specs.declared.parts.Parts.{Parts}
use Rattle.job_cells.specs.declared.span.Span.{Span}
use Rattle.job_cells.specs.Edges.{IsEdgeOf, ArePassesOf}
use Rattle.job_cells.specs.Grants.{gate_want, partition_want, wants_of}
use Rattle.job_cells.specs.Lending.{IsAt, HasLent}
use Rattle.job_cells.specs.Parts.{AreParts, HaveShares}
use Rattle.job_cells.specs.Spans.{span_on, ways_in, ways_out}
use Rattle.job_cells.proofs.Places.{ids_apart, length_ids}
use Rattle.job_cells.proofs.WantLaws.{gate_stands, partition_stands}

-- Both ends have the same channels.
same_width : (x : Exchange) (n m : ℕ) → (x ≡ Forward → n ≡ m) → ways x m * n + 0 ≡ m * ways x n
same_width Hash n m wide = omega arith
same_width Rebalance n m wide = omega arith
same_width Forward n m wide = let same = wide refl in omega (arith, same)

abbrev edge_from : Parts → Edge
edge_from parts = record {
  channels = parts.channels;
  readers = parts.readers;
  subpartitions = parts.sending.group.cells;
  inputs = parts.gates.group.cells;
  partitions = parts.partitions.cells;
  gates = parts.gates.pools.cells;
}

abbrev passes_from : Parts → EdgePasses
passes_from parts = record {
  send_items = parts.send_items;
  read_control = parts.read_control;
  senders = parts.sending.senders;
  takers = parts.sending.group.first;
  sizers = parts.sending.group.second;
  gates = parts.gates.passes;
  pushers = parts.gates.group.first;
  tellers = parts.gates.group.second;
  task_partitions = parts.partitions.tasks;
  loop_partitions = parts.partitions.loops;
  task_gates = parts.gates.pools.tasks;
  loop_gates = parts.gates.pools.loops;
}

pub is_edge : (job : Job) (e size : ℕ) (parts : Parts) → IsJob job → e ≤ last_edge job → AreParts (span_on job e) size parts → HaveShares (span_on job e) (wants_of job) parts → IsEdgeOf job e size (edge_from parts)
is_edge job e size parts is low are shares =
    let span = span_on job e in let n = tasks job e in let m = tasks job (suc e) in
    let long : length parts.channels.items ≡ m * ways_into job e = ap length are.channels ∙ length_ids span m in
    record {
      channels = are.channels;
      distinct = subst AreDistinct (sym are.channels) (ids_apart span m);
      readers = are.readers;
      subpartitions = are.sending.cells ∙ same_width (exchange job e) n m (is.widths e low) ∙ sym long;
      sizes = λ k d low. ap (λ (queue : Queue). queue.size) (are.sending.opened k d low);
      inputs = are.gates.cells ∙ sym long;
      input_sizes = λ k d low. ap (λ (input : ChannelState). input.size) (are.gates.opened k d low);
      rooms = λ k d low. ap (λ (queue : Queue). queue.room) (are.sending.opened k d low);
      input_rooms = λ k d low. ap (λ (input : ChannelState). input.room) (are.gates.opened k d low);
      partitions = are.partitions_many;
      partition_sizes = are.partitions.sizes;
      gates = are.gates.pools_many;
      gate_sizes = are.gates.pools.sizes;
      partition_shares = shares.partitions;
      gate_shares = shares.gates;
    }

pub are_passes : (job : Job) (e size : ℕ) (parts : Parts) → AreParts (span_on job e) size parts → ArePassesOf job e (edge_from parts) (passes_from parts)
are_passes job e size parts are = record {
  send_items = are.send_items.0;
  send_items_new = are.send_items.1;
  read_control = are.read_control.0;
  read_control_new = are.read_control.1;
  senders = are.sending.lists;
  sender = λ a own at. (own_at a own at, own_new a own at);
  takers = are.sending.dealt.first;
  sizers = are.sending.dealt.second;
  gates = are.gates.lists;
  gate = are.gates.each;
  pushers = are.gates.dealt.first;
  tellers = are.gates.dealt.second;
  task_partitions = are.partitions.tasks;
  loop_partitions = are.partitions.loops;
  task_gates = are.gates.pools.tasks;
  loop_gates = are.gates.pools.loops;
  takers_new = are.sending.dealt.unseen;
  pushers_new = are.gates.dealt.new;
}
  where
    own_at : (a : ℕ) (own : Items SendPass) → slice_get parts.sending.senders.items a ≡ Some own → AreOwnAt parts.sending.group.cells.items a (tasks job e) (ways_on job e) own.items
    own_at a own at = record {
      many_are = are.sending.behind a own (omega arith) at;
      each = λ c pass here. let way = are.sending.each a own at c pass here in (way.cell, way.stands, way.of_cell, way.number_is);
    }

    own_new : (a : ℕ) (own : Items SendPass) → slice_get parts.sending.senders.items a ≡ Some own → AreNew own.items
    own_new a own at k d low = (are.sending.each a own at k (get_or own.items k d) (slice_get-get_or own.items k d low)).new

-- ---- one edge after another

-- Where the gates of an edge stand among the wants, as the local pools before it are lent.
pub gates_wanted : (job : Job) (e : ℕ) (span : Span) (lender : Lender) → e ≤ last_edge job → span ≡ span_on job e → IsAt job e lender →
    (b : ℕ) → b < span.receivers → slice_get lender.wants.items (lender.given + (span.senders + b)) ≡ Some (gate_want (ways_in span))
gates_wanted job e span lender low is at =
    subst (λ (s : Span). (b : ℕ) → b < s.receivers → slice_get lender.wants.items (lender.given + (s.senders + b)) ≡ Some (gate_want (ways_in s))) (sym is) (λ b here.
    ap (λ ws. slice_get ws (lender.given + (tasks job e + b))) at.wants ∙ ap (λ k. slice_get (Rattle.job_cells.specs.Grants.wants_of job) (k + (tasks job e + b))) at.given ∙ gate_stands job e b low here)

-- And where its partitions stand.
pub partitions_wanted : (job : Job) (e : ℕ) (span : Span) (lender : Lender) → e ≤ last_edge job → span ≡ span_on job e → IsAt job e lender →
    (a : ℕ) → a < span.senders → slice_get lender.wants.items (lender.given + a) ≡ Some (partition_want (ways_out span))
partitions_wanted job e span lender low is at =
    subst (λ (s : Span). (a : ℕ) → a < s.senders → slice_get lender.wants.items (lender.given + a) ≡ Some (partition_want (ways_out s))) (sym is) (λ a here.
    ap (λ ws. slice_get ws (lender.given + a)) at.wants ∙ ap (λ k. slice_get (wants_of job) (k + a)) at.given ∙ partition_stands job e a low here)

pub at_more : (job : Job) (e : ℕ) (span : Span) (before after : Lender) → span ≡ span_on job e → IsAt job e before → HasLent (span.senders + span.receivers) before after → IsAt job (e + 1) after
at_more job e span before after is at lent =
    let n : span.senders ≡ tasks job e = ap (λ (s : Span). s.senders) is in let m : span.receivers ≡ tasks job (suc e) = ap (λ (s : Span). s.receivers) is in
    let next : suc e ≡ e + 1 = omega arith in
    subst (λ k. IsAt job k after) next (record {
      wants = lent.wants ∙ at.wants;
      given = (let g = lent.given in let b = at.given in omega (arith, g, b, n, m));
    })
