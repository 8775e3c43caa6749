use Rattle.std.proofs.Common.{◌≡◌, ℕ, length, ap, sym, subst, ◌∙◌, arith}
use Rattle.std.specs.List.{All}
use Rattle.std.proofs.lemmas.List.{length_push}
use Rattle.turn_cell.specs.declared.cell.TurnCell.{TurnCell}
use Rattle.turn_cell.specs.Passes.{opened_with}
use Rattle.input_channel.specs.States.{ChannelState}
use Rattle.input_channel.specs.declared.entry.ReceiveEntry.{ReceiveEntry}
use Rattle.conn_parts.specs.Shares.{HavePoolSize}
use Rattle.conn_harness.specs.Groups.{IsPassReady}
use Rattle.conn_harness.proofs.IdLaws.{ids_apart, ids_many, senders_within, receiver_within}
use Rattle.conn_harness.proofs.TaskLaws.{new_tasks, of_front, of_last}
use Rattle.conn_harness.proofs.opening.open.Goals as goal

pub open_readers-requires : goal.open_readers-requires
open_readers-requires g c = ids_apart c.args.channels c.as_slice.result.now (c.as_slice.ensures ∙ c.in_ok-ids.ensures)

pub partitions_of-requires-clause-passes : goal.partitions_of-requires-clause-passes
partitions_of-requires-clause-passes g c = of_front (IsPassReady c.args.pool.now) c.args.passes.items c.pop.new.self.items c.in-Some.gate_pass c.in-Some.ensures.items c.requires.passes

pub gate_of-requires-clause-pass : goal.gate_of-requires-clause-pass
gate_of-requires-clause-pass g c = of_last (IsPassReady c.args.pool.now) c.args.passes.items c.pop.new.self.items c.in-Some.gate_pass c.in-Some.ensures.items c.requires.passes

pub returns-clause-cells : goal.returns-clause-cells
returns-clause-cells g c =
    let n = c.args.channels in let channels = c.in_ok-ids.ids.items in let are = c.in_ok-ids.ensures in
    let many : length channels ≡ n = ids_many n channels are in
    let subpartitions = c.in_ok-subpartitions.ensures in let gate = c.in_ok-gate_inputs.ensures in let senders = c.in_ok-senders.ensures in
    let passes : length c.pop.new.self.items ≡ n = let all = ap length c.in-Some.ensures.items in let more = length_push c.pop.new.self.items c.in-Some.gate_pass in let count = c.requires.count in omega (arith, all, more, count) in
    let size = sym c.size-size.ensures.size in record {
      distinct = ids_apart n channels are;
      readers = c.in_ok-readers.ensures.channels ∙ c.as_slice.ensures;
      subpartitions = subpartitions.count ∙ sym many;
      sizes = subpartitions.states;
      inputs = gate.inputs.count ∙ sym many;
      input_sizes = subst (λ s. All (λ (cell : TurnCell ChannelState ReceiveEntry ℕ). (opened_with cell).size ≡ s) c.in_ok-gate_inputs.field-0.inputs.cells.items) size gate.inputs.states;
      senders = senders_within n (length c.in_ok-senders.field-0.cells.items) channels are (senders.count ∙ passes);
      sender_sizes = subst (λ s. HavePoolSize s c.in_ok-senders.field-0.cells.items) size senders.states;
      receivers = receiver_within n (length c.in_ok-gate_inputs.field-0.pools.cells.items) channels are gate.pools.count;
      receiver = gate.pools.count;
      receiver_sizes = subst (λ s. HavePoolSize s c.in_ok-gate_inputs.field-0.pools.cells.items) size gate.pools.states;
    }

pub returns-clause-hands : goal.returns-clause-hands
returns-clause-hands g c =
    let subpartitions = c.in_ok-subpartitions.ensures.dealt in let gate = c.in_ok-gate_inputs.ensures in let senders = c.in_ok-senders.ensures.dealt in record {
      writer = c.in_ok-readers.ensures.writer.0;
      writer_new = c.in_ok-readers.ensures.writer.1;
      reader = c.in_ok-readers.ensures.reader.0;
      reader_new = c.in_ok-readers.ensures.reader.1;
      putters = new_tasks c.in_ok-subpartitions.field-0.cells.items c.in_ok-subpartitions.field-0.tasks.items subpartitions.tasks subpartitions.new;
      takers = subpartitions.first;
      sizers = subpartitions.second;
      pollers = new_tasks c.in_ok-gate_inputs.field-0.inputs.cells.items c.in_ok-gate_inputs.field-0.inputs.tasks.items gate.inputs.dealt.tasks gate.inputs.dealt.new;
      pushers = gate.inputs.dealt.first;
      tellers = gate.inputs.dealt.second;
      source_pools = senders.tasks.of_cells;
      items_pools = senders.first.of_cells;
      sink_pools = gate.pools.dealt.tasks.of_cells;
      read_pools = gate.pools.dealt.first.of_cells;
      stops = c.in_ok-stop.ensures;
    }
