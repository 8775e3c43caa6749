use Rattle.std.proofs.Common.{List, [], ◌∷◌, ◌++◌, get_or, sym, ap, subst, ◌∙◌}
use Rattle.std.proofs.lemmas.Option.{slice_get-get_or}
use Rattle.subpartition.specs.Queues.{Queue}
use Rattle.subpartition.specs.Standing.{QueueStandsFor}
use Rattle.flow_defs.specs.Items.{Items}
use Rattle.flow_defs.proofs.Lists.{refilled_set}
use Rattle.record_writer.specs.Writers.{SendPass}
use Rattle.job_cells.specs.Edges.{items_room}
use Rattle.job_cells.specs.Groups.{HasMore}
use Rattle.job_cells.proofs.partitions.Partitions.add.Goals as goal

pub add-requires-clause-new : goal.add-requires-clause-new
add-requires-clause-new c =
    subst (λ (queue : Queue). QueueStandsFor queue []) (sym c.in_ok-state.ensures) (c.calls_add_entries.ensures.new c.args.size items_room)

pub returns-clause-way : goal.returns-clause-way
returns-clause-way c =
    let lists = c.args.self.now.senders.items in let a = c.args.task in
    let lent = c.as_mut_slice.ensures.value in let own = get_or lists a c.index-as_mut_slice-task.result in
    record {
      pass = c.in_ok-pass.pass;
      own = own;
      longer = c.push.new.self;
      more = subst (λ (queue : Queue). HasMore queue c.args.self.now.group.cells.items c.add.new.self.cells.items c.in_ok-pass.pass) c.in_ok-state.ensures c.in_ok-pass.ensures.more;
      stood = slice_get-get_or lists a c.index-as_mut_slice-task.result c.requires.task;
      pushed = c.in_ok-push.ensures.ok ∙ ap (λ (ls : List (Items SendPass)). (get_or ls a c.index-as_mut_slice-task.result).items ++ c.in_ok-pass.pass ∷ []) lent;
      set_is = refilled_set lists c.as_mut_slice.result.now a c.push.new.self lent;
    }
