use Rattle.std.proofs.Common.{◌≡◌, ◌+◌, suc, length, refl, sym, ap, ◌∙◌, arith}
use Rattle.flow_defs.specs.Jobs.{last_edge, tasks, edge_width, sum_below}
use Rattle.collector.specs.Collecting.{task_count}
use Rattle.collector.proofs.TaskPlaces.{sum_shift}
use Rattle.collector.proofs.blank.blank_image.Goals as goal

pub overflow_sub-tasks-2 : goal.overflow_sub-tasks-2
overflow_sub-tasks-2 c =
    let job = c.args.job.now in
    let edges : c.edges-edges.result + 1 ≡ suc (suc (last_edge job)) = (let e = c.edges-edges.ensures in omega (arith, e)) in
    let all : c.tasks_before-tasks.result ≡ task_count job = c.tasks_before-tasks.ensures.is ∙ ap (λ k. sum_below k (tasks job)) edges in
    let shift = sum_shift (suc (last_edge job)) (tasks job) in
    let sources = ap length c.as_slice-sources.ensures in
    omega (arith, all, shift, sources)

pub returns : goal.returns
returns c =
    let job = c.args.job.now in
    let edge = c.edges-edges.ensures in
    let edges : c.edges-edges.result + 1 ≡ suc (suc (last_edge job)) = omega (arith, edge) in
    let senders : c.tasks_before-senders.result ≡ sum_below (suc (last_edge job)) (tasks job) = c.tasks_before-senders.ensures.is ∙ ap (λ k. sum_below k (tasks job)) edge in
    let all : c.tasks_before-tasks.result ≡ task_count job = c.tasks_before-tasks.ensures.is ∙ ap (λ k. sum_below k (tasks job)) edges in
    let channels = c.channels_before-channels.ensures.is ∙ ap (λ k. sum_below k (edge_width job)) edge ∙ sym (c.places_are_in_order.ensures.width job c.requires) in
    let shift = sum_shift (suc (last_edge job)) (tasks job) in
    let sources = ap length c.as_slice-sources.ensures in
    record {
      number = refl;
      last = refl;
      text = c.in_ok-text.ensures ∙ c.as_slice.ensures;
      shape = record {
        offsets = c.in_ok-offsets.ensures ∙ sources;
        ended = c.in_ok-ended.ensures ∙ sources;
        emitted = c.in_ok-emitted.ensures ∙ senders;
        tables = omega (arith, c.in_ok-tables.ensures, all, senders);
        takes = omega (arith, c.in_ok-takes.ensures, all, sources, shift);
        saved_in = c.in_ok-saved_in.ensures.many ∙ channels;
        saved_out = c.in_ok-saved_out.ensures.many ∙ channels;
      };
      empty_in = c.in_ok-saved_in.ensures.empty;
      empty_out = c.in_ok-saved_out.ensures.empty;
    }
