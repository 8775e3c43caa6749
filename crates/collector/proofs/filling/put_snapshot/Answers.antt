use Rattle.std.proofs.Common.{◌≡◌, suc, length, refl, ap, ◌∙◌, subst}
use Rattle.flow_defs.specs.Jobs.{last_edge, tasks, sum_below}
use Rattle.collector.specs.Filling.{IsPut}
use Rattle.collector.proofs.filling.put_snapshot.Goals as goal

pub returns : goal.returns
returns c =
    let job = c.args.job.now in
    let place = c.args.place in
    let snapshot = c.args.snapshot in
    let senders : c.tasks_before-senders.result ≡ sum_below (suc (last_edge job)) (tasks job) = c.tasks_before-senders.ensures.is ∙ ap (λ k. sum_below k (tasks job)) c.edges.ensures in
    record {
      head = record { number = refl; last = refl; text = refl };
      offsets = c.put_from.ensures;
      ended = c.put_from-2.ensures;
      emitted = c.put_from-3.ensures;
      tables = subst (λ n. IsPut n place snapshot.table c.args.image.now.tables.items c.put_from-4.new.list.items) senders c.put_from-4.ensures;
      takes = subst (λ n. IsPut n place snapshot.takes c.args.image.now.takes.items c.put_from-5.new.list.items) (ap length c.as_slice-sources.ensures) c.put_from-5.ensures;
      saved_in = c.put_pieces.ensures;
      saved_out = c.put_pieces-2.ensures;
    }
