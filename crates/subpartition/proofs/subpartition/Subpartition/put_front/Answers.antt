use Rattle.std.proofs.Common.{◌≡◌, ◌-◌, ◌≤◌, ◌++◌, ◌∷◌, length, sym, ap, subst, ◌∙◌}
use Rattle.circular_buffer.specs.Buffer.{Buffer, buffer}
use Rattle.flow_defs.specs.Limits.{credit_max}
use Rattle.flow_defs.specs.declared.task.BarrierKind.TheVariants.{Front}
use Rattle.subpartition.specs.declared.item.Item.{Item}
use Rattle.subpartition.specs.declared.item.Item.TheVariants.{Barrier}
use Rattle.flow_defs.specs.Barriers.{up_to_last, behind_last}
use Rattle.subpartition.specs.Queues.{Queue, backlog_of, data_in, is_mark, overtaken_in, with_front_barrier}
use Rattle.subpartition.proofs.Fronts.{back_is, cut_in_two, put_between}
use Rattle.subpartition.proofs.Items.{backlog_with_barrier_in}
use Rattle.subpartition.proofs.subpartition.Subpartition.put_front.Goals as goal

pub invariant_of-self : goal.invariant_of-self
invariant_of-self c =
    let xs = c.self.inside.queue.items in
    let item = Barrier c.args.k Front in
    let counted = c.behind_last_barrier-behind.ensures.count in
    let whole = put_between is_mark xs (c.len.result - c.behind_last_barrier-behind.result) c.behind_last_barrier-behind.result c.self.inside.queue.capacity c.turn_round.new.queue c.push.new.queue c.turn_round-2.new.queue item counted (ap (λ n. n - c.behind_last_barrier-behind.result) c.len.ensures.len) c.turn_round.ensures c.push.ensures c.turn_round-2.ensures in
    let was = c.self.invariant in (
      was.0 ∙ ap backlog_of (sym (cut_in_two is_mark xs)) ∙ sym (backlog_with_barrier_in (up_to_last is_mark xs) (behind_last is_mark xs) c.args.k Front) ∙ ap (λ (q : Buffer Item). backlog_of q.items) (sym whole),
      subst (λ (q : Buffer Item). q.capacity ≤ credit_max) (sym whole) was.1,
      was.2,
      was.3,
      was.4,
    )

pub returns-clause-ok : goal.returns-clause-ok
returns-clause-ok c =
    let xs = c.self.inside.queue.items in
    let item = Barrier c.args.k Front in
    let counted = c.behind_last_barrier-behind.ensures.count in
    let whole = put_between is_mark xs (c.len.result - c.behind_last_barrier-behind.result) c.behind_last_barrier-behind.result c.self.inside.queue.capacity c.turn_round.new.queue c.push.new.queue c.turn_round-2.new.queue item counted (ap (λ n. n - c.behind_last_barrier-behind.result) c.len.ensures.len) c.turn_round.ensures c.push.ensures c.turn_round-2.ensures in
    ap (λ (q : Buffer Item). record { items = q.items; barriers = c.args.k; finished = c.self.inside.ended; size = c.self.inside.segment_size; room = q.capacity; fill_size = c.self.inside.fill }) whole
    ∙ ap (λ (q : Queue). with_front_barrier q c.args.k) c.self.view_is

pub returns-clause-overtaken : goal.returns-clause-overtaken
returns-clause-overtaken c =
    let xs = c.self.inside.queue.items in
    let behind = c.behind_last_barrier-behind in
    c.in_ok-overtaken.ensures ∙ ap data_in (back_is is_mark xs (c.len.result - behind.result) behind.result behind.ensures.count (ap (λ n. n - behind.result) c.len.ensures.len))
    ∙ ap overtaken_in c.self.view_is
