use Rattle.std.proofs.Common.{◌≡◌, ◌+◌, ◌-◌, length, get_or, set, refl, sym, ap, subst, ◌∙◌, arith}
use Rattle.script_text.specs.declared.event.Event.TheVariants as events
use Rattle.exchange_world.specs.Worlds.{lane_of}
use Rattle.exchange_world.specs.Steps.{number_of}
use Rattle.exchange_core.specs.Exchanges.{world_of, world_lane, IsLaneOf}
use Rattle.exchange_core.proofs.Connections.{lent_is, lent_whole}
use Rattle.exchange_core.proofs.LaneSteps.{backlog_is, head_is, items_count}
use Rattle.exchange_core.proofs.SentItems.{may_send, send_acted}
use Rattle.exchange_core.proofs.connection.Connection.send.Goals as goal
use Rattle.flow_defs.proofs.Lists.{refilled_set}

pub overflow_add-c : goal.overflow_add-c
overflow_add-c g c =
    let self = c.args.self.now in
    let turn = c.sound_has_turns.ensures.turns (length self.lanes.items) (world_of self) c.in-Some.channel c.requires.sound (sym c.next.ensures.first ∙ c.in-Some.is) in
    omega (arith, turn.high, c.requires.sound.opening.opening.few_channels)

pub bounds-as_mut_slice-channel : goal.bounds-as_mut_slice-channel
bounds-as_mut_slice-channel g c =
    let self = c.args.self.now in
    let turn = c.sound_has_turns.ensures.turns (length self.lanes.items) (world_of self) c.in-Some.channel c.requires.sound (sym c.next.ensures.first ∙ c.in-Some.is) in
    omega (arith, turn.high, ap length c.as_mut_slice.ensures.value)

pub take_item-requires-clause-lane : goal.take_item-requires-clause-lane
take_item-requires-clause-lane g c =
    let self = c.args.self.now in
    let ms = c.as_mut_slice.result.now in
    let id = c.in-Some.channel in
    let e = c.index-as_mut_slice-channel.result in
    let turn = c.sound_has_turns.ensures.turns (length self.lanes.items) (world_of self) id c.requires.sound (sym c.next.ensures.first ∙ c.in-Some.is) in
    let at : number_of id - 1 ≡ id.from = omega arith in
    subst (λ i. IsLaneOf self.pool self.partition_limit (get_or ms i e)) at (lent_whole self ms (number_of id) e c.as_mut_slice.ensures.value turn.low turn.high c.requires)

pub take_item-requires-clause-some : goal.take_item-requires-clause-some
take_item-requires-clause-some g c =
    let self = c.args.self.now in
    let ms = c.as_mut_slice.result.now in
    let id = c.in-Some.channel in
    let e = c.index-as_mut_slice-channel.result in
    let turn = c.sound_has_turns.ensures.turns (length self.lanes.items) (world_of self) id c.requires.sound (sym c.next.ensures.first ∙ c.in-Some.is) in
    let at : number_of id - 1 ≡ id.from = omega arith in
    let lane = get_or ms id.from e in
    let is : lane_of (world_of self) (number_of id) ≡ world_lane lane = lent_is self ms (number_of id) e c.as_mut_slice.ensures.value turn.low turn.high ∙ ap (λ i. world_lane (get_or ms i e)) at in
    let some = ap length (sym (ap (λ l. l.items) is) ∙ turn.items) in
    omega (arith, some, items_count lane)

pub sent-sequence-requires-clause-credit : goal.sent-sequence-requires-clause-credit
sent-sequence-requires-clause-credit g c =
    let self = c.args.self.now in
    let ms = c.as_mut_slice.result.now in
    let id = c.in-Some.channel in
    let e = c.index-as_mut_slice-channel.result in
    let turn = c.sound_has_turns.ensures.turns (length self.lanes.items) (world_of self) id c.requires.sound (sym c.next.ensures.first ∙ c.in-Some.is) in
    let at : number_of id - 1 ≡ id.from = omega arith in
    let lane = get_or ms id.from e in
    let after = c.take_item.new.lane in
    let is : lane_of (world_of self) (number_of id) ≡ world_lane lane = lent_is self ms (number_of id) e c.as_mut_slice.ensures.value turn.low turn.high ∙ ap (λ i. world_lane (get_or ms i e)) at in
    may_send self id turn lane after c.in_ok-sent.sent is c.in_ok-sent.ensures.taken c.head-head.result c.backlog-backlog.result
    (c.head-head.ensures ∙ sym (head_is after.queue.items)) (c.backlog-backlog.ensures.backlog ∙ sym (backlog_is after.queue.items))

pub returns : goal.returns
returns g c =
    let self = c.args.self.now in
    let ms = c.as_mut_slice.result.now in
    let id = c.in-Some.channel in
    let e = c.index-as_mut_slice-channel.result in
    let turn = c.sound_has_turns.ensures.turns (length self.lanes.items) (world_of self) id c.requires.sound (sym c.next.ensures.first ∙ c.in-Some.is) in
    let at : number_of id - 1 ≡ id.from = omega arith in
    let lane = get_or ms id.from e in
    let after = c.take_item.new.lane in
    let is : lane_of (world_of self) (number_of id) ≡ world_lane lane = lent_is self ms (number_of id) e c.as_mut_slice.ensures.value turn.low turn.high ∙ ap (λ i. world_lane (get_or ms i e)) at in
    send_acted self id turn lane after c.in_ok-sent.sent is c.in_ok-sent.ensures.taken c.head-head.result c.backlog-backlog.result
    (c.head-head.ensures ∙ sym (head_is after.queue.items)) (c.backlog-backlog.ensures.backlog ∙ sym (backlog_is after.queue.items))
    _ (id.from + 1) c.sent-sequence.result c.requires (record { pool = refl; gate = refl; size = refl; total = refl; limit = refl }) (sym c.next.ensures.first ∙ c.in-Some.is) (omega arith)
    (refilled_set self.lanes.items ms id.from after c.as_mut_slice.ensures.value ∙ ap (λ i. set self.lanes.items i after) (sym at)) c.in_ok-sent.ensures.lane
    c.sent-sequence.ensures.sent c.sent-sequence.ensures.number c.in_ok-push_back.ensures.items refl (c.connections_stay_sound.ensures.steps (length self.lanes.items) (world_of self) events.Send c.requires.sound tt)
