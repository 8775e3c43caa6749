use Rattle.std.proofs.Common.{◌≡◌, ◌∙◌, ◌≤◌, ◌<◌, ◌-◌, ◌^◌, suc, eqb, not, length, get_or, ap, sym, arith, true, false}
use Rattle.std.proofs.lemmas.Bool.{le-ltb, lt-ltb, or_left, or_right, or_from, eqb-true, not-false}
use Rattle.script_text.specs.declared.event.Event.TheVariants as events
use Rattle.script_text.specs.declared.reply.Reply.TheVariants as replies
use Rattle.exchange_world.specs.Lanes.{Lane, ITEMS_MAX}
use Rattle.exchange_world.specs.Steps.{puts, barred, bar_reply, bars}
use Rattle.exchange_core.specs.Exchanges.{world_of, world_lane}
use Rattle.exchange_core.proofs.Connections.{has_stayed, lent_is, lent_whole, lent_stays, put_acted, is_known}
use Rattle.exchange_core.proofs.Emitting.{is_wrong, barred_inbox, bars_refused, bars_full, bars_done, next_is}
use Rattle.exchange_core.proofs.LaneSteps.{barrier_at, barrier_put, items_count}
use Rattle.exchange_core.proofs.connection.Connection.put_barrier.Goals as goal
use Rattle.exchange_core.proofs.connection.Connection.put_barrier.Goals.{then-lane-via-then-lane, then-lane-via-else-lane+then-ne}
use Rattle.flow_defs.proofs.Lists.{refilled_set}

pub returns-then-lane : goal.returns-then-lane
returns-then-lane c =
    let self = c.args.self.now in
    let ms = c.as_mut_slice.result.now in
    let e = c.index-as_mut_slice-c.result in
    let n = c.args.c in
    let k = c.args.k in
    let lent = c.as_mut_slice.ensures.value in
    let channel = c.requires.channel in
    let lane = get_or ms (n - 1) e in
    let w = world_of self in
    elim c.then-lane.branch [
      | then-lane-via-then-lane v ↦
          let wrong : is_wrong w n k c.args.kind (world_lane lane) ≡ true = or_left _ _ v.if-lane.true in
          has_stayed self c.then-lane.self replies.Refused _ c.requires.whole (v.self-is ∙ lent_stays self ms n e lent)
          (bars_refused w n k c.args.kind (world_lane lane) (lent_is self ms n e lent channel.0 channel.1) wrong)
      | then-lane-via-else-lane+then-ne v ↦
          let other : not (eqb k (suc lane.barriers)) ≡ true = ap not (sym (next_is v.checked_sub.result k lane.barriers v.checked_sub.ensures)) ∙ sym v.ne.ensures ∙ v.if-ne.true in
          let wrong : is_wrong w n k c.args.kind (world_lane lane) ≡ true = or_right _ _ other in
          has_stayed self c.then-lane.self replies.Refused _ c.requires.whole (v.self-is ∙ lent_stays self ms n e lent)
          (bars_refused w n k c.args.kind (world_lane lane) (lent_is self ms n e lent channel.0 channel.1) wrong)
    ]

pub returns-then-spare-eq0 : goal.returns-then-spare-eq0
returns-then-spare-eq0 c =
    let self = c.args.self.now in
    let ms = c.as_mut_slice.result.now in
    let e = c.index-as_mut_slice-c.result in
    let n = c.args.c in
    let k = c.args.k in
    let lent = c.as_mut_slice.ensures.value in
    let channel = c.requires.channel in
    let lane = get_or ms (n - 1) e in
    let here = lent_whole self ms n e lent channel.0 channel.1 c.requires.whole in
    let same : not (eqb k (suc lane.barriers)) ≡ false = ap not (sym (next_is c.checked_sub.result k lane.barriers c.checked_sub.ensures)) ∙ sym c.ne.ensures ∙ c.if-ne.false in
    let right : is_wrong (world_of self) n k c.args.kind (world_lane lane) ≡ false = or_from _ _ c.if-lane.false same in
    let many : ITEMS_MAX ≤ length (world_lane lane).items = omega (arith, c.spare.ensures, c.if-spare-eq0.true, here.room, items_count lane) in
    has_stayed self _ replies.Full _ c.requires.whole (lent_stays self ms n e lent)
    (bars_full (world_of self) n k c.args.kind (world_lane lane) (lent_is self ms n e lent channel.0 channel.1) right (le-ltb _ _ many))

pub tell-requires-clause-known : goal.tell-requires-clause-known
tell-requires-clause-known c = is_known c.args.self.now c.args.c c.requires.whole c.requires.channel.0 c.requires.channel.1

pub returns : goal.returns
returns c =
    let self = c.args.self.now in
    let ms = c.as_mut_slice.result.now in
    let e = c.index-as_mut_slice-c.result in
    let n = c.args.c in
    let k = c.args.k in
    let kind = c.args.kind in
    let lent = c.as_mut_slice.ensures.value in
    let channel = c.requires.channel in
    let lane = get_or ms (n - 1) e in
    let after = c.put_barrier.new.lane in
    let here = lent_whole self ms n e lent channel.0 channel.1 c.requires.whole in
    let is = lent_is self ms n e lent channel.0 channel.1 in
    let put : world_lane after ≡ barred k kind (world_lane lane) = ap world_lane c.in_ok-reply.ensures.lane ∙ barrier_put lane k kind in
    let same : not (eqb k (suc lane.barriers)) ≡ false = ap not (sym (next_is c.checked_sub.result k lane.barriers c.checked_sub.ensures)) ∙ sym c.ne.ensures ∙ c.if-ne.false in
    let right : is_wrong (world_of self) n k kind (world_lane lane) ≡ false = or_from _ _ c.if-lane.false same in
    let next : k ≡ suc lane.barriers = eqb-true _ _ (not-false _ same) in
    let some : 1 ≤ k = omega (arith, next) in
    let low : k < 2 ^ 64 = c.ranges.k.fits in
    let few : length (world_lane lane).items < ITEMS_MAX = omega (arith, c.spare.ensures, c.if-spare-eq0.false, here.room, items_count lane) in
    let done = bars_done (world_of self) n k kind (world_lane lane) is right (lt-ltb _ _ few) in
    put_acted self _ c.tell.new.readers n after c.in_ok-reply.reply (bars (world_of self) n k kind) c.requires.whole channel.0 channel.1
    (refilled_set self.lanes.items ms (n - 1) _ lent) (barrier_at self.pool self.partition_limit lane here k kind after c.in_ok-reply.ensures.lane)
    (ap (λ (l : Lane). l.inbox) put ∙ barred_inbox k kind (world_lane lane) ∙ sym (ap (λ (l : Lane). l.inbox) is)) c.tell.ensures
    (done ∙ ap (λ l. (puts (world_of self) n l, bar_reply n k kind (world_lane lane))) (sym put) ∙ ap (λ r. (puts (world_of self) n (world_lane after), r)) (sym c.in_ok-reply.ensures.reply))
    (c.connections_stay_sound.ensures.steps (length self.lanes.items) (world_of self) (events.Barrier n k kind) c.requires.whole.sound (channel, some, low))
