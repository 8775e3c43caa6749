use Rattle.std.proofs.Common.{rules, ◌≡◌, ◌-◌, ◌<◌, [], ◌∷◌, ◌++◌, map, length, get_or, refl, sym, ap, ◌∙◌, arith}
use Rattle.std.proofs.lemmas.List.{map-append}
use Rattle.input_channel.specs.declared.entry.ReceiveEntry.TheVariants as entries
use Rattle.input_channel.specs.Counts.{told}
use Rattle.input_channel.specs.States.{ChannelState, channel_next}
use Rattle.script_text.specs.declared.event.Event.TheVariants as events
use Rattle.script_text.specs.declared.reply.Reply.TheVariants as replies
use Rattle.exchange_world.specs.Lanes.{floating_here}
use Rattle.exchange_world.specs.Lanes as lanes
use Rattle.exchange_core.specs.declared.lane.Lane.{Lane}
use Rattle.exchange_core.specs.declared.frames.ControlFrame.TheVariants as control_frames
use Rattle.exchange_core.specs.Exchanges.{world_of, world_lane, world_control}
use Rattle.exchange_core.proofs.Inlets.{old_is, old_lane, lane_now, lane_in, gate_same, put_as, kept_as, acts}
use Rattle.exchange_core.proofs.InletSteps.{credits_some, credits_none}
use Rattle.exchange_core.proofs.connection.Connection.announce_credit.Goals as goal
use Rattle.flow_defs.proofs.Lists.{refilled_set}

pub returns : goal.returns
returns c =
    let b = c.args.self.now in
    let i = c.args.c - 1 in
    let n = c.take_credit-n.result in
    let inbox = c.take_credit-n.new.self in
    let old : Lane = get_or c.as_mut_slice.result.now i c.index-as_mut_slice-c.result in
    let lane : Lane = record old { inbox = inbox } in
    let low = c.requires.channel.0 in
    let high = c.requires.channel.1 in
    let within : i < length b.lanes.items = omega (arith, low, high) in
    let is = old_is b.lanes.items c.as_mut_slice.result.now i c.index-as_mut_slice-c.result c.as_mut_slice.ensures.value within in
    let of = old_lane b c.args.c old low high is c.requires.whole in
    let here = lane_now b c.args.c old low high is in
    let inbox_is : inbox ≡ channel_next old.inbox (entries.Credit n) = c.take_credit-n.ensures.channel in
    let told_is : n ≡ told old.inbox.counts = c.take_credit-n.ensures.told in
    let pushed : c.push_back.new.self.items ≡ b.controls.items ++ control_frames.AddCredit c.args.c n ∷ [] = search rules in
    acts b _ (events.Credit c.args.c) i old lane (replies.Credit c.args.c n) c.connections_stay_sound.ensures.steps c.requires.whole c.requires.channel within is
    (record { pool = refl; size = refl; total = refl; limit = refl; readers = refl; lanes = refilled_set b.lanes.items c.as_mut_slice.result.now i lane c.as_mut_slice.ensures.value })
    (lane_in b.pool b.partition_limit old inbox old.owed old.reader of (of.owed ∙ sym (ap (λ (s : ChannelState). s.owed) inbox_is)))
    (gate_same b.pool b.gate (floating_here old.inbox) (floating_here inbox) c.requires.whole.gate (sym (ap floating_here inbox_is)))
    (credits_some (world_of b) c.args.c n (world_lane old) here told_is c.if-n-eq0.false
    ∙ put_as b b.frames.items c.push_back.new.self.items i lane _ _ _ (replies.Credit c.args.c n) (ap (λ (s : ChannelState). let l : lanes.Lane = record (world_lane old) { inbox = s } in l) (sym inbox_is)) refl
    (sym (ap (map world_control) pushed ∙ map-append world_control b.controls.items (control_frames.AddCredit c.args.c n ∷ []))))

pub returns-then-n-eq0 : goal.returns-then-n-eq0
returns-then-n-eq0 c =
    let b = c.args.self.now in
    let i = c.args.c - 1 in
    let n = c.take_credit-n.result in
    let inbox = c.take_credit-n.new.self in
    let old : Lane = get_or c.as_mut_slice.result.now i c.index-as_mut_slice-c.result in
    let lane : Lane = record old { inbox = inbox } in
    let low = c.requires.channel.0 in
    let high = c.requires.channel.1 in
    let within : i < length b.lanes.items = omega (arith, low, high) in
    let is = old_is b.lanes.items c.as_mut_slice.result.now i c.index-as_mut_slice-c.result c.as_mut_slice.ensures.value within in
    let of = old_lane b c.args.c old low high is c.requires.whole in
    let here = lane_now b c.args.c old low high is in
    let inbox_is : inbox ≡ old.inbox = c.take_credit-n.ensures.none c.if-n-eq0.true in
    let told_is : n ≡ told old.inbox.counts = c.take_credit-n.ensures.told in
    acts b _ (events.Credit c.args.c) i old lane replies.Absent c.connections_stay_sound.ensures.steps c.requires.whole c.requires.channel within is
    (record { pool = refl; size = refl; total = refl; limit = refl; readers = refl; lanes = refilled_set b.lanes.items c.as_mut_slice.result.now i lane c.as_mut_slice.ensures.value })
    (lane_in b.pool b.partition_limit old inbox old.owed old.reader of (of.owed ∙ sym (ap (λ (s : ChannelState). s.owed) inbox_is)))
    (gate_same b.pool b.gate (floating_here old.inbox) (floating_here inbox) c.requires.whole.gate (sym (ap floating_here inbox_is)))
    (credits_none (world_of b) c.args.c n (world_lane old) here told_is c.if-n-eq0.true
    ∙ kept_as b b.frames.items b.controls.items i lane _ replies.Absent (here ∙ ap (λ (s : ChannelState). let l : lanes.Lane = record (world_lane old) { inbox = s } in l) (sym inbox_is)) refl refl)
