use Rattle.std.proofs.Common.{rules, ◌≡◌, ◌-◌, ◌<◌, [], ◌∷◌, ◌++◌, map, length, get_or, refl, sym, ap, subst, ◌∙◌, arith}
use Rattle.std.proofs.lemmas.List.{map-append, length-map}
use Rattle.input_channel.specs.declared.entry.ReceiveEntry.TheVariants as entries
use Rattle.input_channel.specs.States.{ChannelState, channel_next}
use Rattle.script_text.specs.declared.event.Event.TheVariants as events
use Rattle.script_text.specs.declared.reply.Reply.TheVariants as replies
use Rattle.exchange_world.specs.Lanes.{floating_here}
use Rattle.exchange_core.specs.declared.lane.Lane.{Lane}
use Rattle.exchange_core.specs.declared.frames.ControlFrame.TheVariants as control_frames
use Rattle.exchange_core.specs.Exchanges.{world_of, world_lane, world_control, IsLaneOf}
use Rattle.exchange_core.specs.Inlets.{with_inbox}
use Rattle.exchange_core.proofs.Inlets.{old_is, old_lane, lane_now, lane_with, gate_same, put_as, kept_as, acts}
use Rattle.exchange_core.proofs.InletSteps.{resumes_some, resumes_none}
use Rattle.exchange_core.proofs.connection.Connection.resume.Goals as goal
use Rattle.flow_defs.proofs.Lists.{refilled_set}

pub returns : goal.returns
returns c =
    let b = c.args.self.now in
    let i = c.args.c - 1 in
    let old : Lane = get_or c.as_mut_slice.result.now i c.index-as_mut_slice-c.result in
    let lane : Lane = c.resume_lane.new.lane in
    let low = c.requires.channel.0 in
    let high = c.requires.channel.1 in
    let within : i < length b.lanes.items = omega (arith, low, high) in
    let is = old_is b.lanes.items c.as_mut_slice.result.now i c.index-as_mut_slice-c.result c.as_mut_slice.ensures.value within in
    let of = old_lane b c.args.c old low high is c.requires.whole in
    let here = lane_now b c.args.c old low high is in
    let inbox : ChannelState = channel_next (channel_next old.inbox entries.Ask) entries.Resume in
    let lane_is : lane ≡ with_inbox old inbox old.reader = c.resume_lane.ensures in
    let pushed : c.push_back.new.self.items ≡ b.controls.items ++ control_frames.Resumption c.args.c ∷ [] = search rules in
    acts b _ (events.Resume c.args.c) i old lane replies.Done c.connections_stay_sound.ensures.steps c.requires.whole c.requires.channel within is
    (record { pool = refl; size = refl; total = refl; limit = refl; readers = refl; lanes = refilled_set b.lanes.items c.as_mut_slice.result.now i lane c.as_mut_slice.ensures.value })
    (subst (IsLaneOf b.pool b.partition_limit) (sym lane_is) (lane_with b.pool b.partition_limit old inbox old.reader of))
    (gate_same b.pool b.gate (floating_here old.inbox) (floating_here lane.inbox) c.requires.whole.gate (sym (ap (λ (l : Lane). floating_here l.inbox) lane_is)))
    (resumes_some (world_of b) c.args.c (world_lane old) low (omega (arith, high, length-map b.lanes.items world_lane)) here (λ none. c.if-lane-eq0.false (of.owed ∙ none))
    ∙ put_as b b.frames.items c.push_back.new.self.items i lane _ _ _ replies.Done (sym (ap world_lane lane_is)) refl
    (sym (ap (map world_control) pushed ∙ map-append world_control b.controls.items (control_frames.Resumption c.args.c ∷ []))))

pub returns-then-lane-eq0 : goal.returns-then-lane-eq0
returns-then-lane-eq0 c =
    let b = c.args.self.now in
    let i = c.args.c - 1 in
    let old : Lane = get_or c.as_mut_slice.result.now i c.index-as_mut_slice-c.result in
    let low = c.requires.channel.0 in
    let high = c.requires.channel.1 in
    let within : i < length b.lanes.items = omega (arith, low, high) in
    let is = old_is b.lanes.items c.as_mut_slice.result.now i c.index-as_mut_slice-c.result c.as_mut_slice.ensures.value within in
    let of = old_lane b c.args.c old low high is c.requires.whole in
    let here = lane_now b c.args.c old low high is in
    acts b _ (events.Resume c.args.c) i old old replies.Refused c.connections_stay_sound.ensures.steps c.requires.whole c.requires.channel within is
    (record { pool = refl; size = refl; total = refl; limit = refl; readers = refl; lanes = refilled_set b.lanes.items c.as_mut_slice.result.now i old c.as_mut_slice.ensures.value })
    of
    (gate_same b.pool b.gate (floating_here old.inbox) (floating_here old.inbox) c.requires.whole.gate refl)
    (resumes_none (world_of b) c.args.c (world_lane old) here (sym of.owed ∙ c.if-lane-eq0.true)
    ∙ kept_as b b.frames.items b.controls.items i old _ replies.Refused here refl refl)
