use Rattle.std.proofs.Common.{◌-◌, ◌<◌, Option, Result, Ok, Err, IfOk, length, get_or, refl, sym, ap, subst, ◌∙◌, arith}
use Rattle.std.proofs.lemmas.List.{length-map}
use Rattle.flow_defs.specs.declared.parcel.Parcel.{Parcel}
use Rattle.flow_defs.proofs.Lists.{refilled_set}
use Rattle.local_pool.specs.Locals.{lent_of, limit_of}
use Rattle.input_channel.specs.Inboxes.{poll_gives}
use Rattle.script_text.specs.declared.reply.Reply.{Reply}
use Rattle.exchange_world.specs.Lanes.{floating_here}
use Rattle.exchange_world.specs.Lanes as lanes
use Rattle.exchange_world.specs.Worlds.{World, gate_limit}
use Rattle.exchange_world.specs.Steps.{polls, polls_item}
use Rattle.exchange_core.specs.declared.lane.Lane.{Lane}
use Rattle.exchange_core.specs.Exchanges.{world_of, world_lane, IsLaneOf}
use Rattle.exchange_core.specs.Inlets.{with_inbox, polled_inbox, polled_rest, polled_reply}
use Rattle.exchange_core.proofs.Inlets.{old_is, old_lane, lane_now, lane_with, put_as, put_world, acts_as, inbox_size, inbox_line, owed_few, lent_enough}
use Rattle.exchange_core.proofs.InletSteps.{polls_is, polls_sound}
use Rattle.exchange_core.proofs.connection.Connection.poll.Goals as goal

on_ok : {X E : Type 0} (r : Result X E) (A B C Q : X → Type 0) → IfOk r A → IfOk r B → IfOk r C → ((x : X) → A x → B x → C x → Q x) → IfOk r Q
on_ok (Ok x) A B C Q a b c f = f x a b c
on_ok (Err e) A B C Q a b c f = tt

pub poll_lane-requires-clause-size : goal.poll_lane-requires-clause-size
poll_lane-requires-clause-size g c =
    let b = c.args.self.now in
    let i = c.args.c - 1 in
    let low = c.requires.channel.0 in
    let high = c.requires.channel.1 in
    inbox_size b c.args.c (get_or c.as_mut_slice.result.now i c.index-as_mut_slice-c.result) low high (old_is b.lanes.items c.as_mut_slice.result.now i c.index-as_mut_slice-c.result c.as_mut_slice.ensures.value (omega (arith, low, high))) c.requires.whole

pub poll_lane-requires-clause-few : goal.poll_lane-requires-clause-few
poll_lane-requires-clause-few g c =
    let b = c.args.self.now in
    let i = c.args.c - 1 in
    let low = c.requires.channel.0 in
    let high = c.requires.channel.1 in
    let few = owed_few b c.args.c (get_or c.as_mut_slice.result.now i c.index-as_mut_slice-c.result) low high (old_is b.lanes.items c.as_mut_slice.result.now i c.index-as_mut_slice-c.result c.as_mut_slice.ensures.value (omega (arith, low, high))) c.requires.whole in
    omega (arith, few)

pub poll_lane-requires-clause-line : goal.poll_lane-requires-clause-line
poll_lane-requires-clause-line g c =
    let b = c.args.self.now in
    let i = c.args.c - 1 in
    let low = c.requires.channel.0 in
    let high = c.requires.channel.1 in
    inbox_line b c.args.c (get_or c.as_mut_slice.result.now i c.index-as_mut_slice-c.result) low high (old_is b.lanes.items c.as_mut_slice.result.now i c.index-as_mut_slice-c.result c.as_mut_slice.ensures.value (omega (arith, low, high))) c.requires.whole

pub poll_lane-requires-clause-lent : goal.poll_lane-requires-clause-lent
poll_lane-requires-clause-lent g c =
    let b = c.args.self.now in
    let i = c.args.c - 1 in
    let low = c.requires.channel.0 in
    let high = c.requires.channel.1 in
    lent_enough b c.args.c (get_or c.as_mut_slice.result.now i c.index-as_mut_slice-c.result) low high (old_is b.lanes.items c.as_mut_slice.result.now i c.index-as_mut_slice-c.result c.as_mut_slice.ensures.value (omega (arith, low, high))) c.requires.whole

pub returns : goal.returns
returns g c =
    let b = c.args.self.now in
    let w = world_of b in
    let i = c.args.c - 1 in
    let hold = c.args.hold in
    let old : Lane = get_or c.as_mut_slice.result.now i c.index-as_mut_slice-c.result in
    let lane : Lane = c.poll_lane.new.lane in
    let low = c.requires.channel.0 in
    let high = c.requires.channel.1 in
    let within : i < length b.lanes.items = omega (arith, low, high) in
    let is = old_is b.lanes.items c.as_mut_slice.result.now i c.index-as_mut_slice-c.result c.as_mut_slice.ensures.value within in
    let of = old_lane b c.args.c old low high is c.requires.whole in
    let here = lane_now b c.args.c old low high is in
    let p : Option Parcel = poll_gives hold old.inbox.queue in
    let rest = polled_rest old.reader p in
    on_ok c.poll_lane.result _ _ _ _ c.poll_lane.ensures.gate c.poll_lane.ensures.lane c.poll_lane.ensures.reply (
    λ reply gate lane_is reply_is.
    acts_as b _ (polls w c.args.c hold) i old lane reply c.requires.whole (polls_sound (length b.lanes.items) w c.args.c hold c.connections_stay_sound.ensures.steps c.requires.whole.sound c.requires.channel) within is
    (record { pool = refl; size = refl; total = refl; limit = refl; readers = refl; lanes = refilled_set b.lanes.items c.as_mut_slice.result.now i lane c.as_mut_slice.ensures.value })
    (subst (IsLaneOf b.pool b.partition_limit) (sym lane_is) (lane_with b.pool b.partition_limit old (polled_inbox (limit_of b.gate) (lent_of b.gate) hold old.inbox p) rest of))
    gate
    (ap (λ (l : lanes.Lane). polls_item w c.args.c hold (poll_gives hold l.inbox.queue)) here
    ∙ polls_is w c.args.c (world_lane old) low (omega (arith, high, length-map b.lanes.items world_lane)) here hold p
    ∙ put_as b b.frames.items b.controls.items i lane _ _ _ (polled_reply c.args.c old.inbox old.reader p) (sym (
    ap world_lane lane_is
    ∙ ap (λ n. world_lane (with_inbox old (polled_inbox n (lent_of b.gate) hold old.inbox p) rest)) c.requires.whole.gate_limit_is
    ∙ ap (λ n. world_lane (with_inbox old (polled_inbox (gate_limit w) n hold old.inbox p) rest)) c.requires.whole.gate_lent_is)) refl refl
    ∙ ap (λ (r : Reply). let d : World × Reply = (put_world b i lane b.frames.items b.controls.items, r) in d) (sym reply_is)))
