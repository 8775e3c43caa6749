use Rattle.std.proofs.Common.{rules, ◌≡◌, ◌-◌, ◌<◌, ◌∷◌, map, length, get_or, refl, sym, ap, subst, ◌∙◌, arith}
use Rattle.std.proofs.lemmas.List.{length-map}
use Rattle.flow_defs.specs.declared.parcel.Parcel.{Parcel}
use Rattle.flow_defs.proofs.Lists.{refilled_set}
use Rattle.local_pool.specs.Locals.{lent_of, limit_of}
use Rattle.input_channel.specs.declared.entry.ReceiveEntry.TheVariants as entries
use Rattle.input_channel.specs.Answers.{parcel_in, refused}
use Rattle.input_channel.specs.States.{ChannelState, channel_next}
use Rattle.script_text.specs.declared.event.Event.TheVariants as events
use Rattle.script_text.specs.declared.reply.Reply.TheVariants as replies
use Rattle.script_text.specs.declared.reply.Reply.{Reply}
use Rattle.exchange_world.specs.Lanes.{floating_here}
use Rattle.exchange_world.specs.Lanes as lanes
use Rattle.exchange_world.specs.Worlds.{World, gate_limit}
use Rattle.exchange_world.specs.Steps.{delivers}
use Rattle.exchange_core.specs.declared.lane.Lane.{Lane}
use Rattle.exchange_core.specs.declared.frames.DataFrame.TheVariants as data_frames
use Rattle.exchange_core.specs.Exchanges.{brought, world_of, world_lane, world_frame}
use Rattle.exchange_core.specs.Inlets.{GateFollows, with_floats}
use Rattle.exchange_core.proofs.Floats.{owed_with}
use Rattle.exchange_core.proofs.Arriving.{parcel_same, floating_pushed, response_first, announcement_first, response_channel, announcement_channel, response_accepted}
use Rattle.exchange_core.proofs.Inlets.{old_is, old_lane, lane_now, lane_in, put_as, acts, inbox_size}
use Rattle.exchange_core.proofs.InletSteps.{asks_received}
use Rattle.exchange_core.proofs.connection.Connection.deliver.Goals as goal

pub take_arrival-requires-clause-size : goal.take_arrival-requires-clause-size
take_arrival-requires-clause-size g c =
    let b = c.args.self.now in
    let f = c.in-Some-Response in
    let i = f.c - 1 in
    let first : b.frames.items ≡ data_frames.Response f.c f.sequence f.backlog f.what f.content ∷ c.pop_front.new.self.items = search rules in
    let at = response_channel b c.requires c.pop_front.new.self.items f.c f.sequence f.backlog f.what f.content first in
    let low = at.0 in
    let high = at.1 in
    inbox_size b f.c (get_or c.as_mut_slice.result.now i c.index-as_mut_slice-c.result) low high (old_is b.lanes.items c.as_mut_slice.result.now i c.index-as_mut_slice-c.result c.as_mut_slice.ensures.value (omega (arith, low, high))) c.requires

pub take_arrival-requires-clause-accepted : goal.take_arrival-requires-clause-accepted
take_arrival-requires-clause-accepted g c =
    let b = c.args.self.now in
    let f = c.in-Some-Response in
    let i = f.c - 1 in
    let old : Lane = get_or c.as_mut_slice.result.now i c.index-as_mut_slice-c.result in
    let first : b.frames.items ≡ data_frames.Response f.c f.sequence f.backlog f.what f.content ∷ c.pop_front.new.self.items = search rules in
    let at = response_channel b c.requires c.pop_front.new.self.items f.c f.sequence f.backlog f.what f.content first in
    let low = at.0 in
    let high = at.1 in
    let is = old_is b.lanes.items c.as_mut_slice.result.now i c.index-as_mut_slice-c.result c.as_mut_slice.ensures.value (omega (arith, low, high)) in
    ap (refused old.inbox (record { sequence = f.sequence; backlog = f.backlog; what = f.what })) c.as_slice.ensures
    ∙ response_accepted b c.requires c.pop_front.new.self.items c.sound_takes_and_lends.ensures.takes f.c f.sequence f.backlog f.what f.content old first low high is

pub ask_floats-requires-clause-size : goal.ask_floats-requires-clause-size
ask_floats-requires-clause-size g c =
    let b = c.args.self.now in
    let f = c.in-Some-Announcement in
    let i = f.c - 1 in
    let xs = c.as_mut_slice-in-Some-Announcement.result.now in
    let item = c.index-as_mut_slice-c-in-Some-Announcement.result in
    let first : b.frames.items ≡ data_frames.Announcement f.c f.n ∷ c.pop_front.new.self.items = search rules in
    let at = announcement_channel b c.requires c.pop_front.new.self.items f.c f.n first in
    let low = at.0 in
    let high = at.1 in
    ap (λ (s : ChannelState). s.size) c.on_backlog.ensures
    ∙ inbox_size b f.c (get_or xs i item) low high (old_is b.lanes.items xs i item c.as_mut_slice-in-Some-Announcement.ensures.value (omega (arith, low, high))) c.requires

pub returns-in_ok-take_arrival-in-Some-Response : goal.returns-in_ok-take_arrival-in-Some-Response
returns-in_ok-take_arrival-in-Some-Response g c =
    let b = c.args.self.now in
    let w = world_of b in
    let f = c.in-Some-Response in
    let i = f.c - 1 in
    let xs = c.as_mut_slice.result.now in
    let item = c.index-as_mut_slice-c.result in
    let rest = c.pop_front.new.self.items in
    let old : Lane = get_or xs i item in
    let inbox : ChannelState = c.take_arrival.new.inbox in
    let lane : Lane = record old { inbox = inbox } in
    let first : b.frames.items ≡ data_frames.Response f.c f.sequence f.backlog f.what f.content ∷ rest = search rules in
    let at = response_channel b c.requires rest f.c f.sequence f.backlog f.what f.content first in
    let low = at.0 in
    let high = at.1 in
    let within : i < length b.lanes.items = omega (arith, low, high) in
    let is = old_is b.lanes.items xs i item c.as_mut_slice.ensures.value within in
    let of = old_lane b f.c old low high is c.requires in
    let here = lane_now b f.c old low high is in
    let p : Parcel = brought f.what f.content.items in
    let came : ChannelState = channel_next old.inbox (entries.Push p f.backlog) in
    let brings : channel_next old.inbox (entries.Push (parcel_in f.what c.as_slice.result.now) f.backlog) ≡ came = ap (λ (q : Parcel). channel_next old.inbox (entries.Push q f.backlog)) (ap (parcel_in f.what) c.as_slice.ensures ∙ parcel_same f.what f.content.items) in
    let told = c.in_ok-take_arrival-in-Some-Response.ensures in
    let inbox_is : inbox ≡ with_floats (limit_of b.gate) (lent_of b.gate) came = told.inbox ∙ ap (with_floats (limit_of b.gate) (lent_of b.gate)) brings in
    let stays : floating_here came ≡ floating_here old.inbox = floating_pushed old.inbox p f.backlog in
    acts b _ events.Deliver i old lane (replies.Accepted f.c f.sequence) c.connections_stay_sound.ensures.steps c.requires tt within is
    (record { pool = refl; size = refl; total = refl; limit = refl; readers = refl; lanes = refilled_set b.lanes.items xs i lane c.as_mut_slice.ensures.value })
    (lane_in b.pool b.partition_limit old inbox old.owed old.reader of (of.owed ∙ sym (ap (λ (s : ChannelState). s.owed) inbox_is ∙ owed_with (limit_of b.gate) (lent_of b.gate) came)))
    (subst (λ n. GateFollows b.pool b.gate c.take_arrival.new.gate n (floating_here inbox)) (ap floating_here brings ∙ stays) told.gate)
    (ap (delivers w) (response_first b c.requires rest f.c f.sequence f.backlog f.what f.content first)
    ∙ ap (λ (v : World). let d : World × Reply = (v, replies.Accepted f.c f.sequence) in d)
    (asks_received (record w { frames = map world_frame rest }) f.c (world_lane old) (entries.Push p f.backlog) low (omega (arith, high, length-map b.lanes.items world_lane)) here stays)
    ∙ put_as b rest b.controls.items i lane _ _ _ (replies.Accepted f.c f.sequence) (sym (
    ap (λ (s : ChannelState). let l : lanes.Lane = record (world_lane old) { inbox = s } in l)
    (inbox_is ∙ ap (λ n. with_floats n (lent_of b.gate) came) c.requires.gate_limit_is ∙ ap (λ n. with_floats (gate_limit w) n came) c.requires.gate_lent_is))) refl refl)

pub returns-in-Some-Announcement : goal.returns-in-Some-Announcement
returns-in-Some-Announcement g c =
    let b = c.args.self.now in
    let w = world_of b in
    let f = c.in-Some-Announcement in
    let i = f.c - 1 in
    let xs = c.as_mut_slice-in-Some-Announcement.result.now in
    let item = c.index-as_mut_slice-c-in-Some-Announcement.result in
    let xs_are = c.as_mut_slice-in-Some-Announcement.ensures.value in
    let rest = c.pop_front.new.self.items in
    let old : Lane = get_or xs i item in
    let inbox : ChannelState = c.ask_floats.new.inbox in
    let lane : Lane = record old { inbox = inbox } in
    let first : b.frames.items ≡ data_frames.Announcement f.c f.n ∷ rest = search rules in
    let at = announcement_channel b c.requires rest f.c f.n first in
    let low = at.0 in
    let high = at.1 in
    let within : i < length b.lanes.items = omega (arith, low, high) in
    let is = old_is b.lanes.items xs i item xs_are within in
    let of = old_lane b f.c old low high is c.requires in
    let here = lane_now b f.c old low high is in
    let came : ChannelState = channel_next old.inbox (entries.Backlog f.n) in
    let brings : c.on_backlog.new.self ≡ came = c.on_backlog.ensures in
    let inbox_is : inbox ≡ with_floats (limit_of b.gate) (lent_of b.gate) came = c.ask_floats.ensures.inbox ∙ ap (with_floats (limit_of b.gate) (lent_of b.gate)) brings in
    acts b _ events.Deliver i old lane (replies.Backlog f.c f.n) c.connections_stay_sound.ensures.steps c.requires tt within is
    (record { pool = refl; size = refl; total = refl; limit = refl; readers = refl; lanes = refilled_set b.lanes.items xs i lane xs_are })
    (lane_in b.pool b.partition_limit old inbox old.owed old.reader of (of.owed ∙ sym (ap (λ (s : ChannelState). s.owed) inbox_is ∙ owed_with (limit_of b.gate) (lent_of b.gate) came)))
    (subst (λ n. GateFollows b.pool b.gate c.ask_floats.new.gate n (floating_here inbox)) (ap floating_here brings) c.ask_floats.ensures.gate)
    (ap (delivers w) (announcement_first b c.requires rest f.c f.n first)
    ∙ ap (λ (v : World). let d : World × Reply = (v, replies.Backlog f.c f.n) in d)
    (asks_received (record w { frames = map world_frame rest }) f.c (world_lane old) (entries.Backlog f.n) low (omega (arith, high, length-map b.lanes.items world_lane)) here refl)
    ∙ put_as b rest b.controls.items i lane _ _ _ (replies.Backlog f.c f.n) (sym (
    ap (λ (s : ChannelState). let l : lanes.Lane = record (world_lane old) { inbox = s } in l)
    (inbox_is ∙ ap (λ n. with_floats n (lent_of b.gate) came) c.requires.gate_limit_is ∙ ap (λ n. with_floats (gate_limit w) n came) c.requires.gate_lent_is))) refl refl)
