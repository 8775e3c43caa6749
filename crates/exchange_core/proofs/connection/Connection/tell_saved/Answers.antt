use Rattle.std.proofs.Common.{rules, ◌≡◌, ◌-◌, ◌<◌, ◌≤◌, ◌^◌, eqb, not, true, false, Some, length, get_or, refl, sym, ap, subst, ◌∙◌, arith}
use Rattle.std.specs.Option.{option_eq}
use Rattle.std.proofs.lemmas.Bool.{not-false, not-true}
use Rattle.std.proofs.lemmas.List.{length-map}
use Rattle.flow_defs.proofs.Lists.{refilled_set}
use Rattle.input_channel.specs.declared.entry.ReceiveEntry.TheVariants as entries
use Rattle.input_channel.specs.Answers.{GivesSaved}
use Rattle.input_channel.specs.States.{ChannelState, IsOpen, channel_next}
use Rattle.script_text.specs.declared.event.Event.TheVariants as events
use Rattle.script_text.specs.declared.reply.Reply.{Reply}
use Rattle.script_text.specs.declared.reply.Reply.TheVariants as replies
use Rattle.exchange_world.specs.Lanes as lanes
use Rattle.exchange_world.specs.Lanes.{floating_here}
use Rattle.exchange_world.specs.Worlds.{World}
use Rattle.exchange_core.specs.declared.lane.Lane.{Lane}
use Rattle.exchange_core.specs.Exchanges.{world_of, world_lane, IsLaneOf}
use Rattle.exchange_core.proofs.Inlets.{old_is, old_lane, lane_now, lane_in, gate_same, put_as, put_world, kept_as, acts}
use Rattle.exchange_core.proofs.InletSteps.{tells_early, tells_done}
use Rattle.exchange_core.proofs.Saves.{number_in, is_open, tells_refused}
use Rattle.exchange_core.proofs.connection.Connection.tell_saved.Goals as goal

pub saved-requires : goal.saved-requires
saved-requires c =
    let old : Lane = get_or c.as_mut_slice.result.now (c.args.c - 1) c.index-as_mut_slice-c.result in
    let this : option_eq eqb (number_in old.inbox.save) (Some c.args.k) ≡ true =
    ap (λ n. option_eq eqb n (Some c.args.k)) (sym c.open_number.ensures) ∙ not-false (option_eq eqb c.open_number.result (Some c.args.k)) (sym c.ne.ensures ∙ c.if-ne.false) in
    is_open old.inbox c.args.k old.inbox.save refl this

pub returns-then-ne : goal.returns-then-ne
returns-then-ne c =
    let b = c.args.self.now in
    let i = c.args.c - 1 in
    let k = c.args.k in
    let old : Lane = get_or c.as_mut_slice.result.now i c.index-as_mut_slice-c.result in
    let low = c.requires.channel.0 in
    let high = c.requires.channel.1 in
    let within : i < length b.lanes.items = omega (arith, low, high) in
    let fits : k < 2 ^ 64 = c.ranges.k.fits in
    let is = old_is b.lanes.items c.as_mut_slice.result.now i c.index-as_mut_slice-c.result c.as_mut_slice.ensures.value within in
    let of = old_lane b c.args.c old low high is c.requires.whole in
    let here = lane_now b c.args.c old low high is in
    let other : option_eq eqb (number_in old.inbox.save) (Some k) ≡ false =
    ap (λ n. option_eq eqb n (Some k)) (sym c.open_number.ensures) ∙ not-true (option_eq eqb c.open_number.result (Some k)) (sym c.ne.ensures ∙ c.if-ne.true) in
    acts b _ (events.Saved c.args.c k) i old old replies.Refused c.connections_stay_sound.ensures.steps c.requires.whole (c.requires.channel, c.requires.number, fits) within is
    (record { pool = refl; size = refl; total = refl; limit = refl; readers = refl; lanes = refilled_set b.lanes.items c.as_mut_slice.result.now i old c.as_mut_slice.ensures.value })
    of
    (gate_same b.pool b.gate (floating_here old.inbox) (floating_here old.inbox) c.requires.whole.gate refl)
    (tells_refused (world_of b) c.args.c k (world_lane old) here old.inbox.save refl other
    ∙ kept_as b b.frames.items b.controls.items i old _ replies.Refused here refl refl)

pub returns-in-None : goal.returns-in-None
returns-in-None c =
    let b = c.args.self.now in
    let i = c.args.c - 1 in
    let k = c.args.k in
    let old : Lane = get_or c.as_mut_slice.result.now i c.index-as_mut_slice-c.result in
    let low = c.requires.channel.0 in
    let high = c.requires.channel.1 in
    let within : i < length b.lanes.items = omega (arith, low, high) in
    let fits : k < 2 ^ 64 = c.ranges.k.fits in
    let is = old_is b.lanes.items c.as_mut_slice.result.now i c.index-as_mut_slice-c.result c.as_mut_slice.ensures.value within in
    let of = old_lane b c.args.c old low high is c.requires.whole in
    let here = lane_now b c.args.c old low high is in
    let open_one : IsOpen old.inbox k = search rules in
    let early : old.inbox.last < k = search rules in
    let inbox = c.saved.new.self in
    let same : inbox ≡ old.inbox = search rules in
    let lane : Lane = record old { inbox = inbox } in
    acts b _ (events.Saved c.args.c k) i old lane (replies.NotYet c.args.c k) c.connections_stay_sound.ensures.steps c.requires.whole (c.requires.channel, c.requires.number, fits) within is
    (record { pool = refl; size = refl; total = refl; limit = refl; readers = refl; lanes = refilled_set b.lanes.items c.as_mut_slice.result.now i lane c.as_mut_slice.ensures.value })
    (lane_in b.pool b.partition_limit old inbox old.owed old.reader of (of.owed ∙ ap (λ (s : ChannelState). s.owed) (sym same)))
    (gate_same b.pool b.gate (floating_here old.inbox) (floating_here inbox) c.requires.whole.gate (ap floating_here (sym same)))
    (tells_early (world_of b) c.args.c k (world_lane old) here open_one.0 open_one.1 open_one.2 early
    ∙ kept_as b b.frames.items b.controls.items i lane _ (replies.NotYet c.args.c k) (here ∙ ap (λ (s : ChannelState). let l : lanes.Lane = record (world_lane old) { inbox = s } in l) (sym same)) refl refl)

pub returns-in-Some : goal.returns-in-Some
returns-in-Some c =
    let b = c.args.self.now in
    let i = c.args.c - 1 in
    let k = c.args.k in
    let old : Lane = get_or c.as_mut_slice.result.now i c.index-as_mut_slice-c.result in
    let low = c.requires.channel.0 in
    let high = c.requires.channel.1 in
    let within : i < length b.lanes.items = omega (arith, low, high) in
    let fits : k < 2 ^ 64 = c.ranges.k.fits in
    let is = old_is b.lanes.items c.as_mut_slice.result.now i c.index-as_mut_slice-c.result c.as_mut_slice.ensures.value within in
    let of = old_lane b c.args.c old low high is c.requires.whole in
    let here = lane_now b c.args.c old low high is in
    let bytes = c.in-Some.bytes in
    let inbox = c.saved.new.self in
    let gives : GivesSaved old.inbox k bytes.items inbox = search rules in
    let came : k ≤ old.inbox.last = search rules in
    let lane : Lane = record old { inbox = inbox } in
    let now : ChannelState = channel_next old.inbox (entries.Saved k) in
    acts b _ (events.Saved c.args.c k) i old lane (replies.SavedIn c.args.c k bytes) c.connections_stay_sound.ensures.steps c.requires.whole (c.requires.channel, c.requires.number, fits) within is
    (record { pool = refl; size = refl; total = refl; limit = refl; readers = refl; lanes = refilled_set b.lanes.items c.as_mut_slice.result.now i lane c.as_mut_slice.ensures.value })
    (lane_in b.pool b.partition_limit old inbox old.owed old.reader of (of.owed ∙ ap (λ (s : ChannelState). s.owed) (sym gives.closed)))
    (gate_same b.pool b.gate (floating_here old.inbox) (floating_here inbox) c.requires.whole.gate (ap floating_here (sym gives.closed)))
    (tells_done (world_of b) c.args.c k (world_lane old) here gives.save gives.was_open gives.number came
    ∙ put_as b b.frames.items b.controls.items i lane _ _ _ _ (ap (λ (s : ChannelState). let l : lanes.Lane = record (world_lane old) { inbox = s } in l) (sym gives.closed)) refl refl
    ∙ ap (λ bs. let d : World × Reply = (put_world b i lane b.frames.items b.controls.items, replies.SavedIn c.args.c k (record { items = bs; room = 0 })) in d) (sym gives.bytes_are))
