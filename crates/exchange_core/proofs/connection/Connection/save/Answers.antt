use Rattle.std.proofs.Common.{◌≡◌, ◌-◌, ◌<◌, ◌≤◌, ◌^◌, true, false, length, get_or, refl, sym, ap, subst, ◌∙◌, arith}
use Rattle.std.proofs.lemmas.List.{length-map}
use Rattle.flow_defs.proofs.Lists.{refilled_set}
use Rattle.script_text.specs.declared.event.Event.TheVariants as events
use Rattle.script_text.specs.declared.reply.Reply.TheVariants as replies
use Rattle.exchange_world.specs.Lanes.{floating_here}
use Rattle.exchange_world.specs.Steps.{is_no_save}
use Rattle.exchange_world.proofs.Saving.{may_open}
use Rattle.exchange_core.specs.declared.lane.Lane.{Lane}
use Rattle.exchange_core.specs.Exchanges.{world_of, world_lane, IsLaneOf}
use Rattle.exchange_core.specs.Inlets.{with_save}
use Rattle.exchange_core.proofs.Inlets.{old_is, old_lane, lane_now, lane_saved, gate_same, put_as, kept_as, acts}
use Rattle.exchange_core.proofs.InletSteps.{saves_none, saves_some}
use Rattle.exchange_core.proofs.connection.Connection.save.Goals as goal

pub save_lane-requires : goal.save_lane-requires
save_lane-requires c =
    let old : Lane = get_or c.as_mut_slice.result.now (c.args.c - 1) c.index-as_mut_slice-c.result in
    let no : is_no_save (world_lane old) c.args.k ≡ false = sym c.is_no_save.ensures ∙ c.if-is_no_save.false in
    record { may = (may_open (world_lane old) c.args.k no).allows }

pub returns : goal.returns
returns c =
    let b = c.args.self.now in
    let i = c.args.c - 1 in
    let k = c.args.k in
    let old : Lane = get_or c.as_mut_slice.result.now i c.index-as_mut_slice-c.result in
    let lane : Lane = c.save_lane.new.lane in
    let low = c.requires.channel.0 in
    let high = c.requires.channel.1 in
    let within : i < length b.lanes.items = omega (arith, low, high) in
    let fits : k < 2 ^ 64 = c.ranges.k.fits in
    let is = old_is b.lanes.items c.as_mut_slice.result.now i c.index-as_mut_slice-c.result c.as_mut_slice.ensures.value within in
    let of = old_lane b c.args.c old low high is c.requires.whole in
    let here = lane_now b c.args.c old low high is in
    let no : is_no_save (world_lane old) k ≡ false = sym c.is_no_save.ensures ∙ c.if-is_no_save.false in
    let lane_is : lane ≡ with_save k old = c.in_ok-save_lane.ensures in
    acts b _ (events.Save c.args.c k) i old lane replies.Done c.connections_stay_sound.ensures.steps c.requires.whole (c.requires.channel, c.requires.number, fits) within is
    (record { pool = refl; size = refl; total = refl; limit = refl; readers = refl; lanes = refilled_set b.lanes.items c.as_mut_slice.result.now i lane c.as_mut_slice.ensures.value })
    (subst (IsLaneOf b.pool b.partition_limit) (sym lane_is) (lane_saved b.pool b.partition_limit old k of))
    (gate_same b.pool b.gate (floating_here old.inbox) (floating_here lane.inbox) c.requires.whole.gate (sym (ap (λ (l : Lane). floating_here l.inbox) lane_is)))
    (saves_some (world_of b) c.args.c k (world_lane old) here no
    ∙ put_as b b.frames.items b.controls.items i lane _ _ _ replies.Done (sym (ap world_lane lane_is)) refl refl)

pub returns-then-is_no_save : goal.returns-then-is_no_save
returns-then-is_no_save c =
    let b = c.args.self.now in
    let i = c.args.c - 1 in
    let k = c.args.k in
    let old : Lane = get_or c.as_mut_slice.result.now i c.index-as_mut_slice-c.result in
    let low = c.requires.channel.0 in
    let high = c.requires.channel.1 in
    let within : i < length b.lanes.items = omega (arith, low, high) in
    let fits : k < 2 ^ 64 = c.ranges.k.fits in
    let is = old_is b.lanes.items c.as_mut_slice.result.now i c.index-as_mut_slice-c.result c.as_mut_slice.ensures.value within in
    let of = old_lane b c.args.c old low high is c.requires.whole in
    let here = lane_now b c.args.c old low high is in
    acts b _ (events.Save c.args.c k) i old old replies.Refused c.connections_stay_sound.ensures.steps c.requires.whole (c.requires.channel, c.requires.number, fits) within is
    (record { pool = refl; size = refl; total = refl; limit = refl; readers = refl; lanes = refilled_set b.lanes.items c.as_mut_slice.result.now i old c.as_mut_slice.ensures.value })
    of
    (gate_same b.pool b.gate (floating_here old.inbox) (floating_here old.inbox) c.requires.whole.gate refl)
    (saves_none (world_of b) c.args.c k (world_lane old) here (sym c.is_no_save.ensures ∙ c.if-is_no_save.true)
    ∙ kept_as b b.frames.items b.controls.items i old _ replies.Refused here refl refl)
