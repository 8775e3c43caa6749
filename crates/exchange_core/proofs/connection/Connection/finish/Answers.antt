use Rattle.std.proofs.Common.{◌∙◌, ◌≤◌, ◌<◌, ◌-◌, length, get_or, ap, sym, arith, true}
use Rattle.std.proofs.lemmas.Bool.{le-ltb, lt-ltb}
use Rattle.script_text.specs.declared.event.Event.TheVariants as events
use Rattle.script_text.specs.declared.reply.Reply.TheVariants as replies
use Rattle.exchange_world.specs.Lanes.{Lane, ITEMS_MAX}
use Rattle.exchange_world.specs.Steps.{puts, finishes}
use Rattle.exchange_core.specs.Exchanges.{world_of, world_lane}
use Rattle.exchange_core.proofs.Connections.{has_stayed, lent_is, lent_whole, lent_stays, put_acted, is_known}
use Rattle.exchange_core.proofs.Emitting.{finishes_refused, finishes_full, finishes_done}
use Rattle.exchange_core.proofs.LaneSteps.{end_at, end_put, items_count}
use Rattle.exchange_core.proofs.connection.Connection.finish.Goals as goal
use Rattle.flow_defs.proofs.Lists.{refilled_set}

pub returns-then-lane : goal.returns-then-lane
returns-then-lane c =
    let self = c.args.self.now in
    let ms = c.as_mut_slice.result.now in
    let e = c.index-as_mut_slice-c.result in
    let n = c.args.c in
    let lent = c.as_mut_slice.ensures.value in
    let channel = c.requires.channel in
    has_stayed self _ replies.Refused _ c.requires.whole (lent_stays self ms n e lent)
    (finishes_refused (world_of self) n (world_lane (get_or ms (n - 1) e)) (lent_is self ms n e lent channel.0 channel.1) c.if-lane.true)

pub returns-then-spare-eq0 : goal.returns-then-spare-eq0
returns-then-spare-eq0 c =
    let self = c.args.self.now in
    let ms = c.as_mut_slice.result.now in
    let e = c.index-as_mut_slice-c.result in
    let n = c.args.c in
    let lent = c.as_mut_slice.ensures.value in
    let channel = c.requires.channel in
    let lane = get_or ms (n - 1) e in
    let here = lent_whole self ms n e lent channel.0 channel.1 c.requires.whole in
    let many : ITEMS_MAX ≤ length (world_lane lane).items = omega (arith, c.spare.ensures, c.if-spare-eq0.true, here.room, items_count lane) in
    has_stayed self _ replies.Full _ c.requires.whole (lent_stays self ms n e lent)
    (finishes_full (world_of self) n (world_lane lane) (lent_is self ms n e lent channel.0 channel.1) c.if-lane.false (le-ltb _ _ many))

pub tell-requires-clause-known : goal.tell-requires-clause-known
tell-requires-clause-known c = is_known c.args.self.now c.args.c c.requires.whole c.requires.channel.0 c.requires.channel.1

pub returns : goal.returns
returns c =
    let self = c.args.self.now in
    let ms = c.as_mut_slice.result.now in
    let e = c.index-as_mut_slice-c.result in
    let n = c.args.c in
    let lent = c.as_mut_slice.ensures.value in
    let channel = c.requires.channel in
    let lane = get_or ms (n - 1) e in
    let here = lent_whole self ms n e lent channel.0 channel.1 c.requires.whole in
    let is = lent_is self ms n e lent channel.0 channel.1 in
    let put = end_put lane c.finish.new.self c.finish.ensures in
    let few : length (world_lane lane).items < ITEMS_MAX = omega (arith, c.spare.ensures, c.if-spare-eq0.false, here.room, items_count lane) in
    let done = finishes_done (world_of self) n (world_lane lane) is c.if-lane.false (lt-ltb _ _ few) in
    put_acted self _ c.tell.new.readers n (record lane { queue = c.finish.new.self; finished = true }) replies.Done (finishes (world_of self) n) c.requires.whole channel.0 channel.1
    (refilled_set self.lanes.items ms (n - 1) _ lent) (end_at self.pool self.partition_limit lane here c.finish.new.self c.finish.ensures)
    (sym (ap (λ (l : Lane). l.inbox) is)) c.tell.ensures (done ∙ ap (λ l. (puts (world_of self) n l, replies.Done)) (sym put))
    (c.connections_stay_sound.ensures.steps (length self.lanes.items) (world_of self) (events.Finish n) c.requires.whole.sound channel)
