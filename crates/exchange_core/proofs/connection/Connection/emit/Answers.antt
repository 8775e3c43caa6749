use Rattle.std.proofs.Common.{◌≡◌, ◌∙◌, ◌≤◌, ◌<◌, ◌-◌, ◌+◌, ℕ, length, get_or, ap, sym, arith, subst, true, false, map, List}
use Rattle.std.proofs.lemmas.Bool.{le-ltb, lt-ltb, or_left, or_right, or_from}
use Rattle.std.proofs.lemmas.List.{length-map}
use Rattle.flow_defs.specs.declared.parcel.Parcel.TheVariants as parcels
use Rattle.flow_defs.specs.Records.{encoded}
use Rattle.flow_defs.proofs.Lists.{refilled_set}
use Rattle.script_text.specs.declared.reply.Reply.TheVariants as replies
use Rattle.exchange_world.specs.Lanes.{Lane, ITEMS_MAX}
use Rattle.exchange_world.specs.Steps.{puts, emits, pieces, buffers_of, with_items}
use Rattle.exchange_world.specs.Worlds.{partition_limit, partition_lent}
use Rattle.exchange_core.specs.Exchanges.{world_of, world_lane}
use Rattle.exchange_core.specs.Lanes.{buffers}
use Rattle.exchange_core.proofs.Connections.{has_stayed, lent_is, lent_whole, lent_stays, put_acted, is_known}
use Rattle.exchange_core.proofs.Emitting.{emits_refused, emits_full, emits_queued}
use Rattle.exchange_core.proofs.LaneSteps.{items_count, backlog_is, backlog_few}
use Rattle.exchange_core.specs.declared.connection.Connection.{Connection}
use Rattle.exchange_core.proofs.Emitting.{is_full}
use Rattle.exchange_core.proofs.connection.Connection.emit.Goals as goal
use Rattle.exchange_core.proofs.connection.Connection.emit.Goals.{then-n-self-via-then-n-self, then-n-self-via-else-n-self+then-spare-buffers}

-- the record's buffers, as the world counts them
counted : (self : Connection) (text : List ℕ) (count : ℕ) → count ≡ length (pieces self.size (encoded text)) → length (buffers_of (world_of self) text) ≡ count
counted self text count is = length-map (pieces self.size (encoded text)) parcels.Data ∙ sym is

pub returns-then-lane : goal.returns-then-lane
returns-then-lane g c =
    let self = c.args.self.now in
    let ms = c.as_mut_slice.result.now in
    let e = c.index-as_mut_slice-c.result in
    let n = c.args.c in
    let lent = c.as_mut_slice.ensures.value in
    let channel = c.requires.channel in
    has_stayed self _ replies.Refused _ c.requires.whole (lent_stays self ms n e lent)
    (emits_refused (world_of self) n c.args.text.now (world_lane (get_or ms (n - 1) e)) (lent_is self ms n e lent channel.0 channel.1) c.if-lane.true)

pub overflow_add-n : goal.overflow_add-n
overflow_add-n g c =
    let self = c.args.self.now in
    let ms = c.as_mut_slice.result.now in
    let e = c.index-as_mut_slice-c.result in
    let n = c.args.c in
    let lent = c.as_mut_slice.ensures.value in
    let channel = c.requires.channel in
    let lane = get_or ms (n - 1) e in
    let here = lent_whole self ms n e lent channel.0 channel.1 c.requires.whole in
    let room : length (world_lane lane).items ≤ ITEMS_MAX = subst (λ (l : Lane). length l.items ≤ ITEMS_MAX) (lent_is self ms n e lent channel.0 channel.1) (c.requires.whole.sound.each n channel.0 channel.1).room in
    omega (arith, c.lent.ensures, here.lent, backlog_few lane.queue.items, items_count lane, room, c.count_buffers-buffers.ensures.most, c.requires.short)

pub returns-then-n-self : goal.returns-then-n-self
returns-then-n-self g c =
    let self = c.args.self.now in
    let ms = c.as_mut_slice.result.now in
    let e = c.index-as_mut_slice-c.result in
    let n = c.args.c in
    let lent = c.as_mut_slice.ensures.value in
    let channel = c.requires.channel in
    let lane = get_or ms (n - 1) e in
    let here = lent_whole self ms n e lent channel.0 channel.1 c.requires.whole in
    let w = world_of self in
    let count = counted self c.args.text.now c.count_buffers-buffers.result c.count_buffers-buffers.ensures.count in
    let backlog = backlog_is lane.queue.items in
    elim c.then-n-self.branch [
      | then-n-self-via-then-n-self v ↦
          let more : partition_limit w < partition_lent (world_lane lane) + length (buffers_of w c.args.text.now) = omega (arith, count, backlog, c.lent.ensures, here.lent, v.if-n-self.true, c.requires.whole.partition) in
          let full : is_full w n c.args.text.now (world_lane lane) ≡ true = or_left _ _ (lt-ltb _ _ more) in
          has_stayed self c.then-n-self.self replies.Full _ c.requires.whole (v.self-is ∙ lent_stays self ms n e lent)
          (emits_full w n c.args.text.now (world_lane lane) (lent_is self ms n e lent channel.0 channel.1) c.if-lane.false full)
      | then-n-self-via-else-n-self+then-spare-buffers v ↦
          let more : ITEMS_MAX < length (world_lane lane).items + length (buffers_of w c.args.text.now) = omega (arith, count, v.spare.ensures, v.if-spare-buffers.true, here.room, items_count lane) in
          let full : is_full w n c.args.text.now (world_lane lane) ≡ true = or_right _ _ (lt-ltb _ _ more) in
          has_stayed self c.then-n-self.self replies.Full _ c.requires.whole (v.self-is ∙ lent_stays self ms n e lent)
          (emits_full w n c.args.text.now (world_lane lane) (lent_is self ms n e lent channel.0 channel.1) c.if-lane.false full)
    ]

pub put_record-requires-clause-lane : goal.put_record-requires-clause-lane
put_record-requires-clause-lane g c =
    (lent_whole c.args.self.now c.as_mut_slice.result.now c.args.c c.index-as_mut_slice-c.result c.as_mut_slice.ensures.value c.requires.channel.0 c.requires.channel.1 c.requires.whole, c.requires.whole.limited)

pub put_record-requires-clause-lent : goal.put_record-requires-clause-lent
put_record-requires-clause-lent g c =
    let self = c.args.self.now in
    let ms = c.as_mut_slice.result.now in
    let e = c.index-as_mut_slice-c.result in
    let n = c.args.c in
    let lane = get_or ms (n - 1) e in
    let here = lent_whole self ms n e c.as_mut_slice.ensures.value c.requires.channel.0 c.requires.channel.1 c.requires.whole in
    let count = counted self c.args.text.now c.count_buffers-buffers.result c.count_buffers-buffers.ensures.count in
    let same : length (buffers self.pool c.args.text.now) ≡ length (buffers_of (world_of self) c.args.text.now) = ap (λ s. length (map parcels.Data (pieces s (encoded c.args.text.now)))) c.requires.whole.size in
    omega (arith, count, same, backlog_is lane.queue.items, c.lent.ensures, here.lent, c.if-n-self.false)

pub put_record-requires-clause-room : goal.put_record-requires-clause-room
put_record-requires-clause-room g c =
    let self = c.args.self.now in
    let ms = c.as_mut_slice.result.now in
    let e = c.index-as_mut_slice-c.result in
    let n = c.args.c in
    let lane = get_or ms (n - 1) e in
    let here = lent_whole self ms n e c.as_mut_slice.ensures.value c.requires.channel.0 c.requires.channel.1 c.requires.whole in
    let count = counted self c.args.text.now c.count_buffers-buffers.result c.count_buffers-buffers.ensures.count in
    let same : length (buffers self.pool c.args.text.now) ≡ length (buffers_of (world_of self) c.args.text.now) = ap (λ s. length (map parcels.Data (pieces s (encoded c.args.text.now)))) c.requires.whole.size in
    omega (arith, count, same, here.room, c.spare.ensures, c.if-spare-buffers.false)

pub tell-requires-clause-known : goal.tell-requires-clause-known
tell-requires-clause-known g c = is_known c.args.self.now c.args.c c.requires.whole c.requires.channel.0 c.requires.channel.1

pub returns : goal.returns
returns g c =
    let self = c.args.self.now in
    let ms = c.as_mut_slice.result.now in
    let e = c.index-as_mut_slice-c.result in
    let n = c.args.c in
    let text = c.args.text.now in
    let lent = c.as_mut_slice.ensures.value in
    let channel = c.requires.channel in
    let lane = get_or ms (n - 1) e in
    let after = c.put_record.new.lane in
    let here = lent_whole self ms n e lent channel.0 channel.1 c.requires.whole in
    let is = lent_is self ms n e lent channel.0 channel.1 in
    let w = world_of self in
    let count = counted self text c.count_buffers-buffers.result c.count_buffers-buffers.ensures.count in
    let backlog = backlog_is lane.queue.items in
    let put : world_lane after ≡ with_items (world_lane lane) (buffers_of w text) =
    c.put_record.ensures.put ∙ ap (λ s. with_items (world_lane lane) (map parcels.Data (pieces s (encoded text)))) c.requires.whole.size in
    let few : partition_lent (world_lane lane) + length (buffers_of w text) ≤ partition_limit w = omega (arith, count, backlog, c.lent.ensures, here.lent, c.if-n-self.false, c.requires.whole.partition) in
    let room : length (world_lane lane).items + length (buffers_of w text) ≤ ITEMS_MAX = omega (arith, count, c.spare.ensures, c.if-spare-buffers.false, here.room, items_count lane) in
    let fits : is_full w n text (world_lane lane) ≡ false = or_from _ _ (le-ltb _ _ few) (le-ltb _ _ room) in
    let number : partition_lent (world_lane lane) + length (buffers_of w text) ≡ c.lent.result + c.count_buffers-buffers.result = omega (arith, count, backlog, c.lent.ensures, here.lent) in
    let done = emits_queued w n text (world_lane lane) is c.if-lane.false fits in
    put_acted self _ c.tell.new.readers n after (replies.Queued n (c.lent.result + c.count_buffers-buffers.result)) (emits w n text) c.requires.whole channel.0 channel.1
    (refilled_set self.lanes.items ms (n - 1) after lent) c.put_record.ensures.lane
    (ap (λ (l : Lane). l.inbox) put ∙ sym (ap (λ (l : Lane). l.inbox) is)) c.tell.ensures
    (done ∙ ap (λ l. (puts w n l, replies.Queued n (partition_lent (world_lane lane) + length (buffers_of w text)))) (sym put) ∙ ap (λ k. (puts w n (world_lane after), replies.Queued n k)) number)
    c.requires.sound
