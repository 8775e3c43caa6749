use Rattle.std.proofs.Common.{rules, ◌≡◌, ◌+◌, ◌-◌, ◌<◌, ◌≤◌, length, take, get_or, ap, sym, refl, arith}
use Rattle.std.specs.List.{sum_by}
use Rattle.std.proofs.lemmas.List.{take_all}
use Rattle.std.proofs.lemmas.List.Sums.{sum_by_more_le}
use Rattle.local_pool.specs.Locals.{lent_of, need_of}
use Rattle.script_text.specs.declared.reply.Reply.TheVariants as replies
use Rattle.exchange_world.specs.Worlds.{all_held}
use Rattle.exchange_core.specs.Exchanges.{world_of}
use Rattle.exchange_core.proofs.Held.{held, all_held_is}
use Rattle.exchange_core.proofs.connection.Connection.count.Goals as goal

pub overflow_add-lent-in-loop-lane-2 : goal.overflow_add-lent-in-loop-lane-2
overflow_add-lent-in-loop-lane-2 c =
    let s = c.args.self.now in
    let all = all_held_is s c.requires in
    let within : all_held (world_of s) ≤ s.total = (c.sound_takes_and_lends.ensures.lends _ _ c.requires.sound).all in
    let few : s.total ≤ 16384 = c.requires.sound.opening.opening.few_segments in
    let index : c.loop-lane.lane-index < length s.lanes.items = search rules in
    let next = sum_by_more_le held s.lanes.items c.loop-lane.lane-index c.lane-item.result index in
    let so = c.loop-lane.invariant in
    let item : c.lane-item.result ≡ get_or s.lanes.items c.loop-lane.lane-index c.lane-item.result = search rules in
    let here : held (get_or s.lanes.items c.loop-lane.lane-index c.lane-item.result) ≡ held c.lane-item.result = ap held (sym item) in
    let kept : c.kept-in-loop-lane.result ≡ need_of c.lane-item.result.partition - lent_of c.lane-item.result.partition = search rules in
    let lent : c.lent-in-loop-lane.result ≡ lent_of c.lane-item.result.partition = search rules in
    let e : c.loop-lane.lent + (c.kept-in-loop-lane.result + c.lent-in-loop-lane.result) ≤ 16384 = omega (arith, all, within, few, next, so, here, kept, lent) in
    search (rules, arith)

pub overflow_sub-result : goal.overflow_sub-result
overflow_sub-result c =
    let s = c.args.self.now in
    let all = all_held_is s c.requires in
    let within : all_held (world_of s) ≤ s.total = (c.sound_takes_and_lends.ensures.lends _ _ c.requires.sound).all in
    let end : length s.lanes.items ≤ c.loop-lane.lane-index = search rules in
    let so = c.loop-lane.invariant in
    let whole : sum_by held (take c.loop-lane.lane-index s.lanes.items) ≡ sum_by held s.lanes.items = ap (sum_by held) (take_all c.loop-lane.lane-index s.lanes.items end) in
    omega (arith, all, within, so, whole)

pub returns : goal.returns
returns c =
    let s = c.args.self.now in
    let all = all_held_is s c.requires in
    let end : length s.lanes.items ≤ c.loop-lane.lane-index = search rules in
    let so = c.loop-lane.invariant in
    let whole : sum_by held (take c.loop-lane.lane-index s.lanes.items) ≡ sum_by held s.lanes.items = ap (sum_by held) (take_all c.loop-lane.lane-index s.lanes.items end) in
    let is : c.loop-lane.lent ≡ all_held (world_of s) = omega (arith, all, so, whole) in
    record {
      whole = c.requires;
      world = refl;
      replied = ap (λ n. replies.Pool (s.total - n) n) is;
    }
