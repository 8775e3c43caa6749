use Rattle.std.proofs.Common.{◌≡◌, ◌+◌, ◌-◌, length, min, take, drop, sym, ap, ◌∙◌, ◌++◌}
use Rattle.flow_defs.specs.Records.{encoded}
use Rattle.flow_defs.proofs.Lists.{refilled}
use Rattle.local_pool.specs.Locals.{lent_of}
use Rattle.exchange_core.proofs.LaneSteps.{put_is, room_long, front_is}
use Rattle.exchange_core.proofs.Pieces.{left_long}
use Rattle.exchange_core.proofs.lane.put_buffer.Goals as goal

pub returns-clause-put : goal.returns-clause-put
returns-clause-put g c =
    let segment = c.in-Some.segment in
    let n = c.write_span-filled.result in
    let room = c.write_span-filled.new.room in
    let left = drop c.args.done (encoded c.args.text.now) in
    let long = left_long c.args.done c.args.text.now in
    let value = c.bytes_mut.ensures.value in
    let count : n ≡ min (length segment) (length left) = c.write_span-filled.ensures.count ∙ ap (λ k. min k (length c.args.text.now + 4 - c.args.done)) (ap length value) ∙ ap (λ k. min (length segment) k) (sym long) in
    let copied : room ≡ take n left ++ drop n segment = c.write_span-filled.ensures.copied ∙ ap (λ s. take n left ++ drop n s) value in
    let lent : lent_of c.request.new.self ≡ lent_of c.args.lane.now.partition + 1 = c.in-Some.ensures.requested.lent in
    put_is c.args.pool.now c.args.limit c.args.lane.now c.request.new.self _ c.requires.lane.0 (ap length (refilled segment room (room_long segment left room n count copied)) ∙ room_long segment left room n count copied ∙ c.in-Some.ensures.size)
    c.in-Some.ensures.local.0 c.in-Some.ensures.local.1 lent c.put.new.self _ c.put.ensures (front_is segment left room n count copied)
