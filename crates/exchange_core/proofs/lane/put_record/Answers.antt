use Rattle.std.proofs.Common.{◌≡◌, ◌+◌, ◌≤◌, length, take, drop, refl, ap, ◌∙◌, arith}
use Rattle.std.proofs.lemmas.List.{length-map}
use Rattle.flow_defs.specs.declared.parcel.Parcel.TheVariants as parcels
use Rattle.flow_defs.specs.Records.{encoded}
use Rattle.segment_pool.specs.Pools.{size_of}
use Rattle.exchange_core.specs.Exchanges.{world_lane}
use Rattle.exchange_core.proofs.LaneSteps.{backlog_is}
use Rattle.exchange_core.proofs.Pieces.{rest_of, rest_step, rest_none, rest_some, put_more, put_all}
use Rattle.exchange_core.proofs.lane.put_record.Goals as goal

pub buffers-init : goal.buffers-init
buffers-init g c =
    let size = size_of c.args.pool.now in
    let count = length-map (rest_of size 0 c.args.text.now) parcels.Data in
    let here = c.requires.lane.0 in
    record {
      within = omega arith;
      lane = here;
      unfinished = c.requires.unfinished;
      rest = refl;
      lent = omega (arith, count, here.lent, backlog_is c.args.lane.now.queue.items, c.requires.lent);
      room = omega (arith, count, c.requires.room);
    }

pub put_buffer-done-requires-clause-lent : goal.put_buffer-done-requires-clause-lent
put_buffer-done-requires-clause-lent g c = omega (arith, c.buffers.invariant.lent, rest_some (size_of c.args.pool.now) c.buffers.done c.args.text.now c.buffers-test.true)

pub put_buffer-done-requires-clause-room : goal.put_buffer-done-requires-clause-room
put_buffer-done-requires-clause-room g c = omega (arith, c.buffers.invariant.room, rest_some (size_of c.args.pool.now) c.buffers.done c.args.text.now c.buffers-test.true)

pub buffers-preserved : goal.buffers-preserved
buffers-preserved g c =
    let size = size_of c.args.pool.now in
    let done = c.buffers.done in
    let n = c.put_buffer-done.result in
    let count = c.put_buffer-done.ensures.count in
    let put = c.put_buffer-done.ensures.put in
    let some : 1 ≤ size = omega (arith, count, c.put_buffer-done.ensures.some) in
    let step = rest_step size done n c.args.text.now some c.buffers-test.true count in
    let shorter : length (rest_of size done c.args.text.now) ≡ length (rest_of size (done + n) c.args.text.now) + 1 = ap length step ∙ omega arith in
    record {
      within = omega (arith, count, c.buffers-test.true);
      lane = put.lane;
      unfinished = put.finished ∙ c.buffers.invariant.unfinished;
      rest = put_more (world_lane c.buffers.lane) (world_lane c.put_buffer-done.new.lane) _ (take n (drop done (encoded c.args.text.now))) (rest_of size (done + n) c.args.text.now) (rest_of size done c.args.text.now) put.put step c.buffers.invariant.rest;
      lent = omega (arith, shorter, put.lent, c.buffers.invariant.lent);
      room = omega (arith, shorter, put.more, c.buffers.invariant.room);
    }

pub returns-clause-put : goal.returns-clause-put
returns-clause-put g c =
    put_all (world_lane c.buffers.lane) _ (rest_of (size_of c.args.pool.now) c.buffers.done c.args.text.now) (rest_none (size_of c.args.pool.now) c.buffers.done c.args.text.now c.buffers-test.false) c.buffers.invariant.rest
