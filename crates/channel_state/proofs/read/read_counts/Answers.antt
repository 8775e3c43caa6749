use Rattle.std.proofs.Common.{length, ap}
use Rattle.std.specs.Int.{w64, to_be_bytes}
use Rattle.channel_state.proofs.BuildLemmas.{none_taken, next_count, count_push}
use Rattle.channel_state.proofs.read.read_counts.Goals as goal

pub loop-i-init : goal.loop-i-init
loop-i-init c = record {
  spelled = λ fits. none_taken (to_be_bytes w64) c.args.cursor.now.rest.now c.new-counts.result.items c.new-counts.ensures fits;
  count = ap length c.new-counts.ensures;
}

pub loop-i-preserved : goal.loop-i-preserved
loop-i-preserved c =
    let counts = c.loop-i.counts.items in
    let more = c.push.new.self.items in
    let n = c.in_ok-count.count in
    let pushed = c.in_ok-push.ensures.ok in
    record {
      spelled = λ fits. next_count c.args.cursor.now.rest.now c.loop-i.cursor.rest.now c.u64.new.self.rest.now counts more n (c.loop-i.invariant.spelled fits) c.in_ok-count.ensures pushed;
      count = count_push counts more n c.loop-i._i pushed c.loop-i.invariant.count;
    }
