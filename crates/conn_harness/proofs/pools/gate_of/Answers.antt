use Rattle.std.proofs.Common.{◌≡◌, ◌+◌, [], refl, sym, ap, subst}
use Rattle.segment_pool.specs.Pools.{size_of}
use Rattle.input_channel.specs.States.{ChannelState, ChannelStandsFor}
use Rattle.conn_harness.specs.declared.pools.TheConstants.{BUFFERS_MAX}
use Rattle.conn_harness.proofs.GroupLaws.{one_more_made}
use Rattle.conn_harness.proofs.pools.gate_of.Goals as goal

pub add-requires-clause-new : goal.add-requires-clause-new
add-requires-clause-new g c =
    subst (λ (input : ChannelState). ChannelStandsFor input []) (sym c.in_ok-input.ensures.opened) (c.channels_stand_for_histories.ensures.opening (size_of c.args.pool.now) BUFFERS_MAX)

pub loop-channel-preserved : goal.loop-channel-preserved
loop-channel-preserved g c =
    let invariant = c.loop-channel.invariant in let n = c.loop-channel._channel in let added = c.in_ok-add.ensures in
    record {
      local = c.in_ok-input.ensures.local;
      made = one_more_made (λ (input : ChannelState). input.size ≡ size_of c.args.pool.now) n (n + 1) c.in_ok-input.input c.loop-channel.inputs c.add.new.self
          invariant.made added.dealt added.cells (ap (λ (input : ChannelState). input.size) c.in_ok-input.ensures.opened) refl;
    }
