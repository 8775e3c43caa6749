use Rattle.std.proofs.Common.{◌≡◌, ◌+◌, [], refl, sym, ap, subst}
use Rattle.subpartition.specs.Queues.{Queue}
use Rattle.subpartition.specs.Standing.{QueueStandsFor}
use Rattle.conn_harness.specs.declared.pools.TheConstants.{ITEMS_MAX}
use Rattle.conn_harness.proofs.GroupLaws.{one_more_made}
use Rattle.conn_harness.proofs.pools.subpartitions_of.Goals as goal

pub add-requires-clause-new : goal.add-requires-clause-new
add-requires-clause-new c =
    subst (λ (queue : Queue). QueueStandsFor queue []) (sym c.in_ok-new.ensures) (c.calls_add_entries.ensures.new c.args.size ITEMS_MAX)

pub loop-channel-preserved : goal.loop-channel-preserved
loop-channel-preserved c =
    let n = c.loop-channel._channel in let added = c.in_ok-add.ensures in
    one_more_made (λ (queue : Queue). queue.size ≡ c.args.size) n (n + 1) c.in_ok-new.field-0 c.loop-channel.group c.add.new.self
    c.loop-channel.invariant added.dealt added.cells (ap (λ (queue : Queue). queue.size) c.in_ok-new.ensures) refl
