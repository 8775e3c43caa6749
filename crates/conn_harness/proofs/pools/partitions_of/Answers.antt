use Rattle.std.proofs.Common.{◌≡◌, ◌+◌, ◌-◌, length, ap, ◌∙◌, arith}
use Rattle.std.proofs.lemmas.List.{length_push}
use Rattle.std.proofs.lemmas.List.Elements.{All-pop}
use Rattle.segment_pool.specs.Pools.{size_of}
use Rattle.local_pool.specs.declared.held.HeldPool.{HeldPool}
use Rattle.local_pool.specs.Helds.{pool_of}
use Rattle.conn_harness.specs.Groups.{IsPassReady}
use Rattle.conn_harness.proofs.GroupLaws.{one_more_made}
use Rattle.conn_harness.proofs.pools.partitions_of.Goals as goal

pub loop-pass-preserved : goal.loop-pass-preserved
loop-pass-preserved g c =
    let invariant = c.loop-pass.invariant in let pool = c.args.pool.now in
    let all = c.args.passes.items in let old = c.loop-pass.rest.items in let left = c.pop.new.self.items in
    let few = invariant.few in let added = c.in_ok-add.ensures in
    let shorter : length old ≡ length left + 1 = ap length c.in-Some.ensures.items ∙ length_push left c.in-Some.pass in
    record {
      made = one_more_made (λ (held : HeldPool). size_of (pool_of held) ≡ size_of pool) (length all - length old) (length all - length left) c.new.result c.loop-pass.group c.add.new.self
          invariant.made added.dealt added.cells (ap size_of c.new.ensures.0) (omega arith);
      few = omega arith;
      ready = (All-pop (IsPassReady pool) old left _ c.pop.ensures.items invariant.ready).0;
    }
