use Rattle.std.proofs.Common.{◌≡◌, length, Some, refl, sym, ap, ◌∙◌, arith}
use Rattle.std.specs.Prelude.{slice_get}
use Rattle.job_deploy.specs.declared.senders.Senders.{Senders}
use Rattle.job_deploy.proofs.Dealing.{senders_fewer, senders_rest, sender_within, last_sender, last_partition_pool, partition_is}
use Rattle.job_deploy.proofs.senders.Senders.next.Goals as goal

pub item_at-requires : goal.item_at-requires
item_at-requires c =
    let after : Senders = record { own = c.take_last-own.new.self; pools = c.take_last-pool.new.self } in
    let within = sender_within c.args.job.now c.args.e c.args.edge.now c.args.self.now after c.take_last-own.result c.take_last-pool.result c.requires.senders c.take_last-own.ensures.items c.take_last-pool.ensures.items in
    let first = ap length c.as_slice-first.ensures in let many = ap length c.as_slice-2.ensures in let all = c.requires.edge.partitions in omega (arith, within, first, many, all)

pub returns-clause-senders : goal.returns-clause-senders
returns-clause-senders c =
    let after : Senders = record { own = c.take_last-own.new.self; pools = c.take_last-pool.new.self } in
    senders_rest c.args.job.now c.args.e c.args.edge.now c.args.self.now after c.take_last-own.result c.take_last-pool.result c.requires.senders c.take_last-own.ensures.items c.take_last-pool.ensures.items

pub returns-clause-fewer : goal.returns-clause-fewer
returns-clause-fewer c =
    let after : Senders = record { own = c.take_last-own.new.self; pools = c.take_last-pool.new.self } in
    senders_fewer c.args.job.now c.args.e c.args.edge.now c.args.self.now after c.take_last-own.result c.take_last-pool.result c.requires.senders c.take_last-own.ensures.items c.take_last-pool.ensures.items

pub returns-clause-cells : goal.returns-clause-cells
returns-clause-cells c = record { cells = c.as_slice.ensures; first = ap length c.as_slice-first.ensures; stride = c.tasks.ensures.is; size_is = refl }

pub returns-clause-partition : goal.returns-clause-partition
returns-clause-partition c =
    let job = c.args.job.now in let e = c.args.e in let edge = c.args.edge.now in
    let after : Senders = record { own = c.take_last-own.new.self; pools = c.take_last-pool.new.self } in
    let a = length after.own.items in
    let own = c.take_last-own.result in let pool = c.take_last-pool.result in let is = c.take_last-own.ensures.items in let is' = c.take_last-pool.ensures.items in
    let stands : slice_get edge.partitions.items a ≡ Some c.item_at.result.now =
    ap (λ l. slice_get l a) (sym c.as_slice-2.ensures) ∙ ap (slice_get c.as_slice-2.result.now) (sym (ap length c.as_slice-first.ensures)) ∙ c.item_at.ensures in
    partition_is job e a c.args.size edge _ c.requires.is_job.0 c.requires.is_job.1
    (sender_within job e edge c.args.self.now after own pool c.requires.senders is is')
    c.requires.edge
    (record { cells = c.as_slice.ensures; first = ap length c.as_slice-first.ensures; stride = c.tasks.ensures.is; size_is = refl })
    stands
    (last_sender job e edge c.args.self.now after own pool c.requires.senders is is')
    (last_partition_pool job e edge c.args.self.now after own pool c.requires.senders is is' c.item_at.result.now stands)
