use Rattle.std.proofs.Common.{◌≡◌, map, arith}
use Rattle.std.proofs.lemmas.Grind.{common_steps}
use Rattle.std.proofs.lemmas.List.Elements.{All-get_or}
use Rattle.local_pool.specs.Shares.{IsWant, share_of}
use Rattle.local_pool.proofs.Dealing.{sum-share_of-le, share_of-between}
use Rattle.local_pool.proofs.shares.share.Goals as goal

pub returns-clause-within : goal.returns-clause-within
returns-clause-within c =
    let shares : c.loop-i.limits ≡ map (share_of c.args.wants.now c.args.total) c.args.wants.now = grind (arith, common_steps) in
    rw shares (sum-share_of-le c.args.wants.now c.args.total c.requires.needs)

pub returns-clause-each : goal.returns-clause-each
returns-clause-each c = λ k d h. share_of-between c.args.wants.now c.args.total _ (All-get_or IsWant c.args.wants.now k d h c.requires.wants)
