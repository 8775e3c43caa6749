use Rattle.std.proofs.Common.{◌+◌, length, refl, ap, ◌∙◌, arith}
use Rattle.job_cells.proofs.EndLaws.{lent_more, pools_none, shares_more, shares_none}
use Rattle.job_cells.proofs.pool_cells.partitions_of.Goals as goal

pub loop-made-init : goal.loop-made-init
loop-made-init g c = let none = c.new-pools.ensures in record {
  may = c.requires.may;
  lent = record { wants = refl; given = omega arith };
  pools = pools_none _ c.new-pools.result none.0 none.1 none.2;
  many = ap length none.0;
  shares = λ want stands. shares_none c.args.lender.now.wants.items want c.new-pools.result.cells.items (ap length none.0);
}

pub loop-made-preserved : goal.loop-made-preserved
loop-made-preserved g c =
    let before = c.loop-made.invariant in let old = c.args.lender.now in let n = c.loop-made._made in
    record {
      may = c.lend.ensures.may.0;
      lent = lent_more n old c.loop-made.lender c.lend.new.self before.lent c.lend.ensures.may.1;
      pools = c.in_ok-add.ensures.pools;
      many = c.in_ok-add.ensures.many ∙ ap (λ k. k + 1) before.many;
      shares = λ want stands.
          shares_more c.args.pool.now old c.loop-made.lender n c.in_ok-local.local c.in_ok-local.local want c.loop-made.pools c.add.new.self before.lent c.in_ok-local.ensures.next refl
          c.in_ok-add.ensures.made (stands n (omega arith)) (before.shares want (λ a low. stands a (omega (arith, low))));
    }
