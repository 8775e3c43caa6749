use Rattle.std.proofs.Common.{ap, sym, ◌∙◌}
use Rattle.local_pool.specs.Locals.{lent_of}
use Rattle.segment_pool.specs.Pools.{size_of}
use Rattle.local_pool.specs.declared.held.HeldPool.{HeldPool}
use Rattle.local_pool.specs.Helds.{local_of, pool_of}
use Rattle.job_cells.proofs.EndLaws.{pools_more}
use Rattle.job_cells.proofs.pool_cells.PoolCells.add.Goals as goal

pub returns-clause-pools : goal.returns-clause-pools
returns-clause-pools c =
    let made = c.in_ok-cell.ensures in
    pools_more (size_of c.args.pool.now) c.args.self.now (record { cells = c.push.new.self; tasks = c.push-2.new.self; loops = c.push-3.new.self }) c.in_ok-cell.cell c.in_ok-cell.task c.in_ok-cell.other
    c.requires.pools made.made.0 made.made.1 (ap (λ (held : HeldPool). size_of (pool_of held)) made.opened ∙ ap size_of c.new.ensures.0)
    c.in_ok-push.ensures.ok c.in_ok-push-2.ensures.ok c.in_ok-push-3.ensures.ok

pub returns-clause-made : goal.returns-clause-made
returns-clause-made c =
    let opened = c.in_ok-cell.ensures.opened in
    record {
      cell = c.in_ok-cell.cell;
      is = c.in_ok-push.ensures.ok;
      of_pool = ap pool_of opened ∙ c.new.ensures.0;
      local_is = ap local_of opened ∙ c.new.ensures.1;
    }

pub cell_of_two-requires : goal.cell_of_two-requires
cell_of_two-requires c = ap lent_of c.new.ensures.1 ∙ sym c.new.ensures.2
