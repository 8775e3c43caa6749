use Rattle.std.proofs.Common.{◌+◌, ◌<◌, length, refl, ap, ◌∙◌, arith}
use Rattle.std.specs.Prelude.{slice_get}
use Rattle.std.proofs.lemmas.Option.{slice_get_within}
use Rattle.segment_pool.specs.Pools.{size_of}
use Rattle.job_cells.specs.Grants.{gate_want}
use Rattle.job_cells.proofs.EndLaws.{gates_more, lent_more, shares_more, shares_none}
use Rattle.job_cells.proofs.gates.gates_of.Goals as goal

pub loop-made-init : goal.loop-made-init
loop-made-init g c = record {
  may = c.requires.may;
  lent = record { wants = refl; given = omega arith };
  gates = c.new-gates.ensures c.args.ways (size_of c.args.pool.now);
  shares = shares_none c.args.lender.now.wants.items (gate_want c.args.ways) c.new-gates.result.pools.cells.items (c.new-gates.ensures c.args.ways (size_of c.args.pool.now)).pools_many;
}

pub lend-requires-clause-left : goal.lend-requires-clause-left
lend-requires-clause-left g c =
    let lent = c.loop-made.invariant.lent in let old = c.args.lender.now in
    let low : c.loop-made._made < c.args.many = omega arith in
    let inside = slice_get_within old.wants.items (old.given + c.loop-made._made) (gate_want c.args.ways) (c.requires.wants c.loop-made._made low) in
    let same = ap length lent.wants in let given = lent.given in omega (arith, inside, same, given)

pub add_inputs-requires-clause-left : goal.add_inputs-requires-clause-left
add_inputs-requires-clause-left g c =
    let lent = c.loop-made.invariant.lent in let old = c.args.lender.now in
    let low : c.loop-made._made < c.args.many = omega arith in
    c.in_ok-local.ensures.next.enough (gate_want c.args.ways)
    (ap (λ ws. slice_get ws c.loop-made.lender.given) lent.wants ∙ ap (slice_get old.wants.items) lent.given ∙ c.requires.wants c.loop-made._made low)

pub loop-made-preserved : goal.loop-made-preserved
loop-made-preserved g c =
    let before = c.loop-made.invariant in
    record {
      may = c.lend.ensures.may.0;
      lent = lent_more c.loop-made._made c.args.lender.now c.loop-made.lender c.lend.new.self before.lent c.lend.ensures.may.1;
      gates = gates_more c.loop-made._made c.args.ways (size_of c.args.pool.now) c.loop-made.gates (record { group = c.add_inputs.new.group; passes = c.push.new.self; pools = c.add.new.self }) c.in_ok-own.own
          before.gates c.in_ok-own.ensures.dealt c.in_ok-own.ensures.opened c.in_ok-own.ensures.gate c.in_ok-push.ensures.ok c.in_ok-add.ensures.pools c.in_ok-add.ensures.many;
      shares = shares_more c.args.pool.now c.args.lender.now c.loop-made.lender c.loop-made._made c.in_ok-local.local c.add_inputs.new.local (gate_want c.args.ways) c.loop-made.gates.pools c.add.new.self
          before.lent c.in_ok-local.ensures.next c.in_ok-own.ensures.local.1 c.in_ok-add.ensures.made (c.requires.wants c.loop-made._made (omega arith)) before.shares;
    }
