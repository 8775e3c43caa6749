use Rattle.std.proofs.Common.{◌+◌, ◌∷◌, [], ◌++◌, length, sym, ap, ◌∙◌, subst, arith}
use Rattle.turn_cell.specs.Making.{AreMade}
use Rattle.turn_cell.proofs.make.fill.Goals as goal
use Rattle.flow_defs.proofs.Lists.{refilled}

pub another-further-requires-clause-made : goal.another-further-requires-clause-made
another-further-requires-clause-made g c = subst (AreMade c.args.cell.now c.loop-number.number) (sym c.as_mut_slice.ensures.value) c.loop-number.invariant.made

pub loop-number-preserved : goal.loop-number-preserved
loop-number-preserved g c = let q = c.loop-number.invariant in let next = c.another-further.ensures in let pushed = c.in-Ok.ensures in
    let all = c.loop-number.all.items in let made = c.another-further.new.made in let further = c.another-further.result in
    let is = pushed.ok ∙ ap (λ l. l ++ further ∷ []) (refilled all made (next.1 ∙ ap length c.as_mut_slice.ensures.value)) in
    let left = pushed.room in let room = q.room in record {
      made = subst (AreMade c.args.cell.now (c.loop-number.number + 1)) (sym is) next.0;
      room = omega arith;
      within = omega arith;
    }

pub returns : goal.returns
returns g c = let last = c.loop-number.invariant.within in let end = c.loop-number-test.false in subst (λ n. AreMade c.args.cell.now n c.loop-number.all.items) (omega arith) c.loop-number.invariant.made
