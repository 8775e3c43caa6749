use Rattle.std.proofs.Common.{◌≡◌, ◌<◌, ◌++◌, ◌∷◌, [], List, length, get_or, sym, ap, subst, ◌∙◌, arith}
use Rattle.turn_cell.specs.Passes.{IsPassOf, number, mine}
use Rattle.subpartition.specs.declared.entry.SendEntry.TheVariants.{Size}
use Rattle.conn_parts.proofs.Passes.{pass_at, number_at, are_own_lent}
use Rattle.conn_read_control.specs.Rounds.{SendPass}
use Rattle.conn_read_control.proofs.Sizing.{desired_lent}
use Rattle.conn_read_control.proofs.sizes.desire_at.Goals as goal

pub fill_up_to-requires-clause-pass : goal.fill_up_to-requires-clause-pass
fill_up_to-requires-clause-pass g c =
    let passes = c.args.passes.now.items in let pass = c.index-as_mut_slice-place.result in let cell = c.index-cells-place.result in
    let is : pass ≡ get_or passes c.args.place pass = c.index-as_mut_slice-place.is ∙ ap (λ (l : List SendPass). get_or l c.args.place pass) c.as_mut_slice.ensures.value in (
      subst (λ (p : SendPass). IsPassOf cell p) c.index-as_mut_slice-place.is (pass_at c.args.cells.now passes c.args.place cell pass c.requires.passes.of_cells c.requires.place c.index-cells-place.is is),
      subst (λ (p : SendPass). number p ≡ 2) c.index-as_mut_slice-place.is (number_at 2 c.args.cells.now passes c.args.place pass c.requires.passes c.requires.place is),
    )

pub returns-clause-passes : goal.returns-clause-passes
returns-clause-passes g c =
    are_own_lent 2 c.args.cells.now c.args.passes.now.items c.as_mut_slice.result.now c.args.place c.index-cells-place.result c.fill_up_to.new.pass
    c.as_mut_slice.ensures.value c.requires.passes c.requires.place c.index-cells-place.is c.fill_up_to.ensures.pass.0 c.fill_up_to.ensures.pass.1

pub returns-clause-told : goal.returns-clause-told
returns-clause-told g c =
    let passes = c.args.passes.now.items in let pass = c.index-as_mut_slice-place.result in
    let is : pass ≡ get_or passes c.args.place pass = c.index-as_mut_slice-place.is ∙ ap (λ (l : List SendPass). get_or l c.args.place pass) c.as_mut_slice.ensures.value in
    let within : c.args.place < length passes = omega (arith, c.requires.passes.of_cells.many, c.requires.place) in
    let told = c.fill_up_to.ensures.told ∙ ap (λ (p : SendPass). mine p ++ Size c.args.n ∷ []) (sym c.index-as_mut_slice-place.is) in
    desired_lent c.args.n passes c.as_mut_slice.result.now c.args.place pass c.fill_up_to.new.pass c.as_mut_slice.ensures.value within is told
