use Rattle.std.proofs.Common.{◌<◌, length, get_or, ap, subst, ◌∙◌, arith}
use Rattle.std.proofs.lemmas.Result.{err_from_is_err_and}
use Rattle.turn_cell.specs.Passes.{IsPassOf}
use Rattle.conn_parts.proofs.Passes.{pass_at, are_own_lent}
use Rattle.conn_send_control.proofs.Telling.{tells_resumption, channel_at, told_at}
use Rattle.conn_send_control.proofs.Steps.{announced_cut, announced_laid, seen_lent}
use Rattle.conn_send_control.proofs.step.tell_resumption.Goals as goal

pub returns-in_err-make_room-clause-account : goal.returns-in_err-make_room-clause-account
returns-in_err-make_room-clause-account g c =
    let failed = err_from_is_err_and c.from_residual.result c.from_residual.ensures.1 in
    announced_cut c.args.channels.now _ _ _ _ _ _ _ failed.0 c.from_residual.result failed.1 c.in_err-make_room.ensures.out

pub take_resumption-taken-requires-clause-pass : goal.take_resumption-taken-requires-clause-pass
take_resumption-taken-requires-clause-pass g c =
    let own = c.requires.own in let within : c.args.at < length c.args.cells.now = let w = c.requires.within in omega (arith, w.0, w.1) in
    subst (IsPassOf c.index-cells-at.result) c.index-as_mut_slice-at.is
    (pass_at c.args.cells.now c.args.passes.now.items c.args.at c.index-cells-at.result c.index-as_mut_slice-at.result own.of_cells within c.index-cells-at.is
    (c.index-as_mut_slice-at.is ∙ ap (λ ps. get_or ps c.args.at c.index-as_mut_slice-at.result) c.as_mut_slice.ensures.value))

pub returns-clause-own : goal.returns-clause-own
returns-clause-own g c =
    let within : c.args.at < length c.args.cells.now = let w = c.requires.within in omega (arith, w.0, w.1) in
    are_own_lent 2 c.args.cells.now c.args.passes.now.items c.as_mut_slice.result.now c.args.at c.index-cells-at.result c.take_resumption-taken.new.pass
    c.as_mut_slice.ensures.value c.requires.own within c.index-cells-at.is c.take_resumption-taken.ensures.pass.0 c.take_resumption-taken.ensures.pass.1

pub returns-clause-account : goal.returns-clause-account
returns-clause-account g c =
    let many = c.requires.own.of_cells.many in
    let within : c.args.at < length c.args.passes.now.items = let w = c.requires.within in omega (arith, w.0, w.1, many) in
    let read = get_or c.as_mut_slice.result.now c.args.at in
    let here = channel_at c.args.channels.now c.args.at c.requires.within.0 in
    let tells = tells_resumption _ c.take_resumption-taken.result in
    let told = told_at c.args.channels.now c.args.passes.now.items c.args.at _ (read c.index-as_mut_slice-at.result) c.take_resumption-taken.new.pass _ _ _
    c.as_mut_slice.result.now c.as_mut_slice.ensures.value c.requires.distinct within here (ap read c.index-as_mut_slice-at.is) c.lay_resumption.ensures.frames tells c.take_resumption-taken.ensures.took in
    announced_laid c.args.channels.now _ _ _ _ _ _ _ _ _ _ _ c.in_ok-make_room.ensures.out told tells.later c.lay_resumption.ensures.laid

pub returns-clause-seen : goal.returns-clause-seen
returns-clause-seen g c =
    let many = c.requires.own.of_cells.many in
    let within : c.args.at < length c.args.passes.now.items = let w = c.requires.within in omega (arith, w.0, w.1, many) in
    let read = get_or c.as_mut_slice.result.now c.args.at in
    seen_lent c.args.passes.now.items c.as_mut_slice.result.now c.args.at (read c.index-as_mut_slice-at.result) c.take_resumption-taken.new.pass c.as_mut_slice.ensures.value within (ap read c.index-as_mut_slice-at.is) c.take_resumption-taken.ensures.seen
