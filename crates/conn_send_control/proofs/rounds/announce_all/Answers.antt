use Rattle.std.proofs.Common.{◌∙◌, arith}
use Rattle.std.proofs.lemmas.Result.{err_from_is_err_and}
use Rattle.conn_send_control.proofs.Steps.{went_well, was_cut, well_on, well_written, cut_after, cut_last, announced_well, announced_failed}
use Rattle.conn_send_control.proofs.rounds.announce_all.Goals as goal

pub returns-in_err-told-clause-account : goal.returns-in_err-told-clause-account
returns-in_err-told-clause-account g c =
    let failed = err_from_is_err_and c.from_residual.result c.from_residual.ensures.1 in let i = c.loop-at.invariant in
    announced_failed c.args.channels.now _ _ _ _ _ _ _ _ failed.0 c.from_residual.result failed.1
    (cut_after c.args.channels.now _ _ _ _ _ _ _ _ _ _ _ i.never_falls i.account (was_cut c.args.channels.now _ _ _ _ _ _ _ _ _ c.in_err-told.ensures.account))

pub loop-at-preserved : goal.loop-at-preserved
loop-at-preserved g c = let i = c.loop-at.invariant in record {
  own = c.announce_at.ensures.own;
  unfinished = c.announce_at.ensures.unfinished ∙ i.unfinished;
  line = c.announce_at.ensures.line ∙ i.line;
  never_falls = omega (arith, i.never_falls, c.announce_at.ensures.never_falls);
  many = c.announce_at.ensures.ended.0;
  ended = c.announce_at.ensures.ended.1;
  account = well_on c.args.channels.now _ _ _ _ _ _ _ _ _ i.account (went_well c.args.channels.now _ _ _ _ _ _ _ _ _ c.in_ok-told.ensures.account);
}

pub returns-in_err-write_to-clause-account : goal.returns-in_err-write_to-clause-account
returns-in_err-write_to-clause-account g c =
    let failed = err_from_is_err_and c.from_residual-in_err-write_to.result c.from_residual-in_err-write_to.ensures.1 in let i = c.loop-at.invariant in
    announced_failed c.args.channels.now _ _ _ _ _ _ _ _ failed.0 c.from_residual-in_err-write_to.result failed.1
    (cut_last c.args.channels.now _ _ _ _ _ _ _ _ _ _ i.never_falls i.account c.in_err-write_to.ensures.written)

pub returns-clause-account : goal.returns-clause-account
returns-clause-account g c = let i = c.loop-at.invariant in
    announced_well c.args.channels.now _ _ _ _ _ _ _ _ _ (well_written c.args.channels.now _ _ _ _ _ _ _ _ i.account c.in_ok-write_to.ensures.written c.write_to.ensures.empty)
