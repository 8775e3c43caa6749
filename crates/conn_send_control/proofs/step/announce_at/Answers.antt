use Rattle.std.proofs.Common.{◌∙◌}
use Rattle.std.proofs.lemmas.Result.{err_from_is_err_and}
use Rattle.conn_send_control.proofs.Ends.{ended_on, ended_set, ended_many}
use Rattle.conn_send_control.proofs.Steps.{announced_none, went_well, was_cut, well_on, cut_after, announced_well, announced_failed}
use Rattle.conn_send_control.proofs.step.announce_at.Goals as goal

pub returns-then-as_slice-at-clause-account : goal.returns-then-as_slice-at-clause-account
returns-then-as_slice-at-clause-account g c = announced_none c.args.channels.now _ _ _ _ _

pub returns-in_err-taken-clause-ended : goal.returns-in_err-taken-clause-ended
returns-in_err-taken-clause-ended g c = (c.requires.within.2, ended_on _ _ _ c.requires.ended c.tell_credit.ensures.seen)

pub returns-in_err-resumed-clause-account : goal.returns-in_err-resumed-clause-account
returns-in_err-resumed-clause-account g c =
    let failed = err_from_is_err_and c.from_residual-in_err-resumed.result c.from_residual-in_err-resumed.ensures.1 in
    announced_failed c.args.channels.now _ _ _ _ _ _ _ _ failed.0 c.from_residual-in_err-resumed.result failed.1
    (cut_after c.args.channels.now _ _ _ _ _ _ _ _ _ _ _ c.tell_credit.ensures.never_falls
    (went_well c.args.channels.now _ _ _ _ _ _ _ _ _ c.in_ok-taken.ensures.account) (was_cut c.args.channels.now _ _ _ _ _ _ _ _ _ c.in_err-resumed.ensures.account))

pub returns-in_err-resumed-clause-ended : goal.returns-in_err-resumed-clause-ended
returns-in_err-resumed-clause-ended g c = (
  ended_many _ _ _ _ c.as_mut_slice.ensures.value ∙ c.requires.within.2,
  ended_on _ _ _ (ended_set _ _ _ _ _ _ c.as_mut_slice.ensures.value c.requires.ended c.tell_credit.ensures.seen c.in_ok-taken.ensures.ended) c.tell_resumption.ensures.seen,
)

pub returns-then-resumed-clause-account : goal.returns-then-resumed-clause-account
returns-then-resumed-clause-account g c =
    announced_well c.args.channels.now _ _ _ _ _ _ _ _ _
    (well_on c.args.channels.now _ _ _ _ _ _ _ _ _
    (went_well c.args.channels.now _ _ _ _ _ _ _ _ _ c.in_ok-taken.ensures.account) (went_well c.args.channels.now _ _ _ _ _ _ _ _ _ c.in_ok-resumed.ensures.account))

pub returns-then-resumed-clause-ended : goal.returns-then-resumed-clause-ended
returns-then-resumed-clause-ended g c = (
  ended_many _ _ _ _ c.as_mut_slice.ensures.value ∙ c.requires.within.2,
  ended_on _ _ _ (ended_set _ _ _ _ _ _ c.as_mut_slice.ensures.value c.requires.ended c.tell_credit.ensures.seen c.in_ok-taken.ensures.ended) c.tell_resumption.ensures.seen,
)

pub returns-else-resumed-clause-account : goal.returns-else-resumed-clause-account
returns-else-resumed-clause-account g c =
    announced_well c.args.channels.now _ _ _ _ _ _ _ _ _
    (well_on c.args.channels.now _ _ _ _ _ _ _ _ _
    (went_well c.args.channels.now _ _ _ _ _ _ _ _ _ c.in_ok-taken.ensures.account) (went_well c.args.channels.now _ _ _ _ _ _ _ _ _ c.in_ok-resumed.ensures.account))

pub returns-else-resumed-clause-ended : goal.returns-else-resumed-clause-ended
returns-else-resumed-clause-ended g c = (
  ended_many _ _ _ _ c.as_mut_slice.ensures.value ∙ c.requires.within.2,
  ended_on _ _ _ (ended_set _ _ _ _ _ _ c.as_mut_slice.ensures.value c.requires.ended c.tell_credit.ensures.seen c.in_ok-taken.ensures.ended) c.tell_resumption.ensures.seen,
)
