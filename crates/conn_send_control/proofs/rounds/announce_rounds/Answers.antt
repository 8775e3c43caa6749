use Rattle.std.proofs.Common.{◌≡◌, Bool, true, refl, sym, ◌∙◌, subst, arith}
use Rattle.std.specs.Prelude.{All}
use Rattle.conn_send_control.proofs.Ends.{all_ended}
use Rattle.conn_send_control.proofs.Steps.{WentWell, went_well, was_cut, well_none, well_on, cut_after, ended_done, ended_link}
use Rattle.conn_send_control.proofs.rounds.announce_rounds.Goals as goal

pub loop-round-init : goal.loop-round-init
loop-round-init g c = record {
  own = c.requires.own;
  unfinished = refl;
  line = refl;
  never_falls = omega arith;
  many = c.requires.many.1;
  ended = c.requires.ended;
  stop = c.requires.stop;
  same = (refl, refl);
  calm = λ e. let n = c.new-watch.ensures in absurd (cc);
  empty = c.requires.empty;
  account = subst (λ laid. WentWell c.args.channels.now c.args.passes.now.items c.args.passes.now.items (g.O.LinkOut.sent c.args.out.now) (g.O.LinkOut.sent c.args.out.now) laid c.args.outgoing.now) c.requires.empty
      (well_none c.args.channels.now c.args.passes.now.items (g.O.LinkOut.sent c.args.out.now) c.args.outgoing.now);
}

pub returns-in-Err-clause-account : goal.returns-in-Err-clause-account
returns-in-Err-clause-account g c = let i = c.loop-round.invariant in
    ended_link c.args.channels.now _ _ _ _ _ _
    (cut_after c.args.channels.now _ _ _ _ _ _ _ _ _ _ _ i.never_falls i.account (was_cut c.args.channels.now _ _ _ _ _ _ _ _ _ c.in-Err.ensures.account))

pub returns-then-have_all_ended-clause-account : goal.returns-then-have_all_ended-clause-account
returns-then-have_all_ended-clause-account g c =
    let i = c.loop-round.invariant in
    ended_done c.args.channels.now _ _ _ _ c.announce_all.new.outgoing _ _ c.in-Ok.ensures.empty
    (all_ended c.args.channels.now c.announce_all.new.ended.items c.announce_all.new.passes.items c.announce_all.ensures.ended.0
    (subst (λ flags. All (λ (b : Bool). b ≡ true) flags) c.as_slice.ensures (c.have_all_ended.ensures c.if-have_all_ended.true)) c.announce_all.ensures.ended.1)
    (well_on c.args.channels.now _ _ _ _ _ _ _ _ _ i.account (went_well c.args.channels.now _ _ _ _ _ _ _ _ _ c.in-Ok.ensures.account))

pub loop-round-preserved-then-told : goal.loop-round-preserved-then-told
loop-round-preserved-then-told g c = let i = c.loop-round.invariant in record {
  own = c.announce_all.ensures.own;
  unfinished = c.announce_all.ensures.unfinished ∙ i.unfinished;
  line = c.announce_all.ensures.line ∙ i.line;
  never_falls = omega (arith, i.never_falls, c.announce_all.ensures.never_falls);
  many = c.announce_all.ensures.ended.0;
  ended = c.announce_all.ensures.ended.1;
  stop = c.look.ensures.pass.0;
  same = (c.look.ensures.pass.1.0 ∙ i.same.0, c.look.ensures.pass.1.1 ∙ i.same.1);
  calm = λ _. sym (sym c.in_default.is ∙ c.look.ensures.answer);
  empty = c.in-Ok.ensures.empty;
  account = well_on c.args.channels.now _ _ _ _ _ _ _ _ _ i.account (went_well c.args.channels.now _ _ _ _ _ _ _ _ _ c.in-Ok.ensures.account);
}

pub loop-round-preserved : goal.loop-round-preserved
loop-round-preserved g c = let i = c.loop-round.invariant in record {
  own = c.announce_all.ensures.own;
  unfinished = c.announce_all.ensures.unfinished ∙ i.unfinished;
  line = c.announce_all.ensures.line ∙ i.line;
  never_falls = omega (arith, i.never_falls, c.announce_all.ensures.never_falls);
  many = c.announce_all.ensures.ended.0;
  ended = c.announce_all.ensures.ended.1;
  stop = c.look.ensures.pass.0;
  same = (c.look.ensures.pass.1.0 ∙ i.same.0, c.look.ensures.pass.1.1 ∙ i.same.1);
  calm = λ _. sym (sym c.in_default.is ∙ c.look.ensures.answer);
  empty = c.in-Ok.ensures.empty;
  account = well_on c.args.channels.now _ _ _ _ _ _ _ _ _ i.account (went_well c.args.channels.now _ _ _ _ _ _ _ _ _ c.in-Ok.ensures.account);
}
