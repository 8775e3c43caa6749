use Rattle.std.proofs.Common.{[], ◌++◌, refl, arith, ◌∙◌}
use Rattle.conn_read_control.proofs.Rounding.{gets_more}
use Rattle.conn_read_control.proofs.Ending.{ended_more, ended_memory, gets_first}
use Rattle.conn_read_control.proofs.rounds.read_frames.Goals as goal

pub returns-in_default-clause-ended : goal.returns-in_default-clause-ended
returns-in_default-clause-ended g c =
    let old = c.args.input.now in ended_memory c.args.cells.now c.args.passes.now (g.I.LinkIn.got old) (g.I.LinkIn.ended old) (g.I.LinkIn.faults old)

pub loop-round-init : goal.loop-round-init
loop-round-init g c = record {
  passes = c.requires.passes;
  stop = (refl, refl);
  line = refl;
  ended = refl;
  never_falls = omega arith;
  calm = λ e. let n = c.new-watch.ensures in absurd (cc);
  account = ([], gets_first c.args.cells.now c.args.passes.now (g.I.LinkIn.got c.args.input.now) c.in-Ok.incoming c.in-Ok.ensures);
}

pub returns-in-Some-round-clause-ended : goal.returns-in-Some-round-clause-ended
returns-in-Some-round-clause-ended g c =
    let first = c.args.input.now in let old = c.loop-round.input in let new = c.round.new.input in let i = c.loop-round.invariant in
    ended_more c.args.cells.now c.args.passes.now c.loop-round.passes c.round.new.passes (g.I.LinkIn.got first) (g.I.LinkIn.got old) (g.I.LinkIn.got new)
    (g.I.LinkIn.ended first) (g.I.LinkIn.ended old) (g.I.LinkIn.ended new) (g.I.LinkIn.faults first) (g.I.LinkIn.faults old) (g.I.LinkIn.faults new)
    [] c.loop-round.incoming i.account.0 c.in-Some-round.cause i.account.1 i.ended i.never_falls c.in-Some-round.ensures.went

pub loop-round-preserved : goal.loop-round-preserved
loop-round-preserved g c =
    let first = c.args.input.now in let old = c.loop-round.input in let new = c.round.new.input in let i = c.loop-round.invariant in let went = c.in_default-round.ensures.went in
    record {
      passes = c.round.ensures.passes.0;
      stop = (c.round.ensures.passes.1.0 ∙ i.stop.0, c.round.ensures.passes.1.1 ∙ i.stop.1);
      line = c.round.ensures.line ∙ i.line;
      ended = went.1 ∙ i.ended;
      never_falls = omega (arith, i.never_falls, c.round.ensures.never_falls);
      calm = λ _. c.in_default-round.ensures.calm;
      account = (
        i.account.0 ++ went.0.0,
        gets_more c.args.cells.now.channels.now c.args.cells.now.size c.args.passes.now c.loop-round.passes c.round.new.passes (g.I.LinkIn.got first) (g.I.LinkIn.got old) (g.I.LinkIn.got new)
            [] c.loop-round.incoming c.round.new.incoming i.account.0 went.0.0 i.account.1 went.0.1,
      );
    }
