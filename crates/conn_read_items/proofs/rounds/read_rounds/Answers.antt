use Rattle.std.proofs.Common.{inl, inr, refl, sym, ap, ◌∙◌, [], arith}
use Rattle.turn_cell.specs.Passes.{number, mine, seen}
use Rattle.flow_defs.specs.declared.cause.Cause.TheVariants.{Stopped}
use Rattle.outside.specs.Stops.{first_met}
use Rattle.conn_parts.specs.Stopping.{StopPass}
use Rattle.conn_parts.proofs.Telling.{appended_none}
use Rattle.conn_read_items.proofs.Asking.{for_none, for_more, for_later}
use Rattle.conn_read_items.proofs.EndLaws.{nothing_same}
use Rattle.conn_read_items.proofs.RoundLaws.{went_nowhere, went_further, read_to_end}
use Rattle.conn_read_items.proofs.rounds.read_rounds.Goals as goal

pub loop-round-init : goal.loop-round-init
loop-round-init g c = record {
  lent = c.requires.lent;
  others = record { readers = refl; subpartitions = refl };
  asked = λ task. for_none c.args.cells.now.channels.now task c.args.passes.now c.args.passes.now refl refl;
  line = refl;
  faults = omega arith;
  ended = refl;
  account = went_nowhere c.args.cells.now.channels.now c.args.passes.now.inputs.items (g.I.LinkIn.got c.args.input.now) c.args.incoming.now c.requires.fresh;
  same_number = refl;
  no_entry = refl;
  calm = λ e. let n = c.new-watch.ensures in absurd (cc);
}

pub loop-round-preserved : goal.loop-round-preserved
loop-round-preserved g c = let i = c.loop-round.invariant in let went = c.in-None-go_on.ensures in let look = c.look.ensures.pass.1 in record {
  lent = went.lent;
  others = record { readers = went.others.readers ∙ i.others.readers; subpartitions = went.others.subpartitions ∙ i.others.subpartitions };
  asked = λ task. for_later c.args.cells.now.channels.now task c.args.passes.now c.loop-round.passes (record c.loop-round.passes { stop = c.look.new.pass }) c.go_on.new.passes refl refl
      (i.asked task) (c.go_on.ensures.asked task);
  line = went.line ∙ i.line;
  faults = omega (arith, i.faults, went.never_falls);
  ended = went.open_end ∙ i.ended;
  account = went_further c.args.cells.now.channels.now c.args.passes.now.inputs.items c.loop-round.passes.inputs.items c.go_on.new.passes.inputs.items
      (g.I.LinkIn.got c.args.input.now) (g.I.LinkIn.got c.loop-round.input) (g.I.LinkIn.got c.go_on.new.input) [] c.loop-round.incoming c.go_on.new.incoming i.account went.went_on;
  same_number = ap (λ (p : StopPass). number p) went.stop ∙ look.0 ∙ i.same_number;
  no_entry = ap (λ (p : StopPass). mine p) went.stop ∙ look.1 ∙ i.no_entry;
  calm = λ _. ap (λ (p : StopPass). first_met (seen p)) went.stop ∙ sym (sym c.in-None-look.is ∙ c.look.ensures.answer);
}

pub returns-in-Some-go_on-clause-account : goal.returns-in-Some-go_on-clause-account
returns-in-Some-go_on-clause-account g c = let i = c.loop-round.invariant in let ended = c.in-Some-go_on.ensures.ended in
    read_to_end c.args.cells.now c.args.passes.now c.loop-round.passes c.go_on.new.passes (g.I.LinkIn.got c.args.input.now) (g.I.LinkIn.got c.loop-round.input) (g.I.LinkIn.got c.go_on.new.input)
    (g.I.LinkIn.ended c.args.input.now) (g.I.LinkIn.ended c.loop-round.input) (g.I.LinkIn.ended c.go_on.new.input) c.loop-round.incoming
    (g.I.LinkIn.faults c.args.input.now) (g.I.LinkIn.faults c.loop-round.input) (g.I.LinkIn.faults c.go_on.new.input) c.in-Some-go_on.cause
    i.account i.ended i.faults ended.came ended.gave ended.why

pub returns-in-Some-go_on-clause-asked : goal.returns-in-Some-go_on-clause-asked
returns-in-Some-go_on-clause-asked g c = λ task.
    for_later c.args.cells.now.channels.now task c.args.passes.now c.loop-round.passes (record c.loop-round.passes { stop = c.look.new.pass }) c.go_on.new.passes refl refl
    (c.loop-round.invariant.asked task) (c.go_on.ensures.asked task)

pub returns-in-Some-look-clause-account : goal.returns-in-Some-look-clause-account
returns-in-Some-look-clause-account g c = let i = c.loop-round.invariant in let passes = c.loop-round.passes in
    let got = g.I.LinkIn.got c.loop-round.input in let ended = g.I.LinkIn.ended c.loop-round.input in let faults = g.I.LinkIn.faults c.loop-round.input in
    read_to_end c.args.cells.now c.args.passes.now passes (record passes { stop = c.look.new.pass }) (g.I.LinkIn.got c.args.input.now) got got (g.I.LinkIn.ended c.args.input.now) ended ended
    c.loop-round.incoming (g.I.LinkIn.faults c.args.input.now) faults faults Stopped
    i.account i.ended i.faults (appended_none got) (nothing_same passes.inputs.items passes.inputs.items Stopped refl) (inr (inl refl))

pub returns-in-Some-look-clause-asked : goal.returns-in-Some-look-clause-asked
returns-in-Some-look-clause-asked g c = λ task. let channels = c.args.cells.now.channels.now in let after = record c.loop-round.passes { stop = c.look.new.pass } in
    for_more channels task c.args.passes.now c.loop-round.passes after (c.loop-round.invariant.asked task) (for_none channels task c.loop-round.passes after refl refl)
