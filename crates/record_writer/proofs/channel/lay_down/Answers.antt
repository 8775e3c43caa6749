use Rattle.std.proofs.Common.{◌≡◌, ◌∙◌, refl, rules, arith}
use Rattle.turn_cell.specs.Passes.{mine}
use Rattle.flow_defs.specs.Records.{encoded}
use Rattle.record_writer.specs.Channels.{laid}
use Rattle.record_writer.proofs.Entries.{grew_on}
use Rattle.record_writer.proofs.Putting.{on_err, laid_same, laid_more, laid_some, laid_all, encoded_length, same_on}
use Rattle.record_writer.proofs.Segments.{lost_none_at, lost_none_filling}
use Rattle.record_writer.proofs.channel.lay_down.Goals as goal

pub returns-in_err-put_if_full-clause-stopped : goal.returns-in_err-put_if_full-clause-stopped
returns-in_err-put_if_full-clause-stopped g c =
    let before = laid (mine c.args.pass.now) c.args.part.now in let was = laid (mine c.loop-round.pass) c.loop-round.part in
    on_err c.from_residual.result (laid_some (laid (mine c.put_if_full.new.pass) c.put_if_full.new.part) was before (encoded c.args.line.now) c.loop-round.done c.in_err-put_if_full.ensures.laid c.loop-round.invariant.laid_is, c.in_err-put_if_full.ensures.stopped)

pub returns-then-done-all-clause-laid : goal.returns-then-done-all-clause-laid
returns-then-done-all-clause-laid g c =
    let before = laid (mine c.args.pass.now) c.args.part.now in let was = laid (mine c.loop-round.pass) c.loop-round.part in
    laid_all (laid (mine c.put_if_full.new.pass) c.put_if_full.new.part) was before (encoded c.args.line.now) c.loop-round.done c.in_ok-put_if_full.ensures.laid c.loop-round.invariant.laid_is (omega (arith, encoded_length c.args.line.now))

pub returns-in_err-done-clause-stopped : goal.returns-in_err-done-clause-stopped
returns-in_err-done-clause-stopped g c =
    let before = laid (mine c.args.pass.now) c.args.part.now in let was = laid (mine c.loop-round.pass) c.loop-round.part in
    let own = mine c.put_if_full.new.pass in let full = laid own c.put_if_full.new.part in let now = laid own c.fill.new.part in
    let same : now ≡ full = laid_same own own c.put_if_full.new.part c.fill.new.part refl c.in_err-done.ensures.stopped.0 in
    let is : now ≡ was = (◌∙◌) {a = now} {b = full} {c = was} same c.in_ok-put_if_full.ensures.laid in
    on_err c.from_residual-in_err-done.result (laid_some now was before (encoded c.args.line.now) c.loop-round.done is c.loop-round.invariant.laid_is, c.in_err-done.ensures.stopped.1)

pub loop-round-preserved : goal.loop-round-preserved
loop-round-preserved g c =
    let before = laid (mine c.args.pass.now) c.args.part.now in let was = laid (mine c.loop-round.pass) c.loop-round.part in
    let s1 = c.loop-round.invariant.same in let s2 = c.in_ok-put_if_full.ensures.supply.1 in let s3 = c.in_ok-done.ensures.supply.1 in
    record {
      supply = c.in_ok-done.ensures.supply.0;
      same = same_on _ _ _ (same_on _ _ _ s1 s2) s3;
      pass = c.in_ok-put_if_full.ensures.pass;
      part = search rules;
      is_open = search rules;
      within = omega (arith, c.in_ok-done.ensures.count);
      laid_is = laid_more (mine c.put_if_full.new.pass) c.put_if_full.new.part c.fill.new.part was before (encoded c.args.line.now) c.loop-round.done c.in_ok-done.field-0
          c.in_ok-put_if_full.ensures.laid c.loop-round.invariant.laid_is c.in_ok-done.ensures.copied;
      entries = grew_on (mine c.args.pass.now) (mine c.loop-round.pass) (mine c.put_if_full.new.pass) c.loop-round.invariant.entries c.put_if_full.ensures.entries;
      none_lost = lost_none_filling c.args.supply.now c.put_if_full.new.supply c.fill.new.supply (mine c.args.pass.now) (mine c.put_if_full.new.pass) c.args.part.now c.put_if_full.new.part c.fill.new.part (lost_none_at c.args.supply.now c.loop-round.supply c.put_if_full.new.supply (mine c.args.pass.now) (mine c.loop-round.pass) (mine c.put_if_full.new.pass) c.args.part.now c.loop-round.part c.put_if_full.new.part c.loop-round.invariant.none_lost c.put_if_full.ensures.none_lost) c.fill.ensures.none_lost;
    }

pub returns-in_err-put_if_full-clause-entries : goal.returns-in_err-put_if_full-clause-entries
returns-in_err-put_if_full-clause-entries g c = grew_on (mine c.args.pass.now) (mine c.loop-round.pass) (mine c.put_if_full.new.pass) c.loop-round.invariant.entries c.put_if_full.ensures.entries

pub returns-then-done-all-clause-entries : goal.returns-then-done-all-clause-entries
returns-then-done-all-clause-entries g c = grew_on (mine c.args.pass.now) (mine c.loop-round.pass) (mine c.put_if_full.new.pass) c.loop-round.invariant.entries c.put_if_full.ensures.entries

pub returns-in_err-done-clause-entries : goal.returns-in_err-done-clause-entries
returns-in_err-done-clause-entries g c = grew_on (mine c.args.pass.now) (mine c.loop-round.pass) (mine c.put_if_full.new.pass) c.loop-round.invariant.entries c.put_if_full.ensures.entries

pub returns-in_err-put_if_full-clause-none_lost : goal.returns-in_err-put_if_full-clause-none_lost
returns-in_err-put_if_full-clause-none_lost g c = lost_none_at c.args.supply.now c.loop-round.supply c.put_if_full.new.supply (mine c.args.pass.now) (mine c.loop-round.pass) (mine c.put_if_full.new.pass) c.args.part.now c.loop-round.part c.put_if_full.new.part c.loop-round.invariant.none_lost c.put_if_full.ensures.none_lost

pub returns-then-done-all-clause-none_lost : goal.returns-then-done-all-clause-none_lost
returns-then-done-all-clause-none_lost g c = lost_none_at c.args.supply.now c.loop-round.supply c.put_if_full.new.supply (mine c.args.pass.now) (mine c.loop-round.pass) (mine c.put_if_full.new.pass) c.args.part.now c.loop-round.part c.put_if_full.new.part c.loop-round.invariant.none_lost c.put_if_full.ensures.none_lost

pub returns-in_err-done-clause-none_lost : goal.returns-in_err-done-clause-none_lost
returns-in_err-done-clause-none_lost g c =
    lost_none_filling c.args.supply.now c.put_if_full.new.supply c.fill.new.supply (mine c.args.pass.now) (mine c.put_if_full.new.pass) c.args.part.now c.put_if_full.new.part c.fill.new.part (lost_none_at c.args.supply.now c.loop-round.supply c.put_if_full.new.supply (mine c.args.pass.now) (mine c.loop-round.pass) (mine c.put_if_full.new.pass) c.args.part.now c.loop-round.part c.put_if_full.new.part c.loop-round.invariant.none_lost c.put_if_full.ensures.none_lost) c.fill.ensures.none_lost
