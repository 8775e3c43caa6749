use Rattle.std.proofs.Common.{refl, sym, subst}
use Rattle.std.proofs.lemmas.Result.{on_err_weaker}
use Rattle.turn_cell.specs.Passes.{mine}
use Rattle.record_writer.specs.Writers.{bytes_in}
use Rattle.record_writer.specs.Channels.{IsOpenAt}
use Rattle.record_writer.proofs.Entries.{grew_none, grew_one}
use Rattle.record_writer.proofs.Putting.{either_way, filled_least, full_length, put_keeps_open, laid_after, laid_same}
use Rattle.record_writer.proofs.channel.put_if_full.Goals as goal

pub returns-clause-is_open : goal.returns-clause-is_open
returns-clause-is_open g c =
    let size = c.args.supply.now.size in let part = c.args.part.now in let own = mine c.args.pass.now in let own' = mine c.put_part.new.pass in
    either_way c.put_part.result c.put_part.ensures.entered c.put_part.ensures.stopped
    (λ put. put_keeps_open size (bytes_in part) own own' (filled_least size part.segment part.len c.requires.part) (full_length size part c.requires.part c.if-part-supply.false) c.requires.is_open put.0)
    (λ stopped. subst (IsOpenAt size) (sym stopped.0) c.requires.is_open)

pub returns-clause-laid : goal.returns-clause-laid
returns-clause-laid g c =
    let own = mine c.args.pass.now in let own' = mine c.put_part.new.pass in
    either_way c.put_part.result c.put_part.ensures.entered c.put_part.ensures.stopped
    (λ put. laid_after own own' c.args.part.now c.put_part.new.part put.0 put.1)
    (λ stopped. laid_same own own' c.args.part.now c.put_part.new.part stopped.0 stopped.1)

pub returns-clause-stopped : goal.returns-clause-stopped
returns-clause-stopped g c = on_err_weaker c.put_part.result (λ stopped. stopped.2) c.put_part.ensures.stopped

pub returns-then-part-supply-clause-entries : goal.returns-then-part-supply-clause-entries
returns-then-part-supply-clause-entries g c = let own = mine c.args.pass.now in grew_none own own refl

pub returns-clause-entries : goal.returns-clause-entries
returns-clause-entries g c =
    let own = mine c.args.pass.now in let own' = mine c.put_part.new.pass in
    either_way c.put_part.result c.put_part.ensures.entered c.put_part.ensures.stopped
    (λ put. grew_one (bytes_in c.args.part.now) own own' put.0)
    (λ stopped. grew_none own own' stopped.0)
