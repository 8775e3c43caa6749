use Rattle.std.proofs.Common.{refl, ap}
use Rattle.std.proofs.lemmas.Result.{on_ok_weaker, on_err_weaker}
use Rattle.turn_cell.specs.Passes.{mine}
use Rattle.subpartition.specs.declared.entry.SendEntry.TheVariants.{Finish}
use Rattle.record_writer.specs.Writers.{bytes_in}
use Rattle.record_writer.specs.Segments.{buffers_put}
use Rattle.record_writer.proofs.Putting.{either_way, on_err, put_keeps_unfinished}
use Rattle.record_writer.proofs.Ending.{stopped_before, stopped_at, ended_at}
use Rattle.record_writer.proofs.Segments.{no_more, lost_none_then}
use Rattle.record_writer.proofs.channel.close.Goals as goal

pub finish_waiting-requires-clause-open_end : goal.finish_waiting-requires-clause-open_end
finish_waiting-requires-clause-open_end g c =
    put_keeps_unfinished (bytes_in c.args.part.now) (mine c.args.pass.now) (mine c.put_part.new.pass) c.requires.is_open.unfinished c.in_ok-put_part.ensures.entered.0

pub returns-in_err-put_part-clause-stopped : goal.returns-in_err-put_part-clause-stopped
returns-in_err-put_part-clause-stopped g c =
    let stopped = c.in_err-put_part.ensures.stopped in
    on_err c.from_residual.result (stopped_before c.args.supply.now.size Finish (bytes_in c.args.part.now) (mine c.args.pass.now) (mine c.put_part.new.pass) c.requires.is_open stopped.0, stopped.2)

pub returns-clause-finished : goal.returns-clause-finished
returns-clause-finished g c =
    on_ok_weaker c.finish_waiting.result
    (ended_at c.args.supply.now.size c.args.part.now (mine c.args.pass.now) (mine c.put_part.new.pass) (mine c.finish_waiting.new.pass) c.requires.part c.requires.is_open c.in_ok-put_part.ensures.entered.0)
    c.finish_waiting.ensures.entered

pub returns-clause-stopped : goal.returns-clause-stopped
returns-clause-stopped g c =
    on_err_weaker c.finish_waiting.result
    (λ stopped. (
      stopped_at c.args.supply.now.size c.args.part.now (mine c.args.pass.now) (mine c.put_part.new.pass) (mine c.finish_waiting.new.pass) c.requires.part c.requires.is_open c.in_ok-put_part.ensures.entered.0 Finish stopped.0,
      stopped.1,
    ))
    c.finish_waiting.ensures.stopped

pub returns-clause-none_lost : goal.returns-clause-none_lost
returns-clause-none_lost g c =
    let mid = mine c.put_part.new.pass in let own' = mine c.finish_waiting.new.pass in
    lost_none_then c.args.supply.now c.put_part.new.supply c.finish_waiting.new.supply (mine c.args.pass.now) mid own' c.args.part.now c.put_part.new.part c.put_part.ensures.none_lost c.finish_waiting.ensures.lending
    (either_way c.finish_waiting.result c.finish_waiting.ensures.entered c.finish_waiting.ensures.stopped
    (λ is. no_more mid own' Finish refl is)
    (λ stopped. ap (λ es. buffers_put es) stopped.0))
