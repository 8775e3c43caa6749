use Rattle.std.proofs.Common.{refl, ap}
use Rattle.std.proofs.lemmas.Result.{on_ok_weaker, on_err_weaker}
use Rattle.turn_cell.specs.Passes.{mine}
use Rattle.subpartition.specs.declared.entry.SendEntry.TheVariants.{PutInline}
use Rattle.record_writer.specs.Writers.{bytes_in}
use Rattle.record_writer.specs.Segments.{buffers_put}
use Rattle.record_writer.proofs.Entries.{grew_one, data_keeps_next}
use Rattle.record_writer.proofs.Putting.{either_way, on_err, put_keeps_unfinished}
use Rattle.record_writer.proofs.Ending.{stopped_before, stopped_at, marked_at}
use Rattle.record_writer.proofs.Segments.{no_more, lost_none_then}
use Rattle.record_writer.proofs.channel.mark.Goals as goal

pub put_barrier_waiting-requires-clause-open_end : goal.put_barrier_waiting-requires-clause-open_end
put_barrier_waiting-requires-clause-open_end g c =
    put_keeps_unfinished (bytes_in c.args.part.now) (mine c.args.pass.now) (mine c.put_part.new.pass) c.requires.is_open.unfinished c.in_ok-put_part.ensures.entered.0

pub put_barrier_waiting-requires-clause-next : goal.put_barrier_waiting-requires-clause-next
put_barrier_waiting-requires-clause-next g c =
    let own = mine c.args.pass.now in let mid = mine c.put_part.new.pass in
    data_keeps_next c.args.k own mid (grew_one (bytes_in c.args.part.now) own mid c.in_ok-put_part.ensures.entered.0) c.requires.next

pub returns-in_err-put_part-clause-stopped : goal.returns-in_err-put_part-clause-stopped
returns-in_err-put_part-clause-stopped g c =
    let stopped = c.in_err-put_part.ensures.stopped in
    on_err c.from_residual.result (stopped_before c.args.supply.now.size (PutInline c.args.k) (bytes_in c.args.part.now) (mine c.args.pass.now) (mine c.put_part.new.pass) c.requires.is_open stopped.0, stopped.2)

pub returns-clause-marked : goal.returns-clause-marked
returns-clause-marked g c =
    on_ok_weaker c.put_barrier_waiting.result
    (λ marks. (marked_at c.args.supply.now.size c.args.part.now (mine c.args.pass.now) (mine c.put_part.new.pass) (mine c.put_barrier_waiting.new.pass) c.requires.part c.requires.is_open c.in_ok-put_part.ensures.entered.0 c.args.k marks, c.in_ok-put_part.ensures.entered.1))
    c.put_barrier_waiting.ensures.entered

pub returns-clause-stopped : goal.returns-clause-stopped
returns-clause-stopped g c =
    on_err_weaker c.put_barrier_waiting.result
    (λ stopped. (
      stopped_at c.args.supply.now.size c.args.part.now (mine c.args.pass.now) (mine c.put_part.new.pass) (mine c.put_barrier_waiting.new.pass) c.requires.part c.requires.is_open c.in_ok-put_part.ensures.entered.0 (PutInline c.args.k) stopped.0,
      stopped.1,
    ))
    c.put_barrier_waiting.ensures.stopped

pub returns-clause-none_lost : goal.returns-clause-none_lost
returns-clause-none_lost g c =
    let mid = mine c.put_part.new.pass in let own' = mine c.put_barrier_waiting.new.pass in
    lost_none_then c.args.supply.now c.put_part.new.supply c.put_barrier_waiting.new.supply (mine c.args.pass.now) mid own' c.args.part.now c.put_part.new.part c.put_part.ensures.none_lost c.put_barrier_waiting.ensures.lending
    (either_way c.put_barrier_waiting.result c.put_barrier_waiting.ensures.entered c.put_barrier_waiting.ensures.stopped
    (λ is. no_more mid own' (PutInline c.args.k) refl is)
    (λ stopped. ap (λ es. buffers_put es) stopped.0))
