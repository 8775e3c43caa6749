use Rattle.std.proofs.Common.{◌≡◌, ◌-◌, take, drop, refl, ap, sym, subst, arith}
use Rattle.net_frames.specs.Faults.{in_span}
use Rattle.net_frames.specs.Frames.{Begins}
use Rattle.conn_read_items.proofs.Asking.{for_none}
use Rattle.conn_read_items.proofs.EndLaws.{frame_ends}
use Rattle.conn_read_items.proofs.message.take_message.Goals as goal

pub returns-in-Err-take_frame-clause-step : goal.returns-in-Err-take_frame-clause-step
returns-in-Err-take_frame-clause-step g c =
    let bytes = c.args.bytes.now in let found = c.in-Ok.found in let at = c.in-Ok.ensures.found in
    let ends = at.ends in
    let same : take (found.used - found.content.from) (drop found.content.from bytes) ≡ in_span bytes found.content = ap (λ n. take n (drop found.content.from bytes)) (omega arith) in
    frame_ends c.args.cells.now.channels.now c.args.passes.now.inputs.items c.take_frame.new.passes.inputs.items bytes _ (drop found.used bytes) found.frame c.in-Err-take_frame.cause
    (subst (λ l. Begins bytes found.frame l (drop found.used bytes)) (sym same) at.begins) c.in-Err-take_frame.ensures.ended

pub returns-in-Err-NeedMore-clause-asked : goal.returns-in-Err-NeedMore-clause-asked
returns-in-Err-NeedMore-clause-asked g c = λ task. for_none c.args.cells.now.channels.now task c.args.passes.now c.args.passes.now refl refl

pub returns-in-Err-clause-asked : goal.returns-in-Err-clause-asked
returns-in-Err-clause-asked g c = λ task. for_none c.args.cells.now.channels.now task c.args.passes.now c.args.passes.now refl refl
