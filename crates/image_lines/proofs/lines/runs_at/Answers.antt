use Rattle.std.proofs.Common.{◌≡◌, suc, ◌+◌, ◌-◌, length, ap, sym, ◌∙◌, arith}
use Rattle.plain_machine.specs.Images.{items_at}
use Rattle.plain_machine.specs.Places.{sender_place, receiver_place}
use Rattle.image_lines.proofs.Channels.{receiver_behind}
use Rattle.image_lines.proofs.lines.runs_at.Goals as goal

pub returns : goal.returns
returns c =
    let job = c.args.job.now in let e = c.args.edge in let b = c.args.b in
    let next : e + 1 ≡ suc e = omega arith in
    let there : c.task_place.result ≡ sender_place job (suc e) b = c.task_place.ensures.is ∙ ap (λ i. sender_place job i b) next in
    let first : length c.as_slice.result.now ≡ length job.sources.items = ap length c.as_slice.ensures in
    let place : c.task_place.result - length c.as_slice.result.now ≡ receiver_place job e b =
    ap (λ n. n - length c.as_slice.result.now) there ∙ ap (λ n. sender_place job (suc e) b - n) first ∙ receiver_behind job e b in
    c.runs_in.ensures ∙ ap (λ takes. items_at takes (c.task_place.result - length c.as_slice.result.now)) c.as_slice-2.ensures ∙ ap (items_at c.args.image.now.takes.items) place
