use Rattle.std.proofs.Common.{◌≡◌, ◌++◌, length, take, ap, ◌∙◌, arith}
use Rattle.script_text.proofs.Writings.{line_begins, length_line, parts_text}
use Rattle.std.proofs.Math.Seq.{take-append_seam}
use Rattle.script_text.proofs.reply.add_line.Goals as goal

pub loop-part-init : goal.loop-part-init
loop-part-init c =
    let old = c.args.out.now.items in
    let first = c.args.first.now in
    let out : c.extend.new.self.items ≡ old ++ first = c.in_ok-extend.ensures.ok ∙ ap (λ w. old ++ w) c.as_bytes.ensures.value in
    let length_is = length_line first c.args.parts.now in
    let room = c.in_ok-extend.ensures.room in
    let same = ap length c.as_bytes.ensures.value in
    (ap (λ o. o ++ parts_text c.args.parts.now) out ∙ line_begins old first c.args.parts.now, ap (take (length old)) out ∙ take-append_seam old first, omega (arith, length_is, room, same))
