use Rattle.std.proofs.Common.{arith, ◌≡◌, ◌-◌, length, take, drop, ap, ◌∙◌, length-drop}
use Rattle.flow_defs.specs.Records.{length_bytes}
use Rattle.record_spans.proofs.Lengths.{length-length_bytes}
use Rattle.record_spans.proofs.Parts.{two_parts, all_from, past_head}
use Rattle.record_spans.proofs.write.write_span.Goals as goal

pub returns-then-done-ge4-clause-copied : goal.returns-then-done-ge4-clause-copied
returns-then-done-ge4-clause-copied c =
    rw (c.copy_front.ensures.copied, all_from c.args.line.now (c.args.done - 4), past_head (length_bytes (length c.args.line.now)) c.args.line.now c.args.done (length-length_bytes _) c.if-done-ge4.true)

pub returns-clause-copied : goal.returns-clause-copied
returns-clause-copied c =
    let first = c.copy_front-first.ensures in
    let second = c.copy_front-2.ensures in
    let head_is = c.length_bytes-head.ensures in
    let head_len : length c.length_bytes-head.result ≡ 4 = ap length head_is ∙ length-length_bytes _ in
    let head_from : take (length c.length_bytes-head.result - c.args.done) (drop c.args.done c.length_bytes-head.result) ≡ drop c.args.done c.length_bytes-head.result = all_from c.length_bytes-head.result c.args.done in
    let head_all : take (4 - c.args.done) (drop c.args.done c.length_bytes-head.result) ≡ drop c.args.done (length_bytes (length c.args.line.now)) = (rw head_len at head_from) ∙ ap (drop c.args.done) head_is in
    let back_all = all_from c.copy_front-first.new.room c.copy_front-first.result in
    let first_count = rw head_all at first.count in
    let first_copied = rw head_all at first.copied in
    let second_count = rw back_all at second.count in
    let second_copied = rw back_all at second.copied in
    let line_head = length_bytes (length c.args.line.now) in
    let line_head_len : length line_head ≡ 4 = length-length_bytes (length c.args.line.now) in
    two_parts line_head c.args.line.now c.args.room.now c.args.done c.copy_front-first.result c.copy_front-2.result (omega arith) (rw (← length-drop c.args.done line_head) first_count) c.copy_front-first.new.room c.copy_front-2.new.room first_copied (rw (← length-drop c.copy_front-first.result c.copy_front-first.new.room) second_count) second_copied
