use Rattle.std.proofs.Common.{◌≡◌, ◌++◌, ◌∙◌, take, drop, ap, arith, length-append, length-drop}
use Rattle.std.proofs.lemmas.List.{take-take}
use Rattle.flow_defs.specs.Records.{length_bytes}
use Rattle.record_spans.proofs.Lengths.{none_short, none_cut}
use Rattle.record_spans.proofs.PieceLemmas.{begins}
use Rattle.record_spans.proofs.pieces.front_at.Goals as goal

pub returns-then-left-lt4 : goal.returns-then-left-lt4
returns-then-left-lt4 c =
    let bytes = c.args.first.now ++ c.args.second.now in
    let many = length-drop c.args.place bytes in
    let both = length-append c.args.first.now c.args.second.now in
    none_short (drop c.args.place bytes) (omega (arith, many, both, c.if-left-lt4.true))

pub returns-then-len-gt-RECORD_MAX : goal.returns-then-len-gt-RECORD_MAX
returns-then-len-gt-RECORD_MAX c =
    let rest = drop c.args.place (c.args.first.now ++ c.args.second.now) in
    let front : length_bytes c.front_length-len.result ≡ take 4 rest = c.front_length-len.ensures ∙ ap (take 4) c.head_at.ensures ∙ take-take 4 4 rest (omega arith) in
    record { more = drop 4 rest; bytes_are = begins rest c.front_length-len.result front; in_range = omega arith; above = omega arith }

pub returns-then-left-len : goal.returns-then-left-len
returns-then-left-len c =
    let bytes = c.args.first.now ++ c.args.second.now in
    let rest = drop c.args.place bytes in
    let many = length-drop c.args.place bytes in
    let both = length-append c.args.first.now c.args.second.now in
    let front : length_bytes c.front_length-len.result ≡ take 4 rest = c.front_length-len.ensures ∙ ap (take 4) c.head_at.ensures ∙ take-take 4 4 rest (omega arith) in
    none_cut rest c.front_length-len.result (omega arith) front (omega (arith, many, both, c.if-left-lt4.false, c.if-left-len.true))
