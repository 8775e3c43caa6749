use Rattle.std.proofs.Common.{◌≡◌, ◌∙◌, sym, ap, arith, length, refl}
use Rattle.std.proofs.lemmas.List.{append-nil}
use Rattle.circular_buffer.specs.Buffer.{buffer}
use Rattle.credit_reader.specs.Places.{passed}
use Rattle.credit_reader.proofs.Lists.{without, turned, turned_more, turned_all, length_turned}
use Rattle.credit_reader.proofs.places.leave.Goals as goal

pub pass-requires : goal.pass-requires
pass-requires c =
    let xs = c.args.able.now.items in
    omega (arith, length_turned c.args.place c.loop-turn._turn xs (omega arith), ap length c.loop-turn.invariant.0)

pub loop-turn-init : goal.loop-turn-init
loop-turn-init c = (sym (append-nil _), refl, c.len-turn-end.ensures.len)

pub loop-turn-preserved : goal.loop-turn-preserved
loop-turn-preserved c =
    let xs = c.args.able.now.items in
    let more = turned_more c.args.place c.loop-turn._turn xs (omega arith) in
    (ap (λ b. b.items) c.pass.ensures ∙ ap (passed c.args.place) c.loop-turn.invariant.0 ∙ more, ap (λ b. b.capacity) c.pass.ensures ∙ c.loop-turn.invariant.1, c.loop-turn.invariant.2)

pub returns : goal.returns
returns c =
    let xs = c.args.able.now.items in
    let at_end : c.loop-turn._turn ≡ length xs = omega (arith, c.loop-turn.invariant.2) in
    let items_are = c.loop-turn.invariant.0 ∙ ap (λ k. turned c.args.place k xs) at_end ∙ turned_all c.args.place xs in
    ap (λ ys. buffer ys c.loop-turn.able.capacity) items_are ∙ ap (buffer (without c.args.place xs)) c.loop-turn.invariant.1
