use Rattle.std.proofs.Common.{◌≡◌, ◌∙◌, ap, subst, sym, arith, map}
use Rattle.circular_buffer.specs.Buffer.{Buffer}
use Rattle.std.proofs.lemmas.List.{take_all}
use Rattle.credit_reader.specs.Readers.{fresh}
use Rattle.credit_reader.specs.Places.{IsQueue, seen}
use Rattle.credit_reader.proofs.Holding.{new_queue}
use Rattle.credit_reader.proofs.readers.Readers.new.Goals as goal

pub invariant_of-result : goal.invariant_of-result
invariant_of-result c =
    let channels = c.args.channels.now in
    let all_are : c.loop-channel.all.items ≡ map fresh channels = c.loop-channel.invariant ∙ ap (map fresh) (take_all _ channels (omega arith)) in
    subst (λ rs. IsQueue rs c.in_ok-able.able.items c.in_ok-able.able.capacity) (sym all_are)
    (subst (λ (b : Buffer _). IsQueue (map fresh channels) b.items b.capacity) (sym c.in_ok-able.ensures) (new_queue channels c.requires))

pub returns : goal.returns
returns c =
    let channels = c.args.channels.now in
    let all_are : c.loop-channel.all.items ≡ map fresh channels = c.loop-channel.invariant ∙ ap (map fresh) (take_all _ channels (omega arith)) in
    ap (λ rs. seen rs c.in_ok-able.able.items) all_are ∙ ap (λ (b : Buffer _). seen (map fresh channels) b.items) c.in_ok-able.ensures
