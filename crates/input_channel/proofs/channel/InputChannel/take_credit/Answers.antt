use Rattle.std.proofs.Common.{◌≡◌, ap, subst, ◌∙◌, sym}
use Rattle.input_channel.specs.declared.entry.ReceiveEntry.TheVariants.{Credit}
use Rattle.input_channel.specs.Kept.{ArePartsKept, state_of}
use Rattle.input_channel.specs.States.{ChannelState, channel_next}
use Rattle.input_channel.proofs.PollLemmas.{tells_nothing}
use Rattle.input_channel.proofs.channel.InputChannel.take_credit.Goals as goal

pub returns-then-parts-clause-channel : goal.returns-then-parts-clause-channel
returns-then-parts-clause-channel c =
    let f = c.deref_mut-parts.result.now in
    let is : ArePartsKept f = subst ArePartsKept (sym c.deref_mut-parts.ensures.value) c.self.invariant in
    let view_is : state_of f ≡ c.args.self.now = ap state_of c.deref_mut-parts.ensures.value ∙ c.self.view_is in
    sym (tells_nothing (state_of f) c.if-parts.true is.announced) ∙ ap (λ (s : ChannelState). channel_next s (Credit 0)) view_is
