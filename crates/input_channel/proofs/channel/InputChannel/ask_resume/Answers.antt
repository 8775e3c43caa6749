use Rattle.std.proofs.Common.{◌≡◌, sym, ap, ◌∙◌, subst, arith}
use Rattle.input_channel.specs.Kept.{ArePartsKept, state_of}
use Rattle.input_channel.specs.States.{ChannelState}
use Rattle.input_channel.proofs.channel.InputChannel.ask_resume.Goals as goal

pub overflow_add-parts : goal.overflow_add-parts
overflow_add-parts c =
    let f = c.deref_mut-parts.result.now in
    let is : ArePartsKept f = subst ArePartsKept (sym c.deref_mut-parts.ensures.value) c.self.invariant in
    let owed : f.owed ≡ c.args.self.now.owed = ap (λ (s : ChannelState). s.owed) (ap state_of c.deref_mut-parts.ensures.value ∙ c.self.view_is) in
    omega (arith, is.resumptions, is.last, owed, c.requires)
