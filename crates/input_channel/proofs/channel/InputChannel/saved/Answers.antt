use Rattle.std.proofs.Common.{◌≡◌, ap, subst, ◌∙◌}
use Rattle.input_channel.specs.States.{ChannelState}
use Rattle.input_channel.specs.Kept.{state_of}
use Rattle.input_channel.specs.Answers.{GivesSaved}
use Rattle.input_channel.proofs.PollLemmas.{closes_save}
use Rattle.input_channel.proofs.channel.InputChannel.saved.Goals as goal

pub returns-clause-some : goal.returns-clause-some
returns-clause-some c =
    let f = c.deref_mut-parts.result.now in
    let view_is : state_of f ≡ c.args.self.now = ap state_of c.deref_mut-parts.ensures.value ∙ c.self.view_is in
    subst (λ (s : ChannelState). GivesSaved s c.args.k c.in_ok-bytes.bytes.items (state_of c.close.new.self)) view_is
    (closes_save f c.close.new.self c.args.k c.in_ok-bytes.bytes.items c.in_ok-bytes.ensures.given)
