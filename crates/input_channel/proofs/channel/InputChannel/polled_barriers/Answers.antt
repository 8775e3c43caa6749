use Rattle.std.proofs.Common.{ap, ◌∙◌, arith}
use Rattle.input_channel.specs.States.{polled_barriers}
use Rattle.input_channel.specs.Kept.{state_of}
use Rattle.input_channel.proofs.TakingLemmas.{polled_is}
use Rattle.input_channel.proofs.channel.InputChannel.polled_barriers.Goals as goal

pub returns : goal.returns
returns c =
    let f = c.deref-parts.result.now in
    let is = polled_is f in
    let view = ap polled_barriers (ap state_of c.deref-parts.ensures ∙ c.self.view_is) in
    omega (arith, is, view)
