use Rattle.std.proofs.Common.{◌≡◌, true, false, cond, [], ◌∷◌, ◌++◌, refl, sym, ap, ◌∙◌}
use Rattle.flow_defs.specs.declared.parcel.Parcel.TheVariants.{End}
use Rattle.input_channel.specs.Inboxes.{front_waits}
use Rattle.input_channel.specs.States.{ChannelState}
use Rattle.input_channel.specs.Lines.{parcels}
use Rattle.input_channel.specs.Kept.{state_of}
use Rattle.input_channel.proofs.PollLemmas.{front_waits-end}
use Rattle.input_channel.proofs.channel.InputChannel.front_waits.Goals as goal

pub returns : goal.returns
returns c =
    let f = c.deref-parts.result.now in
    let ps = parcels f.queue in
    c.front_waits.ensures
    ∙ elim f.end_waits as (λ b. front_waits ps ≡ front_waits (cond b (ps ++ End ∷ []) ps)) [ true ↦ sym (front_waits-end ps) | false ↦ refl ]
    ∙ ap (λ (s : ChannelState). front_waits s.queue) (ap state_of c.deref-parts.ensures ∙ c.self.view_is)
