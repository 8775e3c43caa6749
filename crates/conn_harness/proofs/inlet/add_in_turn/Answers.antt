use Rattle.std.proofs.Common.{◌≡◌, ◌<◌, [], ◌∷◌, ◌++◌, None, refl, ap, ◌∙◌, rules}
use Rattle.turn_cell.specs.Passes.{number, seen, mine}
use Rattle.input_channel.specs.declared.entry.ReceiveEntry.TheVariants.{Added}
use Rattle.input_channel.specs.Counts.{wants}
use Rattle.input_channel.specs.Legal.{open_save, polled_with, returned}
use Rattle.input_channel.specs.States.{ChannelState}
use Rattle.input_channel.proofs.PassLaws.{stays_closed}
use Rattle.conn_harness.proofs.Channels.{stands_after}
use Rattle.conn_harness.proofs.InletLaws.{even_same, even_added}
use Rattle.conn_harness.proofs.inlet.add_in_turn.Goals as goal

pub returns-then-wants-eq0-clause-even : goal.returns-then-wants-eq0-clause-even
returns-then-wants-eq0-clause-even g c even kind =
    let pass = c.leave_as_is.new.self.1.0 in
    let same : mine pass ≡ mine c.args.pass.now = search rules in
    let told : polled_with kind (mine pass) ≡ returned kind (mine pass) = even_same (mine c.args.pass.now) (mine pass) same even kind in
    search (rules, told)

pub leave-requires-clause-state : goal.leave-requires-clause-state
leave-requires-clause-state g c =
    let pass = c.enter-turn.result.pass.now in let laws = c.channels_stand_for_histories.ensures in let old = c.state-2.result.now in
    let entered : old ≡ c.enter-turn.result.state = search rules in
    let allows : 0 < wants old.room old.counts = search rules in
    let size : c.add_floating.new.self.size ≡ old.size = ap (λ (channel : ChannelState). channel.size) c.add_floating.ensures in (
      stands_after laws.calls laws.entries c.enter-turn.result.state old c.add_floating.new.self (seen pass) (number pass) 0 Added
          c.enter-turn.ensures.state.0 entered (c.enter-turn.ensures.pass.0.0 ∙ c.requires.1) refl allows c.add_floating.ensures,
      size ∙ ap (λ (channel : ChannelState). channel.size) entered ∙ c.enter-turn.ensures.state.1,
    )

pub returns-clause-even : goal.returns-clause-even
returns-clause-even g c even kind =
    let pass = c.leave.new.self.1.0 in
    let told : polled_with kind (mine pass) ≡ returned kind (mine pass) =
    even_added (mine c.args.pass.now) (mine pass) (c.leave.ensures.entered.2 ∙ ap (λ es. es ++ Added ∷ []) c.enter-turn.ensures.pass.0.1) even kind in
    search (rules, told)

pub returns-then-wants-eq0-clause-closed : goal.returns-then-wants-eq0-clause-closed
returns-then-wants-eq0-clause-closed g c closed =
    let pass = c.leave_as_is.new.self.1.0 in
    let same : mine pass ≡ mine c.args.pass.now = search rules in
    let still : open_save (mine pass) ≡ None = ap open_save same ∙ closed in
    search (rules, still)

pub returns-clause-closed : goal.returns-clause-closed
returns-clause-closed g c closed =
    let pass = c.leave.new.self.1.0 in
    let still : open_save (mine pass) ≡ None =
    ap open_save (c.leave.ensures.entered.2 ∙ ap (λ es. es ++ Added ∷ []) c.enter-turn.ensures.pass.0.1) ∙ stays_closed (mine c.args.pass.now) Added closed refl in
    search (rules, still)
