use Rattle.std.proofs.Common.{◌≡◌, ◌<◌, refl, sym, ap, subst, ◌∙◌}
use Rattle.turn_cell.specs.History.{entries_of, by}
use Rattle.turn_cell.specs.Passes.{number, seen, mine}
use Rattle.input_channel.specs.declared.entry.ReceiveEntry.TheVariants.{Returned}
use Rattle.input_channel.specs.Legal.{polled_with, returned}
use Rattle.input_channel.specs.States.{ChannelStandsFor}
use Rattle.conn_harness.proofs.Channels.{stands_after}
use Rattle.conn_harness.proofs.InletLaws.{out_of_all}
use Rattle.conn_harness.proofs.inlet.return_in_turn.Goals as goal

pub recycle-free-requires-clause-given : goal.recycle-free-requires-clause-given
recycle-free-requires-clause-given g c is =
    let pass = c.enter-turn.result.pass.now in let laws = c.channels_stand_for_histories.ensures in let old = c.state.result.now in
    let own : by 0 (seen pass) ≡ mine c.args.pass.now = ap (λ n. by n (seen pass)) (sym (c.enter-turn.ensures.pass.0.0 ∙ c.requires.pass.1)) ∙ c.enter-turn.ensures.turn.0.0.5 ∙ c.enter-turn.ensures.pass.0.1 in
    let stands : ChannelStandsFor old (seen pass) = subst (λ channel. ChannelStandsFor channel (seen pass)) (sym c.state.ensures.value) c.enter-turn.ensures.state.0 in
    let out = out_of_all c.passes_tell.ensures.buffers (seen pass) (mine c.args.pass.now) c.args.buf.exclusive (laws.passes old (seen pass) stands) own c.requires.out in
    laws.fits old (seen pass) stands (subst (λ kind. returned kind (entries_of (seen pass)) < polled_with kind (entries_of (seen pass))) is out)

pub leave_returned-requires-clause-state : goal.leave_returned-requires-clause-state
leave_returned-requires-clause-state g c =
    let pass = c.enter-turn.result.pass.now in let laws = c.channels_stand_for_histories.ensures in let old = c.state.result.now in
    let own : by 0 (seen pass) ≡ mine c.args.pass.now = ap (λ n. by n (seen pass)) (sym (c.enter-turn.ensures.pass.0.0 ∙ c.requires.pass.1)) ∙ c.enter-turn.ensures.turn.0.0.5 ∙ c.enter-turn.ensures.pass.0.1 in
    let stands : ChannelStandsFor old (seen pass) = subst (λ channel. ChannelStandsFor channel (seen pass)) (sym c.state.ensures.value) c.enter-turn.ensures.state.0 in
    let out = out_of_all c.passes_tell.ensures.buffers (seen pass) (mine c.args.pass.now) c.args.buf.exclusive (laws.passes old (seen pass) stands) own c.requires.out in
    stands_after laws.calls laws.entries c.enter-turn.result.state old c.state-2.result.now (seen pass) (number pass) 0 (Returned c.args.buf.exclusive)
    c.enter-turn.ensures.state.0 c.state.ensures.value (c.enter-turn.ensures.pass.0.0 ∙ c.requires.pass.1) refl
    out (c.state-2.ensures.value ∙ c.recycle-free.ensures.channel)
