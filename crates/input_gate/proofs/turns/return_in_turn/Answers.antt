use Rattle.std.proofs.Common.{rules, ◌≡◌, ◌<◌, ◌+◌, ◌++◌, length, refl, ◌∙◌, sym, ap, subst, None}
use Rattle.std.specs.Prelude.{option_to_list}
use Rattle.turn_cell.specs.History.{entries_of}
use Rattle.turn_cell.specs.Passes.{seen, sights, mine}
use Rattle.input_channel.specs.declared.entry.ReceiveEntry.TheVariants.{Returned}
use Rattle.input_channel.specs.Legal.{polled_with, returned, open_save}
use Rattle.input_channel.specs.States.{ChannelState, ChannelStandsFor}
use Rattle.input_channel.specs.Counts.{frees}
use Rattle.input_gate.specs.Segments.{freed_by}
use Rattle.input_gate.specs.Turning.{given_to}
use Rattle.input_gate.proofs.TurnLaws.{Begun, entered_freed, frees_answer, state_after, more, out_here, entered_given, still_closed}
use Rattle.input_gate.proofs.turns.return_in_turn.Goals as goal

pub recycle-free-requires-clause-given : goal.recycle-free-requires-clause-given
recycle-free-requires-clause-given g c is =
    let p = c.args.pass.now in let t = c.enter-turn.result.pass.now in let e = c.enter-turn.ensures in let laws = c.channels_stand_for_histories.ensures in let old = c.state.result.now in
    let b : Begun p t c.enter-turn.result.state = record { first = c.requires.pass.1; same = e.pass.0; later = e.seen; looked = e.looked; own_before = c.requires.pass.0.0.5; own = e.turn.0.0.5; stands = e.state.0 } in
    let out = out_here p t c.enter-turn.result.state b laws.passes c.passes_tell.ensures.buffers c.args.buf.exclusive c.requires.out in
    laws.fits old (seen t) (subst (λ s. ChannelStandsFor s (seen t)) (sym c.state.ensures.value) e.state.0) (subst (λ kind. returned kind (entries_of (seen t)) < polled_with kind (entries_of (seen t))) is out)

pub leave_returned-requires-clause-state : goal.leave_returned-requires-clause-state
leave_returned-requires-clause-state g c =
    let p = c.args.pass.now in let t = c.enter-turn.result.pass.now in let e = c.enter-turn.ensures in let laws = c.channels_stand_for_histories.ensures in let old = c.state.result.now in
    let b : Begun p t c.enter-turn.result.state = record { first = c.requires.pass.1; same = e.pass.0; later = e.seen; looked = e.looked; own_before = c.requires.pass.0.0.5; own = e.turn.0.0.5; stands = e.state.0 } in
    let out = out_here p t c.enter-turn.result.state b laws.passes c.passes_tell.ensures.buffers c.args.buf.exclusive c.requires.out in
    state_after p t c.enter-turn.result.state b laws.calls laws.entries old c.state-2.result.now (Returned c.args.buf.exclusive) c.state.ensures.value refl out (c.state-2.ensures.value ∙ c.recycle-free.ensures.channel)

pub returns-clause-later : goal.returns-clause-later
returns-clause-later g c =
    let p = c.args.pass.now in let t = c.enter-turn.result.pass.now in let e = c.enter-turn.ensures in
    let b : Begun p t c.enter-turn.result.state = record { first = c.requires.pass.1; same = e.pass.0; later = e.seen; looked = e.looked; own_before = c.requires.pass.0.0.5; own = e.turn.0.0.5; stands = e.state.0 } in
    let q = c.leave_returned.new.turn.1.0 in
    let m = more p t c.enter-turn.result.state b q (Returned c.args.buf.exclusive) c.leave_returned.ensures.entered in
    let f : seen q ≡ seen p ++ m.0.0 = m.0.1 in
    let g : sights q ≡ sights p ++ m.1.0 = m.1.1 in
    ((m.0.0, search (rules, f)), (m.1.0, search (rules, g)))

pub returns-clause-given : goal.returns-clause-given
returns-clause-given g c =
    let p = c.args.pass.now in let t = c.enter-turn.result.pass.now in let e = c.enter-turn.ensures in
    let b : Begun p t c.enter-turn.result.state = record { first = c.requires.pass.1; same = e.pass.0; later = e.seen; looked = e.looked; own_before = c.requires.pass.0.0.5; own = e.turn.0.0.5; stands = e.state.0 } in
    let q = c.leave_returned.new.turn.1.0 in
    let f : given_to q ≡ given_to p = entered_given p t c.enter-turn.result.state b c.passes_tell.ensures.given c.channels_stand_for_histories.ensures.passes q (Returned c.args.buf.exclusive) c.leave_returned.ensures.entered (λ i. refl) in
    search (rules, f)

pub returns-clause-freed : goal.returns-clause-freed
returns-clause-freed g c =
    let p = c.args.pass.now in let t = c.enter-turn.result.pass.now in let e = c.enter-turn.ensures in let kept = c.channels_stand_for_histories.ensures.passes in
    let b : Begun p t c.enter-turn.result.state = record { first = c.requires.pass.1; same = e.pass.0; later = e.seen; looked = e.looked; own_before = c.requires.pass.0.0.5; own = e.turn.0.0.5; stands = e.state.0 } in
    let q = c.leave_returned.new.turn.1.0 in let old = c.state.result.now in
    let f : freed_by q ≡ freed_by p + length (option_to_list c.recycle-free.result) =
    entered_freed p t c.enter-turn.result.state b kept q (Returned c.args.buf.exclusive) c.leave_returned.ensures.entered
    ∙ ap (λ (s : ChannelState). freed_by p + frees s.counts (Returned c.args.buf.exclusive)) (sym c.state.ensures.value)
    ∙ ap (λ n. freed_by p + n) (frees_answer old.counts c.args.buf.exclusive c.args.buf.segment c.recycle-free.result c.recycle-free.ensures.floating c.recycle-free.ensures.exclusive) in
    search (rules, f)

pub returns-clause-pass : goal.returns-clause-pass
returns-clause-pass g c =
    let p = c.args.pass.now in let t = c.enter-turn.result.pass.now in let e = c.enter-turn.ensures in
    let b : Begun p t c.enter-turn.result.state = record { first = c.requires.pass.1; same = e.pass.0; later = e.seen; looked = e.looked; own_before = c.requires.pass.0.0.5; own = e.turn.0.0.5; stands = e.state.0 } in
    let closed : open_save (mine c.leave_returned.new.turn.1.0) ≡ None = still_closed p t c.enter-turn.result.state b c.leave_returned.new.turn.1.0 (Returned c.args.buf.exclusive) c.leave_returned.ensures.entered c.requires.pass.2 refl in
    search (rules, closed)
