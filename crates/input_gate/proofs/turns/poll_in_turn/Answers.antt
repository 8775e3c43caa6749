use Rattle.std.proofs.Common.{rules, true≢false, ◌≡◌, [], ◌∷◌, ◌++◌, refl, ◌∙◌, sym, ap, subst, None}
use Rattle.std.specs.Prelude.{option_to_list}
use Rattle.turn_cell.specs.History.{entries_of}
use Rattle.turn_cell.specs.Passes.{opened_with, seen, sights, mine}
use Rattle.input_channel.specs.declared.entry.ReceiveEntry.TheVariants.{Poll}
use Rattle.input_channel.specs.Answers.{gave_of, given_by}
use Rattle.input_channel.specs.States.{ChannelState, ChannelStandsFor}
use Rattle.input_channel.specs.Legal.{open_save}
use Rattle.input_gate.specs.Segments.{freed_by}
use Rattle.input_gate.specs.Turning.{given_to, InputCell}
use Rattle.input_gate.proofs.TurnLaws.{Begun, begun_closed, ends_in_poll, still_freed, state_after, more, polled_given, next_number, fits, still_closed}
use Rattle.input_gate.proofs.turns.poll_in_turn.Goals as goal

pub leave_polled-requires-clause-state : goal.leave_polled-requires-clause-state
leave_polled-requires-clause-state g c =
    let p = c.args.pass.now in let t = c.enter-turn.result.pass.now in let e = c.enter-turn.ensures in let laws = c.channels_stand_for_histories.ensures in let old = c.state.result.now in
    let b : Begun p t c.enter-turn.result.state = record { first = c.requires.1; same = e.pass.0; later = e.seen; looked = e.looked; own_before = c.requires.0.0.5; own = e.turn.0.0.5; stands = e.state.0 } in
    state_after p t c.enter-turn.result.state b laws.calls laws.entries old c.poll.new.self (Poll c.args.hold (gave_of c.in-Ok.polled)) c.state.ensures.value refl
    (c.answers_tell.ensures.polled old (entries_of (seen t)) c.args.hold c.in-Ok.polled c.in-Ok.ensures.answer) c.in-Ok.ensures.channel

pub returns-clause-later : goal.returns-clause-later
returns-clause-later g c =
    let p = c.args.pass.now in let t = c.enter-turn.result.pass.now in let e = c.enter-turn.ensures in
    let b : Begun p t c.enter-turn.result.state = record { first = c.requires.1; same = e.pass.0; later = e.seen; looked = e.looked; own_before = c.requires.0.0.5; own = e.turn.0.0.5; stands = e.state.0 } in
    let q = c.leave_polled.new.turn.1.0 in
    let m = more p t c.enter-turn.result.state b q (Poll c.args.hold (gave_of c.in-Ok.polled)) c.leave_polled.ensures.entered in
    let f : seen q ≡ seen p ++ m.0.0 = m.0.1 in
    let g : sights q ≡ sights p ++ m.1.0 = m.1.1 in
    ((m.0.0, search (rules, f)), (m.1.0, search (rules, g)))

pub returns-clause-given : goal.returns-clause-given
returns-clause-given g c =
    let p = c.args.pass.now in let t = c.enter-turn.result.pass.now in let e = c.enter-turn.ensures in let laws = c.channels_stand_for_histories.ensures in let old = c.state.result.now in
    let b : Begun p t c.enter-turn.result.state = record { first = c.requires.1; same = e.pass.0; later = e.seen; looked = e.looked; own_before = c.requires.0.0.5; own = e.turn.0.0.5; stands = e.state.0 } in
    let q = c.leave_polled.new.turn.1.0 in
    let f : given_to q ≡ given_to p ++ option_to_list (given_by c.in-Ok.polled) = polled_given p t c.enter-turn.result.state b c.passes_tell.ensures.given laws.passes laws.poll c.answers_tell.ensures.given q old c.args.hold c.in-Ok.polled (gave_of c.in-Ok.polled) c.state.ensures.value c.in-Ok.ensures.answer c.leave_polled.ensures.entered in
    search (rules, f)

pub returns-clause-fits : goal.returns-clause-fits
returns-clause-fits g c =
    let p = c.args.pass.now in let t = c.enter-turn.result.pass.now in let e = c.enter-turn.ensures in let laws = c.channels_stand_for_histories.ensures in let old = c.state.result.now in
    let b : Begun p t c.enter-turn.result.state = record { first = c.requires.1; same = e.pass.0; later = e.seen; looked = e.looked; own_before = c.requires.0.0.5; own = e.turn.0.0.5; stands = e.state.0 } in
    let entered = c.leave_polled.ensures.entered in
    let q = c.leave_polled.new.turn.1.0 in
    let now : given_to q ≡ given_to p ++ option_to_list (given_by c.in-Ok.polled) =
    polled_given p t c.enter-turn.result.state b c.passes_tell.ensures.given laws.passes laws.poll c.answers_tell.ensures.given q old c.args.hold c.in-Ok.polled (gave_of c.in-Ok.polled) c.state.ensures.value c.in-Ok.ensures.answer entered in
    let stands : ChannelStandsFor c.poll.new.self (seen q) = subst (ChannelStandsFor c.poll.new.self) (sym entered.1)
    (state_after p t c.enter-turn.result.state b laws.calls laws.entries old c.poll.new.self (Poll c.args.hold (gave_of c.in-Ok.polled)) c.state.ensures.value refl
    (c.answers_tell.ensures.polled old (entries_of (seen t)) c.args.hold c.in-Ok.polled c.in-Ok.ensures.answer) c.in-Ok.ensures.channel) in
    fits (opened_with c.args.cell.now).size c.args.hold (given_to p) (given_to q) old c.in-Ok.polled c.in-Ok.ensures.answer (ap (λ (s : ChannelState). s.size) c.state.ensures.value ∙ e.state.1 ∙ ap (λ (cell : InputCell). (opened_with cell).size) e.turn.1) now
    (λ k kind is. next_number c.histories_keep_order.ensures.barriers c.legal_histories_agree.ensures.numbered laws.legal c.poll.new.self (seen q) (given_to p) k kind stands is)

pub returns-clause-freed : goal.returns-clause-freed
returns-clause-freed g c =
    let p = c.args.pass.now in let t = c.enter-turn.result.pass.now in let e = c.enter-turn.ensures in let kept = c.channels_stand_for_histories.ensures.passes in
    let b : Begun p t c.enter-turn.result.state = record { first = c.requires.1; same = e.pass.0; later = e.seen; looked = e.looked; own_before = c.requires.0.0.5; own = e.turn.0.0.5; stands = e.state.0 } in
    let q = c.leave_polled.new.turn.1.0 in
    let f : freed_by q ≡ freed_by p = still_freed p t c.enter-turn.result.state b kept q (Poll c.args.hold (gave_of c.in-Ok.polled)) c.leave_polled.ensures.entered (λ counts. refl) in
    search (rules, f)

pub returns-clause-ends : goal.returns-clause-ends
returns-clause-ends g c =
    let p = c.args.pass.now in let t = c.enter-turn.result.pass.now in let e = c.enter-turn.ensures in let laws = c.channels_stand_for_histories.ensures in
    let b : Begun p t c.enter-turn.result.state = record { first = c.requires.1; same = e.pass.0; later = e.seen; looked = e.looked; own_before = c.requires.0.0.5; own = e.turn.0.0.5; stands = e.state.0 } in
    let f = ends_in_poll p t c.enter-turn.result.state b c.passes_tell.ensures.given laws.passes laws.legal c.leave_polled.new.turn.1.0 c.args.hold (gave_of c.in-Ok.polled) c.leave_polled.ensures.entered in
    let last : entries_of (seen c.leave_polled.new.turn.1.0) ≡ f.entries ++ Poll c.args.hold (gave_of c.in-Ok.polled) ∷ [] = f.ends in
    record { entries = f.entries; room = f.room; legal = f.legal; given = f.given; ends = search (rules, last) }

pub returns-clause-pass : goal.returns-clause-pass
returns-clause-pass g c =
    let p = c.args.pass.now in let t = c.enter-turn.result.pass.now in let e = c.enter-turn.ensures in
    let b : Begun p t c.enter-turn.result.state = record { first = c.requires.1; same = e.pass.0; later = e.seen; looked = e.looked; own_before = c.requires.0.0.5; own = e.turn.0.0.5; stands = e.state.0 } in
    let closed : open_save (mine c.leave_polled.new.turn.1.0) ≡ None = still_closed p t c.enter-turn.result.state b c.leave_polled.new.turn.1.0 (Poll c.args.hold (gave_of c.in-Ok.polled)) c.leave_polled.ensures.entered c.requires.2 refl in
    search (rules, closed)

pub unreachable-requires : goal.unreachable-requires
unreachable-requires g c =
    let p = c.args.pass.now in let t = c.enter-turn.result.pass.now in let e = c.enter-turn.ensures in
    let b : Begun p t c.enter-turn.result.state = record { first = c.requires.1; same = e.pass.0; later = e.seen; looked = e.looked; own_before = c.requires.0.0.5; own = e.turn.0.0.5; stands = e.state.0 } in
    let none = ap (λ (channel : ChannelState). channel.save) c.state.ensures.value ∙ begun_closed p t c.enter-turn.result.state b c.requires.2 in
    true≢false (sym (c.in_default.ensures.answered none))
