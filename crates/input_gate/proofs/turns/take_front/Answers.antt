use Rattle.std.proofs.Common.{rules, true≢false, ◌≡◌, ◌∷◌, [], ◌++◌, false, true, refl, ◌∙◌, sym, ap, subst, None}
use Rattle.std.specs.Prelude.{option_to_list}
use Rattle.turn_cell.specs.History.{entries_of}
use Rattle.turn_cell.specs.Passes.{number, seen, sights, mine}
use Rattle.flow_defs.specs.declared.parcel.Parcel.TheVariants as parcels
use Rattle.flow_defs.specs.declared.task.BarrierKind.TheVariants.{Front}
use Rattle.input_channel.specs.declared.entry.Gave.TheVariants.{NoBuffer}
use Rattle.input_channel.specs.declared.entry.ReceiveEntry.TheVariants.{Poll}
use Rattle.input_channel.specs.Answers.{gave_of, given_by}
use Rattle.input_channel.specs.Inboxes.{front_waits}
use Rattle.input_channel.specs.States.{ChannelState, ChannelStandsFor, channel_next}
use Rattle.input_channel.specs.Legal.{open_save}
use Rattle.input_gate.specs.Segments.{freed_by}
use Rattle.input_gate.specs.Turning.{given_to}
use Rattle.input_gate.proofs.TurnLaws.{Begun, begun_closed, rested_freed, still_freed, state_after, more, rested_given, polled_given, next_number, front_answer, not_buffer, not_end, still_closed}
use Rattle.input_gate.proofs.turns.take_front.Goals as goal

pub returns-then-not-front_waits-clause-given : goal.returns-then-not-front_waits-clause-given
returns-then-not-front_waits-clause-given g c =
    let p = c.args.pass.now in let t = c.enter-turn.result.pass.now in let e = c.enter-turn.ensures in let laws = c.channels_stand_for_histories.ensures in
    let b : Begun p t c.enter-turn.result.state = record { first = c.requires.1; same = e.pass.0; later = e.seen; looked = e.looked; own_before = c.requires.0.0.5; own = e.turn.0.0.5; stands = e.state.0 } in
    let q = c.leave_as_is.new.self.1.0 in
    let f : given_to q ≡ given_to p = rested_given p t c.enter-turn.result.state b c.passes_tell.ensures.given laws.passes q c.leave_as_is.ensures.rested in
    search (rules, f)

pub leave-requires-clause-state : goal.leave-requires-clause-state
leave-requires-clause-state g c =
    let p = c.args.pass.now in let t = c.enter-turn.result.pass.now in let e = c.enter-turn.ensures in let laws = c.channels_stand_for_histories.ensures in
    let b : Begun p t c.enter-turn.result.state = record { first = c.requires.1; same = e.pass.0; later = e.seen; looked = e.looked; own_before = c.requires.0.0.5; own = e.turn.0.0.5; stands = e.state.0 } in
    let old = c.state-2.result.now in
    let is = c.state-2.ensures.value ∙ c.state.ensures.value in
    let waits : front_waits old.queue ≡ true = ap (λ (s : ChannelState). front_waits s.queue) c.state-2.ensures.value ∙ sym c.front_waits.ensures ∙ c.if-not-front_waits.false in
    let stands : ChannelStandsFor c.poll.new.self (seen t ++ (number t, Poll false NoBuffer) ∷ []) =
    state_after p t c.enter-turn.result.state b laws.calls laws.entries old c.poll.new.self (Poll false NoBuffer) is refl
    (subst (λ gave. Rattle.input_channel.specs.States.Allows old (entries_of (seen t)) (Poll false gave)) (ap gave_of c.in-Barrier.is) (c.answers_tell.ensures.polled old (entries_of (seen t)) false c.in-Ok.polled c.in-Ok.ensures.answer))
    (c.in-Ok.ensures.channel ∙ ap (λ polled. channel_next old (Poll false (gave_of polled))) c.in-Barrier.is) in
    (stands, ap (λ (s : ChannelState). s.size) c.in-Ok.ensures.channel ∙ ap (λ (s : ChannelState). s.size) is ∙ e.state.1)

pub unreachable-requires-in-Buffer : goal.unreachable-requires-in-Buffer
unreachable-requires-in-Buffer g c =
    let old = c.state-2.result.now in
    let is = c.state-2.ensures.value ∙ c.state.ensures.value in
    let waits : front_waits old.queue ≡ true = ap (λ (s : ChannelState). front_waits s.queue) c.state-2.ensures.value ∙ sym c.front_waits.ensures ∙ c.if-not-front_waits.false in
    not_buffer old c.in-Ok.polled c.in-Ok.ensures.answer waits c.in-Buffer._buf c.in-Buffer.is

pub unreachable-requires-in-End : goal.unreachable-requires-in-End
unreachable-requires-in-End g c =
    let old = c.state-2.result.now in
    let is = c.state-2.ensures.value ∙ c.state.ensures.value in
    let waits : front_waits old.queue ≡ true = ap (λ (s : ChannelState). front_waits s.queue) c.state-2.ensures.value ∙ sym c.front_waits.ensures ∙ c.if-not-front_waits.false in
    not_end old c.in-Ok.polled c.in-Ok.ensures.answer waits c.in-End.is

pub returns-clause-later : goal.returns-clause-later
returns-clause-later g c =
    let p = c.args.pass.now in let t = c.enter-turn.result.pass.now in let e = c.enter-turn.ensures in let laws = c.channels_stand_for_histories.ensures in
    let b : Begun p t c.enter-turn.result.state = record { first = c.requires.1; same = e.pass.0; later = e.seen; looked = e.looked; own_before = c.requires.0.0.5; own = e.turn.0.0.5; stands = e.state.0 } in
    let q = c.leave.new.self.1.0 in
    let m = more p t c.enter-turn.result.state b q (Poll false NoBuffer) c.leave.ensures.entered in
    let f : seen q ≡ seen p ++ m.0.0 = m.0.1 in
    let g : sights q ≡ sights p ++ m.1.0 = m.1.1 in
    ((m.0.0, search (rules, f)), (m.1.0, search (rules, g)))

pub returns-clause-given : goal.returns-clause-given
returns-clause-given g c =
    let p = c.args.pass.now in let t = c.enter-turn.result.pass.now in let e = c.enter-turn.ensures in let laws = c.channels_stand_for_histories.ensures in
    let b : Begun p t c.enter-turn.result.state = record { first = c.requires.1; same = e.pass.0; later = e.seen; looked = e.looked; own_before = c.requires.0.0.5; own = e.turn.0.0.5; stands = e.state.0 } in
    let old = c.state-2.result.now in
    let is = c.state-2.ensures.value ∙ c.state.ensures.value in
    let waits : front_waits old.queue ≡ true = ap (λ (s : ChannelState). front_waits s.queue) c.state-2.ensures.value ∙ sym c.front_waits.ensures ∙ c.if-not-front_waits.false in
    let q = c.leave.new.self.1.0 in
    let f : given_to q ≡ given_to p ++ parcels.Barrier c.in-Barrier.k Front ∷ [] =
    polled_given p t c.enter-turn.result.state b c.passes_tell.ensures.given laws.passes laws.poll c.answers_tell.ensures.given q old false c.in-Ok.polled NoBuffer is c.in-Ok.ensures.answer c.leave.ensures.entered
    ∙ ap (λ polled. given_to p ++ option_to_list (given_by polled)) c.in-Barrier.is
    ∙ ap (λ kind. given_to p ++ parcels.Barrier c.in-Barrier.k kind ∷ []) (front_answer old c.in-Ok.polled c.in-Ok.ensures.answer waits c.in-Barrier.k c.in-Barrier._kind c.in-Barrier.is) in
    search (rules, f)

pub returns-clause-numbered : goal.returns-clause-numbered
returns-clause-numbered g c =
    let p = c.args.pass.now in let t = c.enter-turn.result.pass.now in let e = c.enter-turn.ensures in let laws = c.channels_stand_for_histories.ensures in
    let b : Begun p t c.enter-turn.result.state = record { first = c.requires.1; same = e.pass.0; later = e.seen; looked = e.looked; own_before = c.requires.0.0.5; own = e.turn.0.0.5; stands = e.state.0 } in
    let old = c.state-2.result.now in
    let is = c.state-2.ensures.value ∙ c.state.ensures.value in
    let waits : front_waits old.queue ≡ true = ap (λ (s : ChannelState). front_waits s.queue) c.state-2.ensures.value ∙ sym c.front_waits.ensures ∙ c.if-not-front_waits.false in
    let stands : ChannelStandsFor c.poll.new.self (seen t ++ (number t, Poll false NoBuffer) ∷ []) =
    state_after p t c.enter-turn.result.state b laws.calls laws.entries old c.poll.new.self (Poll false NoBuffer) is refl
    (subst (λ gave. Rattle.input_channel.specs.States.Allows old (entries_of (seen t)) (Poll false gave)) (ap gave_of c.in-Barrier.is) (c.answers_tell.ensures.polled old (entries_of (seen t)) false c.in-Ok.polled c.in-Ok.ensures.answer))
    (c.in-Ok.ensures.channel ∙ ap (λ polled. channel_next old (Poll false (gave_of polled))) c.in-Barrier.is) in
    let q = c.leave.new.self.1.0 in
    let f : given_to q ≡ given_to p ++ parcels.Barrier c.in-Barrier.k Front ∷ [] =
    polled_given p t c.enter-turn.result.state b c.passes_tell.ensures.given laws.passes laws.poll c.answers_tell.ensures.given q old false c.in-Ok.polled NoBuffer is c.in-Ok.ensures.answer c.leave.ensures.entered
    ∙ ap (λ polled. given_to p ++ option_to_list (given_by polled)) c.in-Barrier.is
    ∙ ap (λ kind. given_to p ++ parcels.Barrier c.in-Barrier.k kind ∷ []) (front_answer old c.in-Ok.polled c.in-Ok.ensures.answer waits c.in-Barrier.k c.in-Barrier._kind c.in-Barrier.is) in
    next_number c.histories_keep_order.ensures.barriers c.legal_histories_agree.ensures.numbered laws.legal c.poll.new.self (seen q) (given_to p) c.in-Barrier.k Front
    (subst (ChannelStandsFor c.poll.new.self) (sym c.leave.ensures.entered.1) stands) f

pub returns-then-not-front_waits-clause-freed : goal.returns-then-not-front_waits-clause-freed
returns-then-not-front_waits-clause-freed g c =
    let p = c.args.pass.now in let t = c.enter-turn.result.pass.now in let e = c.enter-turn.ensures in let kept = c.channels_stand_for_histories.ensures.passes in
    let b : Begun p t c.enter-turn.result.state = record { first = c.requires.1; same = e.pass.0; later = e.seen; looked = e.looked; own_before = c.requires.0.0.5; own = e.turn.0.0.5; stands = e.state.0 } in
    let q = c.leave_as_is.new.self.1.0 in
    let f : freed_by q ≡ freed_by p = rested_freed p t c.enter-turn.result.state b kept q c.leave_as_is.ensures.rested in
    search (rules, f)

pub returns-clause-freed : goal.returns-clause-freed
returns-clause-freed g c =
    let p = c.args.pass.now in let t = c.enter-turn.result.pass.now in let e = c.enter-turn.ensures in let kept = c.channels_stand_for_histories.ensures.passes in
    let b : Begun p t c.enter-turn.result.state = record { first = c.requires.1; same = e.pass.0; later = e.seen; looked = e.looked; own_before = c.requires.0.0.5; own = e.turn.0.0.5; stands = e.state.0 } in
    let q = c.leave.new.self.1.0 in
    let f : freed_by q ≡ freed_by p = still_freed p t c.enter-turn.result.state b kept q (Poll false NoBuffer) c.leave.ensures.entered (λ counts. refl) in
    search (rules, f)

pub returns-clause-pass : goal.returns-clause-pass
returns-clause-pass g c =
    let p = c.args.pass.now in let t = c.enter-turn.result.pass.now in let e = c.enter-turn.ensures in
    let b : Begun p t c.enter-turn.result.state = record { first = c.requires.1; same = e.pass.0; later = e.seen; looked = e.looked; own_before = c.requires.0.0.5; own = e.turn.0.0.5; stands = e.state.0 } in
    let closed : open_save (mine c.leave.new.self.1.0) ≡ None = still_closed p t c.enter-turn.result.state b c.leave.new.self.1.0 (Poll false NoBuffer) c.leave.ensures.entered c.requires.2 refl in
    search (rules, closed)

pub unreachable-requires : goal.unreachable-requires
unreachable-requires g c =
    let p = c.args.pass.now in let t = c.enter-turn.result.pass.now in let e = c.enter-turn.ensures in
    let b : Begun p t c.enter-turn.result.state = record { first = c.requires.1; same = e.pass.0; later = e.seen; looked = e.looked; own_before = c.requires.0.0.5; own = e.turn.0.0.5; stands = e.state.0 } in
    let none = ap (λ (channel : ChannelState). channel.save) (c.state-2.ensures.value ∙ c.state.ensures.value) ∙ begun_closed p t c.enter-turn.result.state b c.requires.2 in
    true≢false (sym (c.in_default.ensures.answered none))
