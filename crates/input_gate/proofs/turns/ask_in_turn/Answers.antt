use Rattle.std.proofs.Common.{rules, ◌≡◌, ◌<◌, ◌++◌, refl, ◌∙◌, sym, ap, subst, None}
use Rattle.turn_cell.specs.Passes.{seen, sights, mine}
use Rattle.input_channel.specs.declared.entry.ReceiveEntry.TheVariants.{Ask}
use Rattle.input_channel.specs.States.{ChannelState}
use Rattle.input_channel.specs.Legal.{open_save}
use Rattle.input_gate.specs.Segments.{freed_by}
use Rattle.input_gate.specs.Turning.{given_to}
use Rattle.input_gate.proofs.TurnLaws.{Begun, still_freed, state_after, more, owed_here, entered_given, still_closed}
use Rattle.input_gate.proofs.turns.ask_in_turn.Goals as goal

pub ask_resume-requires : goal.ask_resume-requires
ask_resume-requires g c =
    let p = c.args.pass.now in let t = c.enter-turn.result.pass.now in let e = c.enter-turn.ensures in let laws = c.channels_stand_for_histories.ensures in
    let b : Begun p t c.enter-turn.result.state = record { first = c.requires.pass.1; same = e.pass.0; later = e.seen; looked = e.looked; own_before = c.requires.pass.0.0.5; own = e.turn.0.0.5; stands = e.state.0 } in
    subst (λ (s : ChannelState). 0 < s.owed) (sym c.state.ensures.value) (owed_here p t c.enter-turn.result.state b c.passes_tell.ensures.given laws.passes c.passes_tell.ensures.buffers c.requires.owed)

pub leave-requires-clause-state : goal.leave-requires-clause-state
leave-requires-clause-state g c =
    let p = c.args.pass.now in let t = c.enter-turn.result.pass.now in let e = c.enter-turn.ensures in let laws = c.channels_stand_for_histories.ensures in
    let b : Begun p t c.enter-turn.result.state = record { first = c.requires.pass.1; same = e.pass.0; later = e.seen; looked = e.looked; own_before = c.requires.pass.0.0.5; own = e.turn.0.0.5; stands = e.state.0 } in
    let owed = subst (λ (s : ChannelState). 0 < s.owed) (sym c.state.ensures.value) (owed_here p t c.enter-turn.result.state b c.passes_tell.ensures.given laws.passes c.passes_tell.ensures.buffers c.requires.owed) in (
      state_after p t c.enter-turn.result.state b laws.calls laws.entries c.state.result.now c.ask_resume.new.self Ask c.state.ensures.value refl owed c.ask_resume.ensures,
      ap (λ (s : ChannelState). s.size) c.ask_resume.ensures ∙ ap (λ (s : ChannelState). s.size) c.state.ensures.value ∙ e.state.1,
    )

pub returns-clause-later : goal.returns-clause-later
returns-clause-later g c =
    let p = c.args.pass.now in let t = c.enter-turn.result.pass.now in let e = c.enter-turn.ensures in
    let b : Begun p t c.enter-turn.result.state = record { first = c.requires.pass.1; same = e.pass.0; later = e.seen; looked = e.looked; own_before = c.requires.pass.0.0.5; own = e.turn.0.0.5; stands = e.state.0 } in
    let q = c.leave.new.self.1.0 in
    let m = more p t c.enter-turn.result.state b q Ask c.leave.ensures.entered in
    let f : seen q ≡ seen p ++ m.0.0 = m.0.1 in
    let g : sights q ≡ sights p ++ m.1.0 = m.1.1 in
    ((m.0.0, search (rules, f)), (m.1.0, search (rules, g)))

pub returns-clause-given : goal.returns-clause-given
returns-clause-given g c =
    let p = c.args.pass.now in let t = c.enter-turn.result.pass.now in let e = c.enter-turn.ensures in
    let b : Begun p t c.enter-turn.result.state = record { first = c.requires.pass.1; same = e.pass.0; later = e.seen; looked = e.looked; own_before = c.requires.pass.0.0.5; own = e.turn.0.0.5; stands = e.state.0 } in
    let q = c.leave.new.self.1.0 in
    let f : given_to q ≡ given_to p = entered_given p t c.enter-turn.result.state b c.passes_tell.ensures.given c.channels_stand_for_histories.ensures.passes q Ask c.leave.ensures.entered (λ i. refl) in
    search (rules, f)

pub returns-clause-freed : goal.returns-clause-freed
returns-clause-freed g c =
    let p = c.args.pass.now in let t = c.enter-turn.result.pass.now in let e = c.enter-turn.ensures in let kept = c.channels_stand_for_histories.ensures.passes in
    let b : Begun p t c.enter-turn.result.state = record { first = c.requires.pass.1; same = e.pass.0; later = e.seen; looked = e.looked; own_before = c.requires.pass.0.0.5; own = e.turn.0.0.5; stands = e.state.0 } in
    let q = c.leave.new.self.1.0 in
    let f : freed_by q ≡ freed_by p = still_freed p t c.enter-turn.result.state b kept q Ask c.leave.ensures.entered (λ counts. refl) in
    search (rules, f)

pub returns-clause-pass : goal.returns-clause-pass
returns-clause-pass g c =
    let p = c.args.pass.now in let t = c.enter-turn.result.pass.now in let e = c.enter-turn.ensures in
    let b : Begun p t c.enter-turn.result.state = record { first = c.requires.pass.1; same = e.pass.0; later = e.seen; looked = e.looked; own_before = c.requires.pass.0.0.5; own = e.turn.0.0.5; stands = e.state.0 } in
    let closed : open_save (mine c.leave.new.self.1.0) ≡ None = still_closed p t c.enter-turn.result.state b c.leave.new.self.1.0 Ask c.leave.ensures.entered c.requires.pass.2 refl in
    search (rules, closed)
