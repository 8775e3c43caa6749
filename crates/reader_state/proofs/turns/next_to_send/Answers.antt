use Rattle.std.proofs.Common.{rules, ◌≡◌, sym, subst}
use Rattle.std.specs.Prelude.{IfSome}
use Rattle.turn_cell.specs.Passes.{seen}
use Rattle.reader_state.specs.Turning.{channels_in, CanSend, HeadsStay, IsOneOf}
use Rattle.reader_state.proofs.Standing.{entered, rested_told, first_can, able_is_one, of_first}
use Rattle.reader_state.proofs.turns.next_to_send.Goals as goal

pub returns-clause-heads : goal.returns-clause-heads
returns-clause-heads g c =
    let told = c.enter-turn.ensures in let l = c.state.result.now in let pass = c.enter-turn.result.pass.now in
    let e = entered c.args.cell.now c.enter-turn.result.cell.now c.args.pass.now pass l c.enter-turn.result.state c.requires told.turn.0 told.turn.1 told.pass.0 told.seen told.state.0 told.state.1 c.state.ensures.value in
    let heads : HeadsStay (channels_in c.args.cell.now) (seen c.args.pass.now) (seen c.leave_as_is.new.self.1.0) = rested_told c.args.cell.now c.args.pass.now pass l e c.leave_as_is.new.self.1.0 c.leave_as_is.ensures.rested in
    search (rules, heads)

pub returns-clause-can : goal.returns-clause-can
returns-clause-can g c =
    let told = c.enter-turn.ensures in let l = c.state.result.now in let pass = c.enter-turn.result.pass.now in
    let e = entered c.args.cell.now c.enter-turn.result.cell.now c.args.pass.now pass l c.enter-turn.result.state c.requires told.turn.0 told.turn.1 told.pass.0 told.seen told.state.0 told.state.1 c.state.ensures.value in
    let after = c.leave_as_is.new.self.1.0 in
    let can : IfSome c.next-next.result (λ channel. CanSend (channels_in c.args.cell.now) channel (seen after)) = of_first (λ channel. CanSend (channels_in c.args.cell.now) channel (seen after)) l.sender.readers l.sender.queue
    c.next-next.result c.next-next.ensures.first c.next-next.ensures.can (λ channel first able. subst (CanSend (channels_in c.args.cell.now) channel) (sym c.leave_as_is.ensures.rested.1) (first_can c.args.cell.now c.args.pass.now pass l e channel first able)) in
    search (rules, can)

pub returns-clause-known : goal.returns-clause-known
returns-clause-known g c =
    let told = c.enter-turn.ensures in let l = c.state.result.now in let pass = c.enter-turn.result.pass.now in
    let e = entered c.args.cell.now c.enter-turn.result.cell.now c.args.pass.now pass l c.enter-turn.result.state c.requires told.turn.0 told.turn.1 told.pass.0 told.seen told.state.0 told.state.1 c.state.ensures.value in
    of_first (λ channel. IsOneOf channel (channels_in c.args.cell.now)) l.sender.readers l.sender.queue c.next-next.result c.next-next.ensures.first c.next-next.ensures.can (λ channel first able. able_is_one c.args.cell.now c.args.pass.now pass l e channel able)
