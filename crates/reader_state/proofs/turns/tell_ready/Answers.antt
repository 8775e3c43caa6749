use Rattle.std.proofs.Common.{rules, ◌≡◌, ◌≤◌, refl, sym, subst}
use Rattle.std.specs.Prelude.{IsSome}
use Rattle.std.specs.Option.{IsSomeAnd}
use Rattle.turn_cell.specs.Passes.{seen, number}
use Rattle.credit_reader.specs.declared.reader.TheConstants.{CREDIT_MAX}
use Rattle.reader_state.specs.declared.entry.ReaderEntry.TheVariants.{Ready}
use Rattle.reader_state.specs.Turning.{channels_in, HeadsChange}
use Rattle.reader_state.proofs.Standing.{entered, is_sender, reader_there, stands_then, ready_told}
use Rattle.reader_state.proofs.turns.tell_ready.Goals as goal

pub ready-requires-clause-known : goal.ready-requires-clause-known
ready-requires-clause-known g c =
    let told = c.enter-turn.ensures in let l = c.state.result.now in
    let e = entered c.args.cell.now c.enter-turn.result.cell.now c.args.pass.now c.enter-turn.result.pass.now l c.enter-turn.result.state c.requires.pass told.turn.0 told.turn.1 told.pass.0 told.seen told.state.0 told.state.1 c.state.ensures.value in
    let there = reader_there l (channels_in c.args.cell.now) (seen c.enter-turn.result.pass.now) e.stands e.fixed c.args.channel c.requires.known in
    subst IsSome (sym there.1) refl

pub leave_ready-requires-clause-state : goal.leave_ready-requires-clause-state
leave_ready-requires-clause-state g c =
    let told = c.enter-turn.ensures in let l = c.state.result.now in let pass = c.enter-turn.result.pass.now in
    let e = entered c.args.cell.now c.enter-turn.result.cell.now c.args.pass.now pass l c.enter-turn.result.state c.requires.pass told.turn.0 told.turn.1 told.pass.0 told.seen told.state.0 told.state.1 c.state.ensures.value in
    let there = reader_there l (channels_in c.args.cell.now) (seen pass) e.stands e.fixed c.args.channel c.requires.known in
    stands_then c.args.cell.now c.args.pass.now pass l e c.enter-turn.result.cell.now c.ready.new.self (Ready c.args.channel c.args.head c.args.backlog) told.turn.1
    (is_sender c.args.cell.now c.args.pass.now pass l e) (subst (λ o. IsSomeAnd o (λ r. c.args.backlog ≤ CREDIT_MAX)) (sym there.1) c.requires.fits) c.ready.ensures

pub returns-clause-heads : goal.returns-clause-heads
returns-clause-heads g c =
    let told = c.enter-turn.ensures in let l = c.state.result.now in let pass = c.enter-turn.result.pass.now in
    let e = entered c.args.cell.now c.enter-turn.result.cell.now c.args.pass.now pass l c.enter-turn.result.state c.requires.pass told.turn.0 told.turn.1 told.pass.0 told.seen told.state.0 told.state.1 c.state.ensures.value in
    let there = reader_there l (channels_in c.args.cell.now) (seen pass) e.stands e.fixed c.args.channel c.requires.known in
    let heads : HeadsChange (channels_in c.args.cell.now) c.args.channel c.args.head (seen c.args.pass.now) (seen c.leave_ready.new.turn.1.0) =
    ready_told c.args.cell.now c.args.pass.now pass l e c.args.channel c.args.head c.args.backlog c.leave_ready.new.turn.1.0 there.0 there.1 c.leave_ready.ensures.entered in
    search (rules, heads)
