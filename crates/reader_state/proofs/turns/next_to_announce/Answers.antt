use Rattle.std.proofs.Common.{rules, ◌≡◌, ◌++◌, ◌∷◌, [], None, sym, ap, ◌∙◌}
use Rattle.turn_cell.specs.Passes.{seen, mine}
use Rattle.credit_reader.specs.Answers.{due_first}
use Rattle.reader_state.specs.Turning.{channels_in, HeadsStay, IsOneOf, AnnouncedFirst, AnnouncesDue}
use Rattle.reader_state.specs.declared.entry.ReaderEntry.TheVariants.{Told}
use Rattle.reader_state.proofs.Standing.{entered, is_sender, rested_told, backlog_told, due_may, due_is_one, stands_then}
use Rattle.reader_state.proofs.Backlogs.{announced_first, announced_none}
use Rattle.reader_state.proofs.turns.next_to_announce.Goals as goal

pub leave_told-requires-clause-state : goal.leave_told-requires-clause-state
leave_told-requires-clause-state g c =
    let told = c.enter-turn.ensures in let l = c.state.result.now in let pass = c.enter-turn.result.pass.now in
    let e = entered c.args.cell.now c.enter-turn.result.cell.now c.args.pass.now pass l c.enter-turn.result.state c.requires told.turn.0 told.turn.1 told.pass.0 told.seen told.state.0 told.state.1 c.state.ensures.value in
    stands_then c.args.cell.now c.args.pass.now pass l e c.enter-turn.result.cell.now c.announce.new.self (Told c.in-Some.told.channel) told.turn.1 (is_sender c.args.cell.now c.args.pass.now pass l e)
    (due_may (due_first l.sender) c.in-Some.told c.in-Some.ensures.due) c.in-Some.ensures.told

pub returns-in-Some-clause-heads : goal.returns-in-Some-clause-heads
returns-in-Some-clause-heads g c =
    let told = c.enter-turn.ensures in let l = c.state.result.now in let pass = c.enter-turn.result.pass.now in
    let e = entered c.args.cell.now c.enter-turn.result.cell.now c.args.pass.now pass l c.enter-turn.result.state c.requires told.turn.0 told.turn.1 told.pass.0 told.seen told.state.0 told.state.1 c.state.ensures.value in
    let heads : HeadsStay (channels_in c.args.cell.now) (seen c.args.pass.now) (seen c.leave_told.new.turn.1.0) = backlog_told c.args.cell.now c.args.pass.now pass l e c.in-Some.told.channel c.leave_told.new.turn.1.0 c.leave_told.ensures.entered in
    search (rules, heads)

pub returns-in-Some-clause-known : goal.returns-in-Some-clause-known
returns-in-Some-clause-known g c =
    let told = c.enter-turn.ensures in let l = c.state.result.now in let pass = c.enter-turn.result.pass.now in
    let e = entered c.args.cell.now c.enter-turn.result.cell.now c.args.pass.now pass l c.enter-turn.result.state c.requires told.turn.0 told.turn.1 told.pass.0 told.seen told.state.0 told.state.1 c.state.ensures.value in
    due_is_one c.args.cell.now c.args.pass.now pass l e c.in-Some.told c.in-Some.ensures.due

pub returns-in-None-clause-heads : goal.returns-in-None-clause-heads
returns-in-None-clause-heads g c =
    let told = c.enter-turn.ensures in let l = c.state.result.now in let pass = c.enter-turn.result.pass.now in
    let e = entered c.args.cell.now c.enter-turn.result.cell.now c.args.pass.now pass l c.enter-turn.result.state c.requires told.turn.0 told.turn.1 told.pass.0 told.seen told.state.0 told.state.1 c.state.ensures.value in
    let heads : HeadsStay (channels_in c.args.cell.now) (seen c.args.pass.now) (seen c.leave_as_is.new.self.1.0) = rested_told c.args.cell.now c.args.pass.now pass l e c.leave_as_is.new.self.1.0 c.leave_as_is.ensures.rested in
    search (rules, heads)

pub returns-in-Some-clause-due : goal.returns-in-Some-clause-due
returns-in-Some-clause-due g c =
    let told = c.enter-turn.ensures in let l = c.state.result.now in let pass = c.enter-turn.result.pass.now in
    let e = entered c.args.cell.now c.enter-turn.result.cell.now c.args.pass.now pass l c.enter-turn.result.state c.requires told.turn.0 told.turn.1 told.pass.0 told.seen told.state.0 told.state.1 c.state.ensures.value in
    let due : AnnouncedFirst (channels_in c.args.cell.now) c.args.pass.now c.leave_told.new.turn.1.0 c.in-Some.told =
    announced_first c.args.cell.now c.args.pass.now pass l e c.in-Some.told c.leave_told.new.turn.1.0 c.in-Some.ensures.due c.in-Some.ensures.own c.leave_told.ensures.entered in
    search (rules, due)

pub returns-in-None-clause-due : goal.returns-in-None-clause-due
returns-in-None-clause-due g c =
    let told = c.enter-turn.ensures in let l = c.state.result.now in let pass = c.enter-turn.result.pass.now in
    let e = entered c.args.cell.now c.enter-turn.result.cell.now c.args.pass.now pass l c.enter-turn.result.state c.requires told.turn.0 told.turn.1 told.pass.0 told.seen told.state.0 told.state.1 c.state.ensures.value in
    let due : AnnouncesDue (channels_in c.args.cell.now) c.args.pass.now c.leave_as_is.new.self.1.0 None =
    announced_none c.args.cell.now c.args.pass.now pass l e c.leave_as_is.new.self.1.0 c.in-None.ensures.due c.leave_as_is.ensures.rested in
    search (rules, due)
