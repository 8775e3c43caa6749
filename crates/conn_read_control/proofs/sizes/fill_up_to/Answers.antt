use Rattle.std.proofs.Common.{◌≡◌, ◌≤◌, ℕ, [], ◌∷◌, ◌++◌, sym, ap, subst, ◌∙◌, arith}
use Rattle.turn_cell.specs.declared.cell.TurnCell.{TurnCell}
use Rattle.turn_cell.specs.Passes.{opened_with, number, seen}
use Rattle.subpartition.specs.declared.entry.SendEntry.{SendEntry}
use Rattle.subpartition.specs.declared.entry.SendEntry.TheVariants.{Size}
use Rattle.subpartition.specs.Queues.{Queue}
use Rattle.subpartition.specs.Standing.{QueueStandsFor}
use Rattle.conn_read_control.proofs.sizes.fill_up_to.Goals as goal

pub leave_size-requires-clause-state : goal.leave_size-requires-clause-state
leave_size-requires-clause-state g c =
    let pass = c.enter-turn.result.pass.now in let old = c.state.result.now in let entered = c.state.ensures.value in
    let before = subst (λ queue. QueueStandsFor queue (seen pass)) (sym entered) c.enter-turn.ensures.state.0 in
    let size : old.size ≡ (opened_with c.args.cell.now).size =
    ap (λ (queue : Queue). queue.size) entered ∙ c.enter-turn.ensures.state.1 ∙ ap (λ (cell : TurnCell Queue SendEntry ℕ). (opened_with cell).size) c.enter-turn.ensures.turn.1 in
    let fits : c.args.n ≤ old.size = omega (arith, size, c.requires.size.1) in
    let stands = c.calls_add_entries.ensures.size old (seen pass) (number pass) c.args.n before (c.enter-turn.ensures.pass.0.0 ∙ c.requires.pass.1) c.requires.size.0 fits in
    subst (λ queue. QueueStandsFor queue (seen pass ++ (number pass, Size c.args.n) ∷ [])) (sym c.set_fill_size.ensures) stands
