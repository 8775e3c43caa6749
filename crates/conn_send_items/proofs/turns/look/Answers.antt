use Rattle.std.proofs.Common.{rules, ◌≡◌, sym, ap, subst, ◌∙◌}
use Rattle.turn_cell.specs.Passes.{seen}
use Rattle.subpartition.specs.Standing.{QueueStandsFor}
use Rattle.conn_send_items.specs.Fronts.{NoneTaken, backlog_after, FrontStays}
use Rattle.conn_send_items.proofs.Fronts.{own_same, none_taken, backlog_is}
use Rattle.conn_send_items.proofs.turns.look.Goals as goal

pub returns-clause-taken : goal.returns-clause-taken
returns-clause-taken g c =
    let pass = c.enter-turn.result.pass.now in let before = c.args.pass.now in let entered = c.enter-turn.ensures in
    let own = own_same c.args.cell.now c.enter-turn.result.cell.now before pass c.requires entered.turn.0 entered.pass.0 in
    let told : NoneTaken (seen before) (seen c.leave_as_is.new.self.1.0) =
    none_taken _ (seen before) (seen pass) (seen c.leave_as_is.new.self.1.0) entered.state.0.legal entered.seen own c.leave_as_is.ensures.rested.1
    (c.passes_tell.ensures.sender _ (seen before) (seen pass) entered.state.0.legal entered.seen own) in
    search (rules, told)

pub returns-clause-backlog : goal.returns-clause-backlog
returns-clause-backlog g c =
    let pass = c.enter-turn.result.pass.now in let queue = c.state-queue.result.now in
    let stands = subst (λ q. QueueStandsFor q (seen pass)) (sym c.state-queue.ensures.value) c.enter-turn.ensures.state.0 in
    let told : backlog_after (seen c.leave_as_is.new.self.1.0) ≡ c.backlog.result =
    ap backlog_after c.leave_as_is.ensures.rested.1 ∙ backlog_is queue (seen pass) stands ∙ sym c.backlog.ensures.backlog in
    search (rules, told)

pub returns-clause-stays : goal.returns-clause-stays
returns-clause-stays g c =
    let pass = c.enter-turn.result.pass.now in let before = c.args.pass.now in let entered = c.enter-turn.ensures in
    let own = own_same c.args.cell.now c.enter-turn.result.cell.now before pass c.requires entered.turn.0 entered.pass.0 in
    let told : FrontStays (seen before) (seen c.leave_as_is.new.self.1.0) =
    subst (FrontStays (seen before)) (sym c.leave_as_is.ensures.rested.1) (c.passes_tell.ensures.first _ (seen before) (seen pass) entered.state.0.legal entered.seen own) in
    search (rules, told)
