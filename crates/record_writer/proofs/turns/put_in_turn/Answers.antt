use Rattle.std.proofs.Common.{rules, ◌≡◌, [], ◌∷◌, ◌++◌, sym, ap, subst, ◌∙◌}
use Rattle.turn_cell.specs.History.{by}
use Rattle.turn_cell.specs.Passes.{opened_with, number, seen, mine}
use Rattle.subpartition.specs.declared.entry.SendEntry.TheVariants.{Put}
use Rattle.subpartition.specs.Sending.{is_finished}
use Rattle.subpartition.specs.Queues.{Queue, bytes_of, last_bytes}
use Rattle.subpartition.specs.Standing.{QueueStandsFor}
use Rattle.record_writer.specs.Writers.{SendCell}
use Rattle.record_writer.proofs.turns.put_in_turn.Goals as goal

pub put-requires-clause-open_end : goal.put-requires-clause-open_end
put-requires-clause-open_end g c =
    let pass = c.enter-turn.result.pass.now in
    let entered : c.state-2.result.now ≡ c.enter-turn.result.state = search rules in
    let own : by 0 (seen pass) ≡ mine c.args.pass.now = ap (λ n. by n (seen pass)) (sym (c.enter-turn.ensures.pass.0.0 ∙ c.requires.pass.task)) ∙ c.enter-turn.ensures.turn.0.0.5 ∙ c.enter-turn.ensures.pass.0.1 in
    let told = c.calls_tell.ensures.task c.enter-turn.result.state (seen pass) c.enter-turn.ensures.state.0 in
    ap (λ (queue : Queue). queue.finished) entered ∙ told.finished ∙ ap is_finished own ∙ c.requires.open_end

pub leave_put-requires-clause-state : goal.leave_put-requires-clause-state
leave_put-requires-clause-state g c =
    let pass = c.enter-turn.result.pass.now in let old = c.state-2.result.now in
    let entered : old ≡ c.enter-turn.result.state = search rules in
    let before = subst (λ queue. QueueStandsFor queue (seen pass)) (sym entered) c.enter-turn.ensures.state.0 in
    let own : by 0 (seen pass) ≡ mine c.args.pass.now = ap (λ n. by n (seen pass)) (sym (c.enter-turn.ensures.pass.0.0 ∙ c.requires.pass.task)) ∙ c.enter-turn.ensures.turn.0.0.5 ∙ c.enter-turn.ensures.pass.0.1 in
    let told = c.calls_tell.ensures.task old (seen pass) before in
    let open_end = told.finished ∙ ap is_finished own ∙ c.requires.open_end in
    let stands = c.calls_add_entries.ensures.put old (seen pass) (number pass) c.args.filled before (c.enter-turn.ensures.pass.0.0 ∙ c.requires.pass.task) open_end (c.requires.size ∙ sym (ap (λ (k : SendCell). (opened_with k).size) c.enter-turn.ensures.turn.1) ∙ sym c.enter-turn.ensures.state.1 ∙ sym (ap (λ (queue : Queue). queue.size) entered)) in
    let last : last_bytes c.put.new.self.items ≡ bytes_of c.args.filled = ap (λ (queue : Queue). last_bytes queue.items) c.put.ensures ∙ c.calls_tell.ensures.put old c.args.filled in
    subst (λ bytes. QueueStandsFor c.put.new.self (seen pass ++ (number pass, Put bytes) ∷ [])) (sym last)
    (subst (λ queue. QueueStandsFor queue (seen pass ++ (number pass, Put (bytes_of c.args.filled)) ∷ [])) (sym c.put.ensures) stands)

pub returns-clause-entered : goal.returns-clause-entered
returns-clause-entered g c =
    let pass = c.enter-turn.result.pass.now in let old = c.state-2.result.now in
    let last : last_bytes c.put.new.self.items ≡ bytes_of c.args.filled = ap (λ (queue : Queue). last_bytes queue.items) c.put.ensures ∙ c.calls_tell.ensures.put old c.args.filled in
    let told : mine c.leave_put.new.turn.1.0 ≡ mine c.args.pass.now ++ Put (bytes_of c.args.filled) ∷ [] =
    c.leave_put.ensures.entered.2 ∙ ap (λ es. es ++ Put (last_bytes c.put.new.self.items) ∷ []) c.enter-turn.ensures.pass.0.1 ∙ ap (λ bytes. mine c.args.pass.now ++ Put bytes ∷ []) last in
    search (rules, told)
