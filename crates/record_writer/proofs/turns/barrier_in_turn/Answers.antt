use Rattle.std.proofs.Common.{rules, ◌≡◌, suc, [], ◌∷◌, ◌++◌, length, sym, ap, subst, ◌∙◌, arith}
use Rattle.turn_cell.specs.History.{by}
use Rattle.turn_cell.specs.Passes.{number, seen, mine}
use Rattle.subpartition.specs.declared.entry.SendEntry.TheVariants.{PutInline}
use Rattle.subpartition.specs.Sending.{barriers_put, is_finished}
use Rattle.subpartition.specs.Queues.{Queue}
use Rattle.subpartition.specs.Standing.{QueueStandsFor}
use Rattle.record_writer.proofs.turns.barrier_in_turn.Goals as goal

pub put_inline-requires-clause-open_end : goal.put_inline-requires-clause-open_end
put_inline-requires-clause-open_end g c =
    let pass = c.enter-turn.result.pass.now in
    let entered : c.state-2.result.now ≡ c.enter-turn.result.state = search rules in
    let own : by 0 (seen pass) ≡ mine c.args.pass.now = ap (λ n. by n (seen pass)) (sym (c.enter-turn.ensures.pass.0.0 ∙ c.requires.pass.task)) ∙ c.enter-turn.ensures.turn.0.0.5 ∙ c.enter-turn.ensures.pass.0.1 in
    let told = c.calls_tell.ensures.task c.enter-turn.result.state (seen pass) c.enter-turn.ensures.state.0 in
    ap (λ (queue : Queue). queue.finished) entered ∙ told.finished ∙ ap is_finished own ∙ c.requires.open_end

pub put_inline-requires-clause-next : goal.put_inline-requires-clause-next
put_inline-requires-clause-next g c =
    let pass = c.enter-turn.result.pass.now in
    let entered : c.state-2.result.now ≡ c.enter-turn.result.state = search rules in
    let own : by 0 (seen pass) ≡ mine c.args.pass.now = ap (λ n. by n (seen pass)) (sym (c.enter-turn.ensures.pass.0.0 ∙ c.requires.pass.task)) ∙ c.enter-turn.ensures.turn.0.0.5 ∙ c.enter-turn.ensures.pass.0.1 in
    let told = c.calls_tell.ensures.task c.enter-turn.result.state (seen pass) c.enter-turn.ensures.state.0 in
    let last : c.state-2.result.now.barriers ≡ length (barriers_put (mine c.args.pass.now)) = ap (λ (queue : Queue). queue.barriers) entered ∙ told.barriers ∙ ap (λ es. length (barriers_put es)) own in
    omega (arith, last, c.requires.next)

pub leave_barrier-requires-clause-state : goal.leave_barrier-requires-clause-state
leave_barrier-requires-clause-state g c =
    let pass = c.enter-turn.result.pass.now in let old = c.state-2.result.now in let k = c.args.k in
    let entered : old ≡ c.enter-turn.result.state = search rules in
    let before = subst (λ queue. QueueStandsFor queue (seen pass)) (sym entered) c.enter-turn.ensures.state.0 in
    let own : by 0 (seen pass) ≡ mine c.args.pass.now = ap (λ n. by n (seen pass)) (sym (c.enter-turn.ensures.pass.0.0 ∙ c.requires.pass.task)) ∙ c.enter-turn.ensures.turn.0.0.5 ∙ c.enter-turn.ensures.pass.0.1 in
    let told = c.calls_tell.ensures.task old (seen pass) before in
    let open_end = told.finished ∙ ap is_finished own ∙ c.requires.open_end in
    let last : old.barriers ≡ length (barriers_put (mine c.args.pass.now)) = told.barriers ∙ ap (λ es. length (barriers_put es)) own in
    let next : k ≡ suc old.barriers = omega (arith, last, c.requires.next) in
    let stands = c.calls_add_entries.ensures.put_inline old (seen pass) (number pass) k before (c.enter-turn.ensures.pass.0.0 ∙ c.requires.pass.task) open_end next in
    subst (λ queue. QueueStandsFor queue (seen pass ++ (number pass, PutInline k) ∷ [])) (sym c.put_inline.ensures) stands
