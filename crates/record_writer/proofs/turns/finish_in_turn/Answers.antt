use Rattle.std.proofs.Common.{rules, ◌≡◌, [], ◌∷◌, ◌++◌, sym, ap, subst, ◌∙◌}
use Rattle.turn_cell.specs.History.{by}
use Rattle.turn_cell.specs.Passes.{number, seen, mine}
use Rattle.subpartition.specs.declared.entry.SendEntry.TheVariants.{Finish}
use Rattle.subpartition.specs.Sending.{is_finished}
use Rattle.subpartition.specs.Queues.{Queue}
use Rattle.subpartition.specs.Standing.{QueueStandsFor}
use Rattle.record_writer.proofs.turns.finish_in_turn.Goals as goal

pub finish-requires-clause-open_end : goal.finish-requires-clause-open_end
finish-requires-clause-open_end g c =
    let pass = c.enter-turn.result.pass.now in
    let entered : c.state-2.result.now ≡ c.enter-turn.result.state = search rules in
    let own : by 0 (seen pass) ≡ mine c.args.pass.now = ap (λ n. by n (seen pass)) (sym (c.enter-turn.ensures.pass.0.0 ∙ c.requires.pass.task)) ∙ c.enter-turn.ensures.turn.0.0.5 ∙ c.enter-turn.ensures.pass.0.1 in
    let told = c.calls_tell.ensures.task c.enter-turn.result.state (seen pass) c.enter-turn.ensures.state.0 in
    ap (λ (queue : Queue). queue.finished) entered ∙ told.finished ∙ ap is_finished own ∙ c.requires.open_end

pub leave-requires-clause-state : goal.leave-requires-clause-state
leave-requires-clause-state g c =
    let pass = c.enter-turn.result.pass.now in let old = c.state-2.result.now in
    let entered : old ≡ c.enter-turn.result.state = search rules in
    let before = subst (λ queue. QueueStandsFor queue (seen pass)) (sym entered) c.enter-turn.ensures.state.0 in
    let own : by 0 (seen pass) ≡ mine c.args.pass.now = ap (λ n. by n (seen pass)) (sym (c.enter-turn.ensures.pass.0.0 ∙ c.requires.pass.task)) ∙ c.enter-turn.ensures.turn.0.0.5 ∙ c.enter-turn.ensures.pass.0.1 in
    let told = c.calls_tell.ensures.task old (seen pass) before in
    let open_end = told.finished ∙ ap is_finished own ∙ c.requires.open_end in
    let stands = c.calls_add_entries.ensures.finish old (seen pass) (number pass) before (c.enter-turn.ensures.pass.0.0 ∙ c.requires.pass.task) open_end in (
      subst (λ queue. QueueStandsFor queue (seen pass ++ (number pass, Finish) ∷ [])) (sym c.finish.ensures) stands,
      ap (λ (queue : Queue). queue.size) c.finish.ensures ∙ ap (λ (queue : Queue). queue.size) entered ∙ c.enter-turn.ensures.state.1,
    )
