use Rattle.std.proofs.Common.{◌≡◌, ◌+◌, ◌<◌, [], ◌∷◌, ◌++◌, arith, rules, sym, ap, ◌∙◌}
use Rattle.std.proofs.lemmas.Bool.{false≢true}
use Rattle.turn_cell.specs.Passes.{mine, number, seen}
use Rattle.segment_pool.specs.declared.stock.Dealing.TheVariants.{Given}
use Rattle.segment_pool.specs.Counting.{balance, lent_in}
use Rattle.segment_pool.specs.Turns.{HasTurned}
use Rattle.segment_pool.proofs.Dealings.{stands_for, on_terms, same_terms, given, has_room, few_out, one_less_out, still_out}
use Rattle.segment_pool.proofs.turns.put_in.Goals as goal

pub unreachable-requires : goal.unreachable-requires
unreachable-requires g c =
    let e = c.enter-turn.ensures in let at = c.enter-turn.result.pass.now in let stock = c.state.result.now in let found = c.enter-turn.result.state in
    let cell = c.args.pool.now.cell in let at_cell = c.enter-turn.result.cell.now in let before = c.args.pass.now in
    let stands = stands_for cell at_cell before at stock found e.turn e.pass.0 e.state c.state.ensures.value in
    false≢true (c.in_default.ensures.succeeds (has_room stock (seen at) stands (number at) (still_out cell at_cell before at stock found e.turn e.pass.0 e.state c.state.ensures.value c.requires.out)))

pub leave-requires-clause-state : goal.leave-requires-clause-state
leave-requires-clause-state g c =
    let e = c.enter-turn.ensures in let at = c.enter-turn.result.pass.now in let stock = c.state.result.now in let found = c.enter-turn.result.state in
    let cell = c.args.pool.now.cell in let at_cell = c.enter-turn.result.cell.now in let before = c.args.pass.now in
    let stands = stands_for cell at_cell before at stock found e.turn e.pass.0 e.state c.state.ensures.value in
    let terms = on_terms cell at_cell before at stock found e.turn e.pass.0 e.state c.state.ensures.value in (
      given stock (seen at) stands (number at) c.push.new.self c.args.segment c.in-Ok.ensures.ok c.in-Ok.ensures.room
          (c.requires.size ∙ (c.args.pool.now.same_size ∙ sym (ap (λ t. t.size) terms)))
          (still_out cell at_cell before at stock found e.turn e.pass.0 e.state c.state.ensures.value c.requires.out),
      same_terms cell at_cell before at stock found e.turn e.pass.0 e.state c.state.ensures.value,
    )

pub returns-clause-turn : goal.returns-clause-turn
returns-clause-turn g c =
    let e = c.enter-turn.ensures in let at = c.enter-turn.result.pass.now in let stock = c.state.result.now in let found = c.enter-turn.result.state in
    let cell = c.args.pool.now.cell in let at_cell = c.enter-turn.result.cell.now in let before = c.args.pass.now in
    let lent = few_out cell at_cell before at stock found e.turn e.pass.0 e.state c.state.ensures.value in let some = c.requires.out in
    let entered = c.leave.ensures.entered in
    let turned : HasTurned (Given ∷ []) before c.leave.new.self.1.0 (λ history. 0 < lent_in history) = record {
      history = seen at;
      later = e.seen;
      fact = omega arith;
      same_number = entered.0 ∙ e.pass.0.0;
      then_seen = entered.1 ∙ ap (λ n. seen at ++ (n, Given) ∷ []) e.pass.0.0;
      then_mine = entered.2 ∙ ap (λ es. es ++ Given ∷ []) e.pass.0.1;
    } in
    search rules

pub returns-clause-out : goal.returns-clause-out
returns-clause-out g c =
    let e = c.enter-turn.ensures in let at = c.enter-turn.result.pass.now in let stock = c.state.result.now in let found = c.enter-turn.result.state in
    let cell = c.args.pool.now.cell in let at_cell = c.enter-turn.result.cell.now in let before = c.args.pass.now in
    let out : balance (mine before) ≡ balance (mine c.leave.new.self.1.0) + 1 =
    one_less_out cell at_cell before at stock found e.turn e.pass.0 e.state c.state.ensures.value c.leave.new.self.1.0 c.leave.ensures.entered.2 c.requires.out in
    search rules
