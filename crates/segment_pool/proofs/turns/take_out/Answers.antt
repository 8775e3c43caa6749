use Rattle.std.proofs.Common.{◌≡◌, ◌+◌, ◌<◌, ◌≤◌, [], false, length, arith, rules, refl, sym, ap, ◌∙◌, append-nil, Some}
use Rattle.std.proofs.lemmas.Bool.{false≢true}
use Rattle.std.proofs.Math.Decide.{dec_lt}
use mathlib.Core.Logic.{dite}
use mathlib.Core.Logic.{◌↔◌}
use Rattle.std.proofs.lemmas.List.Elements.{All-pop}
use Rattle.turn_cell.specs.Passes.{mine, number, seen}
use Rattle.segment_pool.specs.Counting.{balance, free_in}
use Rattle.segment_pool.specs.Pools.{total_of}
use Rattle.segment_pool.specs.Turns.{HasTurned}
use Rattle.segment_pool.proofs.Dealings.{stands_for, on_terms, same_terms, still_below, claimed, counted, few_out, one_more_out, some_is_free}
use Rattle.segment_pool.proofs.turns.take_out.Goals as goal

pub leave-requires-clause-state : goal.leave-requires-clause-state
leave-requires-clause-state g c =
    let e = c.enter-turn.ensures in let at = c.enter-turn.result.pass.now in let stock = c.state.result.now in let found = c.enter-turn.result.state in
    let cell = c.args.pool.now.cell in let at_cell = c.enter-turn.result.cell.now in let before = c.args.pass.now in (
      claimed stock (seen at) (stands_for cell at_cell before at stock found e.turn e.pass.0 e.state c.state.ensures.value) (number at)
          c.pop.new.self c.in-Some.segment c.in-Some.ensures.items c.in-Some.ensures.room
          (still_below cell at_cell before at stock found e.turn e.pass.0 e.state c.state.ensures.value c.requires.limit),
      same_terms cell at_cell before at stock found e.turn e.pass.0 e.state c.state.ensures.value,
    )

pub returns-in-Some-clause-out : goal.returns-in-Some-clause-out
returns-in-Some-clause-out g c =
    let e = c.enter-turn.ensures in let at = c.enter-turn.result.pass.now in let stock = c.state.result.now in let found = c.enter-turn.result.state in
    let cell = c.args.pool.now.cell in let at_cell = c.enter-turn.result.cell.now in let before = c.args.pass.now in
    let out : balance (mine c.leave.new.self.1.0) ≡ balance (mine before) + 1 =
    one_more_out cell at_cell before at stock found e.turn e.pass.0 e.state c.state.ensures.value c.leave.new.self.1.0 c.leave.ensures.entered.2 in
    search rules

pub returns-in-Some-clause-few : goal.returns-in-Some-clause-few
returns-in-Some-clause-few g c =
    let e = c.enter-turn.ensures in let at = c.enter-turn.result.pass.now in let stock = c.state.result.now in let found = c.enter-turn.result.state in
    let cell = c.args.pool.now.cell in let at_cell = c.enter-turn.result.cell.now in let before = c.args.pass.now in
    let out : balance (mine c.leave.new.self.1.0) ≡ balance (mine before) + 1 =
    one_more_out cell at_cell before at stock found e.turn e.pass.0 e.state c.state.ensures.value c.leave.new.self.1.0 c.leave.ensures.entered.2 in
    let count = counted cell at_cell before at stock found e.turn e.pass.0 e.state c.state.ensures.value in
    let lent = few_out cell at_cell before at stock found e.turn e.pass.0 e.state c.state.ensures.value in
    let total = c.args.pool.now.same_total in let some = c.in-Some.ensures.some.0 refl in
    let few : balance (mine c.leave.new.self.1.0) ≤ total_of c.args.pool.now = omega arith in
    search rules

pub returns-in-Some-clause-size : goal.returns-in-Some-clause-size
returns-in-Some-clause-size g c =
    let e = c.enter-turn.ensures in let at = c.enter-turn.result.pass.now in let stock = c.state.result.now in let found = c.enter-turn.result.state in
    let cell = c.args.pool.now.cell in let at_cell = c.enter-turn.result.cell.now in let before = c.args.pass.now in
    let stands = stands_for cell at_cell before at stock found e.turn e.pass.0 e.state c.state.ensures.value in
    let terms = on_terms cell at_cell before at stock found e.turn e.pass.0 e.state c.state.ensures.value in
    (All-pop (λ segment. length segment ≡ stock.terms.size) stock.free.items c.pop.new.self.items (Some c.in-Some.segment) c.in-Some.ensures.items stands.sizes).1
    ∙ (ap (λ t. t.size) terms ∙ sym c.args.pool.now.same_size)

pub returns-in-None-clause-turn : goal.returns-in-None-clause-turn
returns-in-None-clause-turn g c =
    let e = c.enter-turn.ensures in let at = c.enter-turn.result.pass.now in let stock = c.state.result.now in let found = c.enter-turn.result.state in
    let cell = c.args.pool.now.cell in let at_cell = c.enter-turn.result.cell.now in let before = c.args.pass.now in
    let count = counted cell at_cell before at stock found e.turn e.pass.0 e.state c.state.ensures.value in let total = c.args.pool.now.same_total in
    let none : length stock.free.items ≡ 0 = dite (dec_lt 0 (length stock.free.items)) (λ some. absurd (false≢true (c.in-None.ensures.some.1 some))) (λ no. omega arith) in
    let rested = c.leave_as_is.ensures.rested in
    let turned : HasTurned [] before c.leave_as_is.new.self.1.0 (λ history. (false ≡ false) ↔ (free_in (total_of c.args.pool.now) history ≡ 0)) = record {
      history = seen at;
      later = e.seen;
      fact = (λ _. omega arith, λ _. refl);
      same_number = rested.0.0 ∙ e.pass.0.0;
      then_seen = rested.1 ∙ sym (append-nil (seen at));
      then_mine = rested.0.1 ∙ (e.pass.0.1 ∙ sym (append-nil (mine before)));
    } in
    search rules

pub returns-in-None-clause-limited : goal.returns-in-None-clause-limited
returns-in-None-clause-limited g c = λ limited.
    let e = c.enter-turn.ensures in let at = c.enter-turn.result.pass.now in let stock = c.state.result.now in let found = c.enter-turn.result.state in
    let cell = c.args.pool.now.cell in let at_cell = c.enter-turn.result.cell.now in let before = c.args.pass.now in
    let stands = stands_for cell at_cell before at stock found e.turn e.pass.0 e.state c.state.ensures.value in
    let terms = on_terms cell at_cell before at stock found e.turn e.pass.0 e.state c.state.ensures.value in
    let still : 0 < length stock.terms.limits.items = rw terms limited in
    c.in-None.ensures.some.1 (some_is_free stock (seen at) stands (number at) still (still_below cell at_cell before at stock found e.turn e.pass.0 e.state c.state.ensures.value c.requires.limit still))

pub returns-in-None-clause-few : goal.returns-in-None-clause-few
returns-in-None-clause-few g c =
    let e = c.enter-turn.ensures in let at = c.enter-turn.result.pass.now in let stock = c.state.result.now in let found = c.enter-turn.result.state in
    let cell = c.args.pool.now.cell in let at_cell = c.enter-turn.result.cell.now in let before = c.args.pass.now in
    let count = counted cell at_cell before at stock found e.turn e.pass.0 e.state c.state.ensures.value in
    let lent = few_out cell at_cell before at stock found e.turn e.pass.0 e.state c.state.ensures.value in
    let total = c.args.pool.now.same_total in let same = ap balance (c.leave_as_is.ensures.rested.0.1 ∙ e.pass.0.1) in
    let few : balance (mine c.leave_as_is.new.self.1.0) ≤ total_of c.args.pool.now = omega arith in
    search rules
