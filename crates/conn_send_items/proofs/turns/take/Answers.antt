use Rattle.std.proofs.Common.{rules, ◌≡◌, [], ◌∷◌, ◌++◌, sym, ap, subst, ◌∙◌}
use Rattle.std.specs.Prelude.{Some, All}
use Rattle.turn_cell.specs.Passes.{opened_with, number, seen}
use Rattle.subpartition.specs.declared.entry.SendEntry.TheVariants.{Take}
use Rattle.subpartition.specs.Queues.{Queue, HasLength, parcel_of}
use Rattle.subpartition.specs.Standing.{QueueStandsFor}
use Rattle.subpartition.specs.Theorems.{FirstStays}
use Rattle.conn_send_items.specs.Fronts.{SendCell, taken_in, OneTaken, first_after, front_after, backlog_after}
use Rattle.conn_send_items.proofs.Fronts.{own_same, still_some, front_is, backlog_is, one_taken, no_first, first_is, numbered, first_long}
use Rattle.conn_send_items.proofs.turns.take.Goals as goal

pub unreachable-requires : goal.unreachable-requires
unreachable-requires g c =
    let pass = c.enter-turn.result.pass.now in let before = c.args.pass.now in let entered = c.enter-turn.ensures in let queue = c.state.result.now in
    let own = own_same c.args.cell.now c.enter-turn.result.cell.now before pass c.requires.pass entered.turn.0 entered.pass.0 in
    let stands = subst (λ q. QueueStandsFor q (seen pass)) (sym c.state.ensures.value) entered.state.0 in
    let some = still_some (first_after (seen before)) (first_after (seen pass)) (c.passes_tell.ensures.first _ (seen before) (seen pass) stands.legal entered.seen own) c.requires.standing in
    no_first queue.items (λ none. some (front_is queue (seen pass) stands ∙ none)) (sym c.take.ensures.first ∙ c.in_default.is)

pub leave-requires-clause-state : goal.leave-requires-clause-state
leave-requires-clause-state g c =
    let pass = c.enter-turn.result.pass.now in let entered = c.enter-turn.ensures in let queue = c.state.result.now in
    let stands = subst (λ q. QueueStandsFor q (seen pass)) (sym c.state.ensures.value) entered.state.0 in
    let then : c.state-queue.result.now ≡ c.take.new.self = search rules in
    let after = c.calls_add_entries.ensures.take queue (seen pass) (number pass) stands (entered.pass.0.0 ∙ c.requires.pass.1) in (
      subst (λ q. QueueStandsFor q (seen pass ++ (number pass, Take) ∷ [])) (sym (then ∙ c.take.ensures.rest)) after,
      ap (λ (q : Queue). q.size) (then ∙ c.take.ensures.rest) ∙ ap (λ (q : Queue). q.size) c.state.ensures.value ∙ entered.state.1,
    )

pub returns-clause-taken : goal.returns-clause-taken
returns-clause-taken g c =
    let pass = c.enter-turn.result.pass.now in let before = c.args.pass.now in let entered = c.enter-turn.ensures in let queue = c.state.result.now in
    let own = own_same c.args.cell.now c.enter-turn.result.cell.now before pass c.requires.pass entered.turn.0 entered.pass.0 in
    let stands = subst (λ q. QueueStandsFor q (seen pass)) (sym c.state.ensures.value) entered.state.0 in
    let same = c.passes_tell.ensures.sender _ (seen before) (seen pass) stands.legal entered.seen own in
    let next = c.calls_tell.ensures.take queue (seen pass) (number pass) (Some c.in-Some.item) stands (sym c.in-Some.is ∙ c.take.ensures.first) in
    let taken : taken_in (seen c.leave.new.self.1.0) ≡ taken_in (seen before) ++ parcel_of c.in-Some.item ∷ [] =
    ap taken_in c.leave.ensures.entered.1 ∙ next ∙ ap (λ ps. ps ++ parcel_of c.in-Some.item ∷ []) same in
    let then : c.state-queue.result.now ≡ c.take.new.self = search rules in
    let after = c.calls_add_entries.ensures.take queue (seen pass) (number pass) stands (entered.pass.0.0 ∙ c.requires.pass.1) in
    let stood = subst (λ q. QueueStandsFor q (seen pass ++ (number pass, Take) ∷ [])) (sym (then ∙ c.take.ensures.rest)) after in
    let left : backlog_after (seen c.leave.new.self.1.0) ≡ c.backlog.result =
    ap backlog_after c.leave.ensures.entered.1 ∙ backlog_is c.state-queue.result.now _ stood ∙ sym c.backlog.ensures.backlog in
    let some = still_some (first_after (seen before)) (first_after (seen pass)) (c.passes_tell.ensures.first _ (seen before) (seen pass) stands.legal entered.seen own) c.requires.standing in
    let told : OneTaken (seen before) (seen c.leave.new.self.1.0) (parcel_of c.in-Some.item) c.backlog.result =
    one_taken _ (seen before) (seen pass) (seen c.leave.new.self.1.0) (number pass) (parcel_of c.in-Some.item) c.backlog.result stands.legal entered.seen own some c.leave.ensures.entered.1 taken left in
    search (rules, told)

pub returns-clause-backlog : goal.returns-clause-backlog
returns-clause-backlog g c =
    let pass = c.enter-turn.result.pass.now in let entered = c.enter-turn.ensures in let queue = c.state.result.now in
    let stands = subst (λ q. QueueStandsFor q (seen pass)) (sym c.state.ensures.value) entered.state.0 in
    let then : c.state-queue.result.now ≡ c.take.new.self = search rules in
    let after = c.calls_add_entries.ensures.take queue (seen pass) (number pass) stands (entered.pass.0.0 ∙ c.requires.pass.1) in
    let stood = subst (λ q. QueueStandsFor q (seen pass ++ (number pass, Take) ∷ [])) (sym (then ∙ c.take.ensures.rest)) after in
    let left : backlog_after (seen c.leave.new.self.1.0) ≡ c.backlog.result =
    ap backlog_after c.leave.ensures.entered.1 ∙ backlog_is c.state-queue.result.now _ stood ∙ sym c.backlog.ensures.backlog in
    search (rules, left)

pub returns-clause-was : goal.returns-clause-was
returns-clause-was g c =
    let pass = c.enter-turn.result.pass.now in let before = c.args.pass.now in let entered = c.enter-turn.ensures in let queue = c.state.result.now in
    let own = own_same c.args.cell.now c.enter-turn.result.cell.now before pass c.requires.pass entered.turn.0 entered.pass.0 in
    let stands = subst (λ q. QueueStandsFor q (seen pass)) (sym c.state.ensures.value) entered.state.0 in
    subst (FirstStays (first_after (seen before))) (first_is queue (seen pass) c.in-Some.item stands (sym c.take.ensures.first ∙ c.in-Some.is)) (c.passes_tell.ensures.first _ (seen before) (seen pass) stands.legal entered.seen own)

pub returns-clause-numbered : goal.returns-clause-numbered
returns-clause-numbered g c =
    let pass = c.enter-turn.result.pass.now in let queue = c.state.result.now in
    let stands = subst (λ q. QueueStandsFor q (seen pass)) (sym c.state.ensures.value) c.enter-turn.ensures.state.0 in
    numbered c.passes_tell.ensures.entries c.allowed_histories.ensures.numbers c.histories_keep_order.ensures.barriers queue (seen pass) c.in-Some.item stands (sym c.take.ensures.first ∙ c.in-Some.is)

pub returns-clause-front : goal.returns-clause-front
returns-clause-front g c =
    let pass = c.enter-turn.result.pass.now in let entered = c.enter-turn.ensures in let queue = c.state.result.now in
    let stands = subst (λ q. QueueStandsFor q (seen pass)) (sym c.state.ensures.value) entered.state.0 in
    let then : c.state-queue.result.now ≡ c.take.new.self = search rules in
    let after = c.calls_add_entries.ensures.take queue (seen pass) (number pass) stands (entered.pass.0.0 ∙ c.requires.pass.1) in
    let stood = subst (λ q. QueueStandsFor q (seen pass ++ (number pass, Take) ∷ [])) (sym (then ∙ c.take.ensures.rest)) after in
    let told : front_after (seen c.leave.new.self.1.0) ≡ c.head.result =
    ap front_after c.leave.ensures.entered.1 ∙ front_is c.state-queue.result.now _ stood ∙ sym c.head.ensures in
    search (rules, told)

pub returns-clause-size : goal.returns-clause-size
returns-clause-size g c =
    let pass = c.enter-turn.result.pass.now in let entered = c.enter-turn.ensures in let queue = c.state.result.now in
    let stands = subst (λ q. QueueStandsFor q (seen pass)) (sym c.state.ensures.value) entered.state.0 in
    let size = ap (λ (q : Queue). q.size) c.state.ensures.value ∙ entered.state.1 ∙ ap (λ (k : SendCell). (opened_with k).size) entered.turn.1 in
    first_long _ queue.items c.in-Some.item (subst (λ n. All (HasLength n) queue.items) size stands.segments) (sym c.take.ensures.first ∙ c.in-Some.is)
