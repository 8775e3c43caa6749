use Rattle.std.proofs.Common.{rules, ◌≡◌, ◌++◌, ◌∷◌, [], sym, ap, ◌∙◌, subst, refl, ◌+◌, ◌≤◌}
use Rattle.segment_pool.specs.Pools.{IsLimited}
use Rattle.local_pool.specs.Locals.{limit_of}
use Rattle.local_pool.specs.Lending.{lent_by}
use Rattle.turn_cell.specs.History.{StartsWith}
use Rattle.turn_cell.specs.Passes.{IsPassOf, opened_with, number, seen}
use Rattle.local_pool.specs.declared.entry.PoolEntry.TheVariants.{Lent}
use Rattle.local_pool.specs.Helds.{local_of, pool_of, terms_of}
use Rattle.local_pool.specs.Locals.{lent_of}
use Rattle.local_pool.proofs.Lendings.{limit_reached, later, same_terms, stands_more}
use Rattle.local_pool.proofs.turns.request_in_turn.Goals as goal

pub leave-requires-clause-state : goal.leave-requires-clause-state
leave-requires-clause-state g c =
    let told = c.enter_owned-pool.ensures in let pass = c.enter_owned-pool.result.1.pass in
    let more : lent_of (local_of c.request.new.self) ≡ lent_of (local_of c.enter_owned-pool.result.0) + 1 = search rules in
    (stands_more c.enter_owned-pool.result.0 c.request.new.self (seen pass) (number pass) told.state.0 c.request.ensures.same.1 more, same_terms c.enter_owned-pool.result.0 c.request.new.self c.request.ensures.same ∙ told.state.1)

pub returns-in-Some-clause-pass : goal.returns-in-Some-clause-pass
returns-in-Some-clause-pass g c =
    let told = c.enter_owned-pool.ensures in let end = c.leave.ensures in
    let starts : StartsWith (seen c.leave.result) (seen c.args.pass) = later (seen c.args.pass) (seen c.enter_owned-pool.result.1.pass) (seen c.leave.result) (number c.enter_owned-pool.result.1.pass, Lent) told.seen end.entered.1 in
    (subst (λ cell. IsPassOf cell c.leave.result) told.turn.1 end.pass, end.entered.0 ∙ told.pass.0, starts)

pub returns-in-None-clause-limited : goal.returns-in-None-clause-limited
returns-in-None-clause-limited g c = λ limited none.
    let told = c.enter_owned-pool.ensures in let held = c.enter_owned-pool.result.0 in let opened = opened_with c.args.cell.now in let pass = c.enter_owned-pool.result.1.pass in
    let same : terms_of held ≡ terms_of opened = told.state.1 ∙ ap (λ k. terms_of (opened_with k)) told.turn.1 in
    let pools : pool_of held ≡ pool_of opened = ap (λ t. t.0) same in
    let reached = limit_reached held opened (seen pass) told.state.0 same ((c.in-None.ensures.limited (subst IsLimited (sym pools) limited)).0 refl) in
    subst (λ h. limit_of (local_of opened) ≤ lent_by opened h) (sym c.leave_as_is.ensures.rested.1) reached
