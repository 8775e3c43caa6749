use Rattle.std.proofs.Common.{rules, ◌≡◌, ◌++◌, ◌∷◌, [], ◌+◌, sym, ap, ◌∙◌, arith, subst}
use Rattle.turn_cell.specs.History.{StartsWith}
use Rattle.turn_cell.specs.Passes.{IsPassOf, number, seen}
use Rattle.local_pool.specs.declared.entry.PoolEntry.TheVariants.{Returned}
use Rattle.local_pool.specs.Helds.{StandsIn, local_of}
use Rattle.local_pool.specs.Locals.{lent_of}
use Rattle.local_pool.proofs.Lendings.{later, same_terms, stands_less, stands_none}
use Rattle.local_pool.proofs.turns.give_in_turn.Goals as goal
use Rattle.local_pool.proofs.turns.give_in_turn.Goals.{then-lent-gt0, else-lent-gt0}

pub leave-requires-clause-state : goal.leave-requires-clause-state
leave-requires-clause-state g c =
    let told = c.enter_owned-pool.ensures in let pass = c.enter_owned-pool.result.1.pass in let held = c.enter_owned-pool.result.0 in
    let there = c.enter_owned-pool.result.1.cell.now in
    elim c.if-lent-gt0.branch [
      | then-lent-gt0 w ↦
          let less : lent_of (local_of held) ≡ lent_of (local_of w.give.new.self) + 1 = search rules in
          subst (StandsIn there (seen pass ++ (number pass, Returned) ∷ [])) (sym w.pool-is)
          (stands_less held w.give.new.self (seen pass) (number pass) told.state.0 w.give.ensures.same.1 less, same_terms held w.give.new.self w.give.ensures.same ∙ told.state.1)
      | else-lent-gt0 w ↦
          let none : lent_of (local_of held) ≡ 0 = search rules in
          subst (StandsIn there (seen pass ++ (number pass, Returned) ∷ [])) (sym w.pool-is)
          (stands_none held (seen pass) (number pass) told.state.0 none, told.state.1)
    ]

pub returns-clause-pass : goal.returns-clause-pass
returns-clause-pass g c =
    let told = c.enter_owned-pool.ensures in let end = c.leave.ensures in
    let starts : StartsWith (seen c.leave.result) (seen c.args.pass) = later (seen c.args.pass) (seen c.enter_owned-pool.result.1.pass) (seen c.leave.result) (number c.enter_owned-pool.result.1.pass, Returned) told.seen end.entered.1 in
    (subst (λ cell. IsPassOf cell c.leave.result) told.turn.1 end.pass, end.entered.0 ∙ told.pass.0, starts)
