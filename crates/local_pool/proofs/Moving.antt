-- What a pass has done after one turn more.
use Rattle.std.proofs.Common.{◌≡◌, ℕ, ◌+◌, List, [], ◌∷◌, ◌++◌, map, replicate, refl, sym, ap, subst, ◌∙◌, append_assoc}
use Rattle.std.proofs.lemmas.List.{append-nil, replicate-append-replicate}
use Rattle.turn_cell.specs.History.{by}
use Rattle.turn_cell.proofs.Lists.{starts_itself, starts_on}
use Rattle.segment_pool.specs.declared.pool.Pool.{Pool}
use Rattle.segment_pool.specs.declared.pass.PoolPass.{PoolPass}
use Rattle.segment_pool.specs.declared.stock.Dealing.{Dealing}
use Rattle.segment_pool.specs.declared.stock.Dealing.TheVariants.{Claimed}
use Rattle.segment_pool.specs.Counting.{free_in}
use Rattle.segment_pool.specs.Passes.{number, seen, mine}
use Rattle.segment_pool.specs.Pools.{IsPassOf, total_of}
use Rattle.segment_pool.specs.Turns.{TookTurn}
use Rattle.local_pool.specs.Moves.{FoundNone, HasDone}

-- nothing is done yet
pub HasDone-none : (pass : PoolPass) → HasDone [] pass pass
HasDone-none pass = record { same_number = refl; later = starts_itself (seen pass); then_mine = sym (append-nil (mine pass)) }

-- one turn more
pub HasDone-more : (before between after : PoolPass) (entries more : List Dealing) (P : List (ℕ × Dealing) → Type 0) → HasDone entries before between → TookTurn more between after P → HasDone (entries ++ more) before after
HasDone-more before between after entries more P done turn = record {
  same_number = turn.same_number ∙ done.same_number;
  later = starts_on (seen after) turn.history (seen before) (map (λ e. (number between, e)) more, turn.then_seen) (starts_on turn.history (seen between) (seen before) turn.later done.later);
  then_mine = turn.then_mine ∙ (ap (λ es. es ++ more) done.then_mine ∙ append_assoc (mine before) entries more);
}

-- one call after another
pub HasDone-then : (before between after : PoolPass) (entries more : List Dealing) → HasDone entries before between → HasDone more between after → HasDone (entries ++ more) before after
HasDone-then before between after entries more done then = record {
  same_number = then.same_number ∙ done.same_number;
  later = starts_on (seen after) (seen between) (seen before) then.later done.later;
  then_mine = then.then_mine ∙ (ap (λ es. es ++ more) done.then_mine ∙ append_assoc (mine before) entries more);
}

-- one segment more
pub replicate_more : {A : Type 0} (n : ℕ) (x : A) → replicate n x ++ x ∷ [] ≡ replicate (n + 1) x
replicate_more n x = replicate-append-replicate n 1 x

-- one turn more of the same kind
pub HasDone-again : (before between after : PoolPass) (n m : ℕ) (x : Dealing) (P : List (ℕ × Dealing) → Type 0) → m ≡ n + 1 → HasDone (replicate n x) before between → TookTurn (x ∷ []) between after P → HasDone (replicate m x) before after
HasDone-again before between after n m x P more done turn =
    let P' : List Dealing → Type 0 = λ es. HasDone es before after in
    subst P' (replicate_more n x ∙ ap (λ k. replicate k x) (sym more)) (HasDone-more before between after (replicate n x) (x ∷ []) P done turn)

-- a turn that found nothing
pub FoundNone-now : (pool : Pool) (before between after : PoolPass) (count : ℕ) → HasDone (replicate count Claimed) before between → IsPassOf pool after
    → TookTurn [] between after (λ history. free_in (total_of pool) history ≡ 0) → FoundNone pool count before after
FoundNone-now pool before between after count done is_pass turn =
    let all = turn.then_seen ∙ append-nil turn.history in
    record {
      history = turn.history;
      later = starts_on turn.history (seen between) (seen before) turn.later done.later;
      earlier = ([], turn.then_seen);
      claimed = ap (λ k. by k turn.history) (sym (turn.same_number ∙ done.same_number)) ∙ (ap (by (number after)) (sym all) ∙ (is_pass.0.0.5 ∙ (turn.then_mine ∙ (append-nil (mine between) ∙ done.then_mine))));
      none_free = turn.fact;
    }

-- what was found holds of any later end
pub FoundNone-later : (pool : Pool) (count : ℕ) (before between after : PoolPass) (entries : List Dealing) → FoundNone pool count before between → HasDone entries between after → FoundNone pool count before after
FoundNone-later pool count before between after entries found then = record {
  history = found.history;
  later = found.later;
  earlier = starts_on (seen after) (seen between) found.history then.later found.earlier;
  claimed = found.claimed;
  none_free = found.none_free;
}
