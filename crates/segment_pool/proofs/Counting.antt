-- What is lent, by passes that keep to the rules.
use Rattle.std.proofs.Common.{◌≡◌, ℕ, suc, ◌+◌, ◌<◌, ◌≤◌, List, [], ◌∷◌, ◌++◌, length, get_or, arith}
use Rattle.std.specs.List.{sum, sum_by}
use Rattle.std.proofs.lemmas.List.Sums.{sum_by_push}
use Rattle.turn_cell.specs.History.{by}
use Rattle.segment_pool.specs.declared.stock.Dealing.{Dealing}
use Rattle.segment_pool.specs.declared.stock.Dealing.TheVariants.{Claimed, Given}
use Rattle.segment_pool.specs.Counting.{is_claim, is_give, balance, lent_in}
use Rattle.segment_pool.specs.Stocks.{IsWithin}
use Rattle.segment_pool.proofs.Sums.{upto_apart, upto_sum, upto_limits, upto_all, weight_by, top}

module _ (limits : List ℕ) (h : List (ℕ × Dealing)) (within : (k : ℕ) → IsWithin limits k (by k h)) where
  -- as much is lent as one pass has out, and all have claimed no less than they have given
  pub lends : (k : ℕ) → sum_by (λ e. is_give e.1) h + sum_by is_claim (by k h) ≤ sum_by (λ e. is_claim e.1) h + sum_by is_give (by k h)
  lends k = let n = top h + suc k in
      let gives = upto_all is_give h n (omega arith) in let claims = upto_all is_claim h n (omega arith) in
      let apart = upto_apart (weight_by is_give h) (weight_by is_claim h) (λ k. (within k).0) n k (omega arith) in omega arith

  pub balance_is_lent : (k : ℕ) → balance (by k h) ≤ lent_in h
  balance_is_lent k = let l = lends k in omega arith

  pub gives_no_more : sum_by (λ e. is_give e.1) h ≤ sum_by (λ e. is_claim e.1) h
  gives_no_more = let l = lends 0 in let w = (within 0).0 in omega arith

  -- a pass below its limit leaves less than all limits together to be lent
  pub below_limit : 0 < length limits → (k : ℕ) → balance (by k h) < get_or limits k 0 → lent_in h < sum limits
  below_limit some k below = let n = top h + suc k in
      let gives = upto_all is_give h n (omega arith) in let claims = upto_all is_claim h n (omega arith) in
      let fair = gives_no_more in let both = upto_sum (weight_by is_give h) (λ k. get_or limits k 0) n in let all = upto_limits limits n in
      let apart = upto_apart (weight_by is_claim h) (λ k. weight_by is_give h k + get_or limits k 0) (λ k. let w = (within k).1 some in omega arith) n k (omega arith) in omega arith

-- a claim and a gift count one
module _ (entries : List Dealing) (fair : sum_by is_give entries ≤ sum_by is_claim entries) where
  pub balance_claimed : balance (entries ++ Claimed ∷ []) ≡ balance entries + 1
  balance_claimed = let c = sum_by_push is_claim entries Claimed in let g = sum_by_push is_give entries Claimed in omega arith

  pub balance_given : 0 < balance entries → balance entries ≡ balance (entries ++ Given ∷ []) + 1
  balance_given some = let c = sum_by_push is_claim entries Given in let g = sum_by_push is_give entries Given in omega arith
