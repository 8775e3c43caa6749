-- The passes of a pool that was just opened, in the order of the limits.
use Rattle.std.proofs.Common.{◌≡◌, ℕ, zero, suc, ◌+◌, ◌<◌, List, [], ◌∷◌, ◌++◌, All, length, get_or, slice_index, replicate, refl, sym, ap, subst, ◌∙◌, arith}
use mathlib.Core.Option.{some}
use lib.ListN.{get_elem?}
use Rattle.std.proofs.Math.Seq.{get_or-append_seam}
use Rattle.std.proofs.lemmas.List.{length_push, length-replicate, get_or-replicate, get_or_append_left}
use Rattle.std.proofs.lemmas.List.Elements.{All-get_or}
use Rattle.segment_pool.specs.declared.pool.Pool.{Pool}
use Rattle.segment_pool.specs.declared.pass.PoolPass.{PoolPass}
use Rattle.segment_pool.specs.Passes.{number, out}
use Rattle.segment_pool.specs.Pools.{AreFresh, limits_of}
use Rattle.exchange_core.specs.Opening.{lane_share, gate_share, shares, IsPoolReady}

module _ {X : Type 0} where
  found_before : (xs ys : List X) (i : ℕ) (d : X) → i < length xs → get_elem? (xs ++ ys) i ≡ some (get_or xs i d)
  found_before [] ys i d low = absurd (omega arith)
  found_before (x ∷ xs) ys zero d low = refl
  found_before (x ∷ xs) ys (suc i) d low = found_before xs ys i d (omega arith)

  found_last : (xs : List X) (y : X) → get_elem? (xs ++ y ∷ []) (length xs) ≡ some y
  found_last [] y = refl
  found_last (x ∷ xs) y = found_last xs y

-- the pass of the gate is the last one, and the others are those of the channels
module _ (pool : Pool) (m p g : ℕ) (passes rest : List PoolPass) (gate : PoolPass) (fresh : AreFresh pool passes) (none_out : All (λ pass. out pass ≡ 0) passes)
    (limits : limits_of pool ≡ replicate m p ++ g ∷ []) (count : length passes ≡ m + 1) (popped : passes ≡ rest ++ gate ∷ []) where
  pub rest_count : length rest ≡ m
  rest_count = let all = ap length popped in let more = length_push rest gate in omega arith

  all_none_out : All (λ pass. out pass ≡ 0) (rest ++ gate ∷ [])
  all_none_out = subst (All (λ pass. out pass ≡ 0)) popped none_out

  limit_before : (k : ℕ) → k < m → slice_index (replicate m p ++ g ∷ []) k ≡ p
  limit_before k low = get_or_append_left (replicate m p) (g ∷ []) 0 k (let n = length-replicate m p in omega arith) ∙ get_or-replicate m k p 0 low

  limit_last : slice_index (replicate m p ++ g ∷ []) m ≡ g
  limit_last = ap (λ k. get_or (replicate m p ++ g ∷ []) k 0) (sym (length-replicate m p)) ∙ get_or-append_seam (replicate m p) g [] 0

  pub lanes_ready : All (IsPoolReady pool p) rest
  lanes_ready k d low =
      let low_m : k < m = let n = rest_count in omega arith in
      let made = fresh.0.1 k (get_or rest k d) (ap (λ l. get_elem? l k) popped ∙ found_before rest (gate ∷ []) k d low) in
      let none : out (get_or (rest ++ gate ∷ []) k d) ≡ 0 = All-get_or (λ pass. out pass ≡ 0) (rest ++ gate ∷ []) k d (let n = length_push rest gate in omega arith) all_none_out in
      let granted : slice_index (limits_of pool) (number (get_or rest k d)) ≡ p = ap (slice_index (limits_of pool)) made.1 ∙ ap (λ l. slice_index l k) limits ∙ limit_before k low_m in
      record {
        of_pool = made.0;
        none_out = ap out (sym (get_or_append_left rest (gate ∷ []) d k low)) ∙ none;
        granted = omega (arith, granted);
      }

  pub gate_ready : IsPoolReady pool g gate
  gate_ready =
      let made = fresh.0.1 m gate (ap (λ l. get_elem? l m) popped ∙ ap (λ k. get_elem? (rest ++ gate ∷ []) k) (sym rest_count) ∙ found_last rest gate) in
      let none : out (get_or (rest ++ gate ∷ []) (length rest) gate) ≡ 0 = All-get_or (λ pass. out pass ≡ 0) (rest ++ gate ∷ []) (length rest) gate (let n = length_push rest gate in omega arith) all_none_out in
      let granted : slice_index (limits_of pool) (number gate) ≡ g = ap (slice_index (limits_of pool)) made.1 ∙ ap (λ l. slice_index l m) limits ∙ limit_last in
      record {
        of_pool = made.0;
        none_out = ap out (sym (get_or-append_seam rest gate [] gate)) ∙ none;
        granted = omega (arith, granted);
      }

pub shares_count : (m total : ℕ) → length (shares m total) ≡ m + 1
shares_count m total = length_push (replicate m (lane_share m total)) (gate_share m total) ∙ ap (λ n. n + 1) (length-replicate m (lane_share m total))
