-- What is lent after the entries of a turn.
use Rattle.std.proofs.Common.{◌≡◌, ℕ, suc, ◌+◌, ◌-◌, ◌≤◌, List, [], ◌∷◌, ◌++◌, refl, sym, ap, ◌∙◌, subst, arith}
use Rattle.std.proofs.lemmas.List.{map-append, append_assoc}
use Rattle.segment_pool.specs.declared.pool.Pool.{Pool}
use Rattle.turn_cell.specs.History.{StartsWith, entries_of}
use Rattle.local_pool.specs.declared.held.HeldPool.{HeldPool}
use Rattle.local_pool.specs.declared.entry.PoolEntry.{PoolEntry}
use Rattle.local_pool.specs.declared.entry.PoolEntry.TheVariants.{Lent, Returned}
use Rattle.local_pool.specs.Helds.{first_of, local_of, pool_of, terms_of, HeldStandsFor}
use Rattle.local_pool.specs.Lending.{lent_after, lent_by}
use Rattle.local_pool.specs.Locals.{IsSameLocal, lent_of, limit_of}

lent_then : (n : ℕ) (es fs : List PoolEntry) → lent_after n (es ++ fs) ≡ lent_after (lent_after n es) fs
lent_then n [] fs = refl
lent_then n (Lent ∷ es) fs = lent_then (suc n) es fs
lent_then n (Returned ∷ es) fs = lent_then (n - 1) es fs

pub lent_more : (held : HeldPool) (history : List (ℕ × PoolEntry)) (n : ℕ) → lent_by held (history ++ (n, Lent) ∷ []) ≡ lent_by held history + 1
lent_more held history n =
    ap (lent_after held.first) (map-append (λ (e : ℕ × PoolEntry). e.1) history ((n, Lent) ∷ [])) ∙ lent_then held.first (entries_of history) (Lent ∷ []) ∙ omega arith

-- The terms tell how many were lent at first.
pub same_lent : (old new : HeldPool) (history : List (ℕ × PoolEntry)) → terms_of new ≡ terms_of old → lent_by new history ≡ lent_by old history
same_lent old new history same = ap (λ (t : Pool × ℕ × ℕ × ℕ). lent_after t.3 (entries_of history)) same

pub lent_less : (held : HeldPool) (history : List (ℕ × PoolEntry)) (n : ℕ) → lent_by held (history ++ (n, Returned) ∷ []) ≡ lent_by held history - 1
lent_less held history n = ap (lent_after held.first) (map-append (λ (e : ℕ × PoolEntry). e.1) history ((n, Returned) ∷ [])) ∙ lent_then held.first (entries_of history) (Returned ∷ [])

-- A turn that begins with what the pass had seen, and ends with an entry behind it.
pub later : {A : Type 0} (before now after : List A) (x : A) → StartsWith now before → after ≡ now ++ x ∷ [] → StartsWith after before
later before now after x starts is = (starts.0 ++ x ∷ [], is ∙ ap (λ l. l ++ x ∷ []) starts.1 ∙ append_assoc before starts.0 (x ∷ []))

-- The terms stay while the pool, the number, the limit and what was lent at first do.
pub same_terms : (old new : HeldPool) → (pool_of new ≡ pool_of old) × (first_of new ≡ first_of old) × IsSameLocal (local_of old) (local_of new) → terms_of new ≡ terms_of old
same_terms old new same = let pool = same.0 in let first = same.1 in let limit = same.2.limit in let number = same.2.number in cc

-- One more is lent after a request that got one.
pub stands_more : (old new : HeldPool) (history : List (ℕ × PoolEntry)) (n : ℕ) → HeldStandsFor old history → first_of new ≡ first_of old → lent_of (local_of new) ≡ lent_of (local_of old) + 1 → HeldStandsFor new (history ++ (n, Lent) ∷ [])
stands_more old new history n stands first more =
    let after = lent_more old history n in let same : lent_by new (history ++ (n, Lent) ∷ []) ≡ lent_by old (history ++ (n, Lent) ∷ []) = ap (λ k. lent_after k (entries_of (history ++ (n, Lent) ∷ []))) first in
    omega (arith, stands, more, after, same)

-- One less is lent where one was given back, and none where none was lent.
pub stands_less : (old new : HeldPool) (history : List (ℕ × PoolEntry)) (n : ℕ) → HeldStandsFor old history → first_of new ≡ first_of old → lent_of (local_of old) ≡ lent_of (local_of new) + 1 → HeldStandsFor new (history ++ (n, Returned) ∷ [])
stands_less old new history n stands first less =
    let after = lent_less old history n in let same : lent_by new (history ++ (n, Returned) ∷ []) ≡ lent_by old (history ++ (n, Returned) ∷ []) = ap (λ k. lent_after k (entries_of (history ++ (n, Returned) ∷ []))) first in
    omega (arith, stands, less, after, same)

pub stands_none : (held : HeldPool) (history : List (ℕ × PoolEntry)) (n : ℕ) → HeldStandsFor held history → lent_of (local_of held) ≡ 0 → HeldStandsFor held (history ++ (n, Returned) ∷ [])
stands_none held history n stands none = let after = lent_less held history n in omega (arith, stands, none, after)

-- Where a pool answered that its limit is reached, the history says so.
pub limit_reached : (held opened : HeldPool) (history : List (ℕ × PoolEntry)) → HeldStandsFor held history → terms_of held ≡ terms_of opened → limit_of (local_of held) ≤ lent_of (local_of held) → limit_of (local_of opened) ≤ lent_by opened history
limit_reached held opened history stands same reached =
    let limit : limit_of (local_of held) ≡ limit_of (local_of opened) = ap (λ (t : Pool × ℕ × ℕ × ℕ). t.2) same in
    let lent = same_lent opened held history same in omega (arith, stands, reached, limit, lent)
