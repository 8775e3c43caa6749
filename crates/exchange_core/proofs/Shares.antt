-- How the segments of a connection are dealt out over its pools.
use Rattle.std.proofs.Common.{◌≡◌, ℕ, zero, suc, ◌*◌, ◌≤◌, [], ◌∷◌, ◌++◌, All, map, replicate, get_or, refl, sym, ap, ◌∙◌, arith}
use Rattle.std.proofs.Math.Seq.{get_or-append_seam}
use Rattle.std.proofs.lemmas.List.{length-replicate, get_or-replicate, get_or_append_left}
use Rattle.std.proofs.lemmas.List.Elements.{All-push, All-replicate}
use Rattle.std.proofs.lemmas.List.Folds.{sum_by-replicate}
use Rattle.std.proofs.lemmas.List.Sums.{sum_by-append, sum_by-cons}
use Rattle.local_pool.specs.declared.shares.Want.{Want}
use Rattle.local_pool.specs.Shares.{IsWant, needs, share_of}
use Rattle.local_pool.proofs.Dealing.{share_of-between}
use Rattle.exchange_world.specs.Worlds.{pool_wants, partition_want, gate_want}
use Rattle.exchange_core.specs.Opening.{lane_share, gate_share, shares}

-- the last one of a list is like no other
pub map_alike : {X Y : Type 0} (f : X → Y) (n : ℕ) (x y : X) → map f (replicate n x ++ y ∷ []) ≡ replicate n (f x) ++ f y ∷ []
map_alike f zero x y = refl
map_alike f (suc n) x y = ap (λ zs. f x ∷ zs) (map_alike f n x y)

pub shares_are : (m total : ℕ) → map (share_of (pool_wants m) total) (pool_wants m) ≡ shares m total
shares_are m total = map_alike (share_of (pool_wants m) total) m partition_want (gate_want m)

pub need_four : (m : ℕ) → needs (pool_wants m) ≡ 4 * m
need_four m =
    let need : Want → ℕ = λ want. want.need in
    let both = sum_by-append need (replicate m partition_want) (gate_want m ∷ []) in
    let each = sum_by-replicate need m partition_want in
    let last = sum_by-cons need (gate_want m) [] in
    omega (arith, both, each, last)

pub are_wants : (m : ℕ) → All IsWant (pool_wants m)
are_wants m = All-push IsWant (replicate m partition_want) (gate_want m) (All-replicate IsWant m partition_want (omega arith)) (omega arith)

pub lane_gets : (m total : ℕ) → 2 ≤ lane_share m total
lane_gets m total = (share_of-between (pool_wants m) total partition_want (omega arith)).0

pub gate_gets : (m total : ℕ) → 2 * m ≤ gate_share m total
gate_gets m total = (share_of-between (pool_wants m) total (gate_want m) (omega arith)).0

-- the first limit is that of each channel, and the last one the gate's
pub first_share : (m total d : ℕ) → 1 ≤ m → get_or (map (share_of (pool_wants m) total) (pool_wants m)) 0 d ≡ lane_share m total
first_share m total d some =
    ap (λ ls. get_or ls 0 d) (shares_are m total)
    ∙ get_or_append_left (replicate m (lane_share m total)) (gate_share m total ∷ []) d 0 (let n = length-replicate m (lane_share m total) in omega arith)
    ∙ get_or-replicate m 0 (lane_share m total) d (omega arith)

pub last_share : (m total d : ℕ) → get_or (map (share_of (pool_wants m) total) (pool_wants m)) m d ≡ gate_share m total
last_share m total d =
    ap (λ ls. get_or ls m d) (shares_are m total)
    ∙ ap (λ k. get_or (shares m total) k d) (sym (length-replicate m (lane_share m total)))
    ∙ get_or-append_seam (replicate m (lane_share m total)) (gate_share m total) [] d
