-- In a sound world each pool lends within its limit, and all hold no more than the total.
use Rattle.std.proofs.Common.{◌≡◌, ℕ, suc, ◌+◌, ◌-◌, ◌*◌, ◌≤◌, ◌<◌, List, [], ◌∷◌, All, length, map, replicate, max, sum, get_or, subst, arith}
use Rattle.std.specs.List.{sum_by}
use Rattle.std.proofs.lemmas.List.Elements.{All-append, All-cons, All-replicate}
use Rattle.std.proofs.lemmas.List.Sums.{sum_by-cons, sum_by-append, sum-map}
use Rattle.std.proofs.lemmas.List.Folds.{sum_by-replicate}
use Rattle.local_pool.specs.declared.shares.Want.{Want}
use Rattle.local_pool.specs.Shares.{IsWant, needs, share_of, SharesFit}
use Rattle.exchange_world.specs.Lanes.{Lane, new_lane}
use Rattle.exchange_world.specs.Worlds.{World, lane_of, partition_want, gate_want, pool_wants, partition_limit, partition_lent, all_held}
use Rattle.exchange_world.specs.Theorems.{LendsWithin}
use Rattle.exchange_world.specs.Sound.{IsSound}
use Rattle.exchange_world.specs.Laws.{SoundLendsWithin}

-- ---- sums

-- each is at most so much, and so all are at most so often that
sum_within : {X : Type 0} (f : X → ℕ) (most : ℕ) (d : X) (xs : List X) → ((i : ℕ) → i < length xs → f (get_or xs i d) ≤ most) → sum_by f xs ≤ length xs * most
sum_within f most d [] each = omega arith
sum_within f most d (x ∷ xs) each =
    let rest = sum_within f most d xs (λ i within. each (suc i) (omega (arith, within))) in
    let own : f x ≤ most = each 0 (omega arith) in
    let cons = sum_by-cons f x xs in
    let product : suc (length xs) * most ≡ most + length xs * most = grind arith in
    omega (arith, rest, own, cons, product)

-- ---- what the pools want

needs_are : (m : ℕ) → needs (pool_wants m) ≡ 4 * m
needs_are m =
    let both = sum_by-append (λ (want : Want). want.need) (replicate m partition_want) (gate_want m ∷ []) in
    let parts = sum_by-replicate (λ (want : Want). want.need) m partition_want in
    let gate = sum_by-cons (λ (want : Want). want.need) (gate_want m) [] in
    omega (arith, both, parts, gate)

shares_are : (m total : ℕ) → sum (map (share_of (pool_wants m) total) (pool_wants m)) ≡ m * share_of (pool_wants m) total partition_want + share_of (pool_wants m) total (gate_want m)
shares_are m total =
    let f : Want → ℕ = share_of (pool_wants m) total in
    let all = sum-map f (pool_wants m) in
    let both = sum_by-append f (replicate m partition_want) (gate_want m ∷ []) in
    let parts = sum_by-replicate f m partition_want in
    let gate = sum_by-cons f (gate_want m) [] in
    omega (arith, all, both, parts, gate)

wants_are : (m : ℕ) → All IsWant (pool_wants m)
wants_are m =
    All-append IsWant (replicate m partition_want) (gate_want m ∷ []) (All-replicate IsWant m partition_want (let e : 2 ≤ 10 = omega arith in e))
    (All-cons IsWant (gate_want m) [] (let e : 2 * m ≤ 2 * m + 8 = omega arith in e) (λ k d none. absurd (omega (arith, none))))

-- a share is no less than the need
need_within : (wants : List Want) (total : ℕ) (want : Want) → want.need ≤ share_of wants total want
need_within wants total want = omega arith

-- ---- a sound world

module _ (fit : SharesFit) (m : ℕ) (w : World) (sound : IsSound m w) where
  channels_within : (c : ℕ) → 1 ≤ c → c ≤ m → partition_lent (lane_of w c) ≤ partition_limit w
  channels_within c low high = (sound.each c low high).lent

  held_within : all_held w ≤ w.total
  held_within =
      let n = length w.lanes in
      let limit = partition_limit w in
      let own : (i : ℕ) → i < n → max 2 (partition_lent (get_or w.lanes i (new_lane w.size))) ≤ limit = λ i within.
      (let lent : partition_lent (get_or w.lanes ((i + 1) - 1) (new_lane w.size)) ≤ limit = channels_within (i + 1) (omega arith) (omega (arith, sound.lanes, within)) in
      let at : (i + 1) - 1 ≡ i = omega arith in
      let need = need_within (pool_wants n) w.total partition_want in
      let here : partition_lent (get_or w.lanes i (new_lane w.size)) ≤ limit = subst (λ j. partition_lent (get_or w.lanes j (new_lane w.size)) ≤ limit) at lent in
      omega (arith, here, need)) in
      let all = sum_within (λ (lane : Lane). max 2 (partition_lent lane)) limit (new_lane w.size) w.lanes own in
      let gate_need = need_within (pool_wants n) w.total (gate_want n) in
      let few : needs (pool_wants n) ≤ w.total = omega (arith, needs_are n, sound.opening.enough, sound.lanes) in
      let whole = (fit (pool_wants n) w.total (wants_are n) few).0 in
      omega (arith, all, gate_need, sound.gate, whole, shares_are n w.total)

  pub lends_within_so : LendsWithin m w
  lends_within_so = record { partitions = channels_within; gate = sound.gate; all = held_within }

pub sound_lends_within : SharesFit → SoundLendsWithin
sound_lends_within = lends_within_so
