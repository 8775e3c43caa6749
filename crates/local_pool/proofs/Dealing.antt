-- What is dealt out by `share_of` fits.
use Rattle.std.proofs.Common.{◌≡◌, ℕ, zero, suc, ◌+◌, ◌*◌, ◌/◌, ◌≤◌, ◌==◌, true, false, if◌then◌else◌, List, [], ◌∷◌, sum, map, add-mul, mul-add, refl, arith}
use Rattle.std.specs.List.{sum_by}
use Rattle.std.proofs.Math.Nat.{div-mul-le_self, div-le_of_le-mul, le_of_mul-le-mul_right, mul-le-mul_right}
use Rattle.std.proofs.lemmas.List.Sums.{sum-map, sum_by-cons, sum_by-le-sum_by}
use Rattle.local_pool.specs.declared.shares.Want.{Want}
use Rattle.local_pool.specs.Shares.{IsWant, needs, wishes, wish, dealt, beyond, share_of}

-- no one gets more than it wishes
pub beyond-le : (m all d : ℕ) → m ≤ all → beyond m all d ≤ d
beyond-le m all d h =
    elim (all == 0) as (λ b. (if b then 0 else (m * d / all)) ≤ d) [
      | true ↦ omega arith
      | false ↦ div-le_of_le-mul all (mul-le-mul_right d h)
    ]

-- in proportion to the wishes
beyond-mul : (m all d : ℕ) → beyond m all d * all ≤ m * d
beyond-mul m all d =
    elim (all == 0) as (λ b. (if b then 0 else (m * d / all)) * all ≤ m * d) [
      | true ↦ grind arith
      | false ↦ div-mul-le_self (m * d) all
    ]

both-mul : (b q all m d w : ℕ) → b * all ≤ m * d → q * all ≤ m * w → (b + q) * all ≤ m * (d + w)
both-mul b q all m d w own rest = rw (add-mul b q all) (rw (mul-add m d w) (omega arith))

-- all parts together, over some of the wants
parts-mul : (m all : ℕ) (wants : List Want) → sum_by (λ want. beyond m all (wish want)) wants * all ≤ m * wishes wants
parts-mul m all [] = grind arith
parts-mul m all (want ∷ wants) =
    let rest = parts-mul m all wants in
    let own = beyond-mul m all (wish want) in
    let f : Want → ℕ = λ w. beyond m all (wish w) in
    rw (sum_by-cons f want wants) (rw (sum_by-cons wish want wants) (both-mul (f want) (sum_by f wants) all m (wish want) (wishes wants) own rest))

at-most : (m q all : ℕ) → q * all ≤ m * all → q ≤ all → q ≤ m
at-most m q zero h few = omega arith
at-most m q (suc n) h few = le_of_mul-le-mul_right h (omega arith)

-- all parts together are at most what is dealt out
parts-le : (m : ℕ) (wants : List Want) → m ≤ wishes wants → sum_by (λ want. beyond m (wishes wants) (wish want)) wants ≤ m
parts-le m wants h =
    let all = wishes wants in
    let part : Want → ℕ = λ want. beyond m all (wish want) in
    at-most m (sum_by part wants) all (parts-mul m all wants) (sum_by-le-sum_by part wish wants (λ want. beyond-le m all (wish want) h))

sum_by-both : (f g : Want → ℕ) (wants : List Want) → sum_by (λ want. f want + g want) wants ≡ sum_by f wants + sum_by g wants
sum_by-both f g [] = refl
sum_by-both f g (want ∷ wants) =
    let both : Want → ℕ = λ w. f w + g w in
    let rest = sum_by-both f g wants in
    rw (sum_by-cons both want wants) (rw (sum_by-cons f want wants) (rw (sum_by-cons g want wants) (omega arith)))

-- the limits fit into the total
pub sum-share_of-le : (wants : List Want) (total : ℕ) → needs wants ≤ total → sum (map (share_of wants total) wants) ≤ total
sum-share_of-le wants total h =
    let m = dealt wants total in
    let part : Want → ℕ = λ want. beyond m (wishes wants) (wish want) in
    let parts : sum_by part wants ≤ m = parts-le m wants (omega arith) in
    let all = sum_by-both (λ want. want.need) part wants in
    rw (sum-map (share_of wants total) wants) (omega (arith, all))

-- each limit is between the need and the most
pub share_of-between : (wants : List Want) (total : ℕ) (want : Want) → IsWant want → (want.need ≤ share_of wants total want) × (share_of wants total want ≤ want.most)
share_of-between wants total want fits =
    let few = beyond-le (dealt wants total) (wishes wants) (wish want) (omega arith) in
    (omega arith, omega (arith, few, fits))
