-- How the segments of a pool are shared out over local pools. Needs and most numbers of segments are those of Flink's documentation of network memory; the rule by which the rest is dealt out is this project's own.
use Rattle.std.specs.Prelude.{ℕ, ◌+◌, ◌-◌, ◌*◌, ◌/◌, ◌≤◌, ◌==◌, min, if◌then◌else◌, List, map, All, sum}
use Rattle.std.specs.List.{sum_by}
use Rattle.local_pool.specs.declared.shares.Want.{Want}

-- the need is at most the most
abbrev pub IsWant : Want → Type 0
IsWant want = want.need ≤ want.most

-- what all of them need together
abbrev pub needs : List Want → ℕ
needs wants = sum_by (λ want. want.need) wants

-- what one wishes beyond its need
abbrev pub wish : Want → ℕ
wish want = want.most - want.need

-- what all of them wish beyond their needs
abbrev pub wishes : List Want → ℕ
wishes wants = sum_by wish wants

-- What is dealt out beyond the needs: what these leave of the total, but no more than is wished
abbrev pub dealt : List Want → ℕ → ℕ
dealt wants total = min (total - needs wants) (wishes wants)

-- the part of what is dealt out that goes to one wish among all, rounded down, and 0 where nothing is wished
abbrev pub beyond : ℕ → ℕ → ℕ → ℕ
beyond dealt all wish = if all == 0 then 0 else (dealt * wish / all)

-- the limit of one pool: its need and its part of what is dealt out
abbrev pub share_of : List Want → ℕ → Want → ℕ
share_of wants total want = want.need + beyond (dealt wants total) (wishes wants) (wish want)

-- the limits fit into the total, and each lies between what its pool needs and what it may have at most
abbrev pub SharesFit : Type 0
SharesFit = (wants : List Want) (total : ℕ) → All IsWant wants → needs wants ≤ total →
    (sum (map (share_of wants total) wants) ≤ total) × All (λ want. (want.need ≤ share_of wants total want) × (share_of wants total want ≤ want.most)) wants
