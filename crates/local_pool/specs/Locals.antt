-- What contracts say of a local pool. Local pools, their needs and limits, and that a local pool keeps its need, are those of Flink's documentation of network memory; which segments it keeps is this project's own choice.
use Rattle.std.specs.Prelude.{◌≡◌, ℕ, ◌+◌, ◌<◌, ◌≤◌, [], ◌∷◌, ◌++◌, ◌↔◌, List, length, replicate, Option, IsNone, IsSomeAnd, MatchOption}
use Rattle.std.specs.List.{All, AllPairs, sum, sum_by}
use Rattle.segment_pool.specs.declared.pool.Pool.{Pool}
use Rattle.segment_pool.specs.declared.pass.PoolPass.{PoolPass}
use Rattle.segment_pool.specs.declared.stock.Dealing.TheVariants.{Claimed, Given}
use Rattle.segment_pool.specs.Counting.{claim_entries, free_in, lent_in}
use Rattle.segment_pool.specs.Passes.{number, out}
use Rattle.segment_pool.specs.Pools.{IsPassOf, IsLimited, limits_of, size_of, total_of, limit_of as granted_to}
use Rattle.segment_pool.specs.Turns.{TookTurn}
use Rattle.local_pool.specs.declared.fault.LocalFault.{LocalFault}
use Rattle.local_pool.specs.declared.fault.LocalFault.TheVariants.{TooFew, Memory}
use Rattle.local_pool.specs.declared.local.LocalPool.{LocalPool}
use Rattle.local_pool.specs.Moves.{FoundNone, HasDone}

-- the segments that it keeps
abbrev pub kept_segments : LocalPool → List (List ℕ)
kept_segments local = local.idle.items

-- how many it keeps
abbrev pub kept_of : LocalPool → ℕ
kept_of local = length (kept_segments local)

-- how many it has lent
abbrev pub lent_of : LocalPool → ℕ
lent_of local = local.lent

-- how many it holds at any time at least, kept or lent
abbrev pub need_of : LocalPool → ℕ
need_of local = local.need

-- how many it holds at most
abbrev pub most_of : LocalPool → ℕ
most_of local = local.most

-- up to how many it lends
abbrev pub limit_of : LocalPool → ℕ
limit_of local = local.limit

-- the pass by which it claims and gives back
abbrev pub pass_of : LocalPool → PoolPass
pass_of local = local.pass

-- the pass may have so many out: where the passes of the pool have limits, its own is no smaller
abbrev pub IsGranted : Pool → PoolPass → ℕ → Type 0
IsGranted pool pass limit = IsLimited pool → limit ≤ granted_to pool pass

-- it is a local pool of this pool
pub record IsLocalOf (pool : Pool) (local : LocalPool) : Type 0 where
  pub pass : IsPassOf pool (pass_of local)
  -- neither its limit nor what it holds is above the limit of its pass
  pub limit : IsGranted pool (pass_of local) (limit_of local)
  pub out : IsGranted pool (pass_of local) (out (pass_of local))
  -- what it keeps has the pool's size
  pub sizes : All (λ segment. length segment ≡ size_of pool) (kept_segments local)

-- the need, the most and the limit are as they were, and the pass has the number that it had
pub record IsSameLocal (before after : LocalPool) : Type 0 where
  pub need : need_of after ≡ need_of before
  pub most : most_of after ≡ most_of before
  pub limit : limit_of after ≡ limit_of before
  pub number : number (pass_of after) ≡ number (pass_of before)

-- It was opened with this pass, need and most: it keeps its need, for which it made so many claims, and lends none
pub record IsOpened (pass : PoolPass) (need most : ℕ) (local : LocalPool) : Type 0 where
  pub need_is : need_of local ≡ need
  pub most_is : most_of local ≡ most
  pub limit_is : limit_of local ≡ need
  pub kept_is : kept_of local ≡ need
  pub lent_is : lent_of local ≡ 0
  pub claimed : HasDone (replicate need Claimed) pass (pass_of local)

-- the pass that a refusal hands back
abbrev pub handed_back : LocalFault → PoolPass
handed_back (TooFew need free pass) = pass
handed_back (Memory pass) = pass

-- Why it was not opened. Where a claim found none, the claims before it had got `free` segments, and those were given back
abbrev pub IsRefusal : Pool → PoolPass → ℕ → LocalFault → Type 0
IsRefusal pool pass need (TooFew named free after) =
    (named ≡ need) × (free < need) × FoundNone pool free pass after × HasDone (replicate free Claimed ++ replicate free Given) pass after
IsRefusal pool pass need (Memory after) = after ≡ pass

-- there was no memory
abbrev pub IsMemory : LocalFault → Type 0
IsMemory (TooFew named free after) = ⊥
IsMemory (Memory after) = Unit {0}

-- What a request does, by the answer. It looks at the limit first, then at what is kept, and claims last
pub record HasRequested (pool : Pool) (before after : LocalPool) (answer : Option (List ℕ)) : Type 0 where
  -- one more is lent where the answer is a segment
  pub lent : MatchOption answer (lent_of after ≡ lent_of before) (λ _. lent_of after ≡ lent_of before + 1)
  -- at the limit it is None
  pub at_limit : limit_of before ≤ lent_of before → IsNone answer × (pass_of after ≡ pass_of before) × (kept_segments after ≡ kept_segments before)
  -- below it a kept segment is lent, with no turn
  pub lends_kept : lent_of before < limit_of before → 0 < kept_of before
      → IsSomeAnd answer (λ segment. kept_segments before ≡ kept_segments after ++ segment ∷ []) × (pass_of after ≡ pass_of before)
  -- where none is kept it claims one in a turn, and the answer is None where none was free then
  pub claims : lent_of before < limit_of before → kept_of before ≡ 0
      → (kept_of after ≡ 0) × TookTurn (claim_entries answer) (pass_of before) (pass_of after) (λ history. IsNone answer ↔ (free_in (total_of pool) history ≡ 0))

-- What giving a segment back does: it is kept where there would else be fewer than the need, and goes to the global pool in a turn where not
pub record HasGiven (before after : LocalPool) (segment : List ℕ) : Type 0 where
  pub lent : lent_of before ≡ lent_of after + 1
  pub keeps : kept_of before + lent_of before ≤ need_of before
      → (pass_of after ≡ pass_of before) × (kept_segments after ≡ kept_segments before ++ segment ∷ [])
  pub returns : need_of before < kept_of before + lent_of before
      → (kept_segments after ≡ kept_segments before) × TookTurn (Given ∷ []) (pass_of before) (pass_of after) (λ history. 0 < lent_in history)

-- they are local pools of this pool, each with a pass of its own, in the order of the passes' numbers
abbrev pub AreLocalsOf : Pool → List LocalPool → Type 0
AreLocalsOf pool locals = All (IsLocalOf pool) locals × AllPairs (λ one later. number (pass_of one) < number (pass_of later)) locals

-- how many segments they hold together, kept or lent
abbrev pub held_by : List LocalPool → ℕ
held_by locals = sum_by (λ local. kept_of local + lent_of local) locals

-- Local pools of a pool whose passes have limits hold together no more than the limits sum to
abbrev pub LocalsFit : Type 0
LocalsFit = (pool : Pool) (locals : List LocalPool) → IsLimited pool → AreLocalsOf pool locals → held_by locals ≤ sum (limits_of pool)
