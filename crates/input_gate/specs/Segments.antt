-- What becomes of the segments of a gate's pool. In Flink's network stack each gate has a pool of floating buffers, which its channels ask
-- for and give back; that this is told by the entries of passes is this project's own choice.
use Rattle.std.specs.Prelude.{◌≡◌, ℕ, ◌+◌, List, [], ◌∷◌, ◌++◌, sum_by, Option, Some, None}
use Rattle.std.specs.Option.{option_map_or}
use Rattle.turn_cell.specs.History.{entries_of}
use Rattle.turn_cell.specs.Passes.{mine, seen}
use Rattle.local_pool.specs.declared.entry.PoolEntry.{PoolEntry}
use Rattle.local_pool.specs.declared.entry.PoolEntry.TheVariants.{Returned}
use Rattle.local_pool.specs.Lending.{PoolPass, lends, returns}
use Rattle.input_channel.specs.Legal.{adds}
use Rattle.input_channel.specs.Counts.{freed}
use Rattle.input_gate.specs.declared.lane.Lane.{Lane}
use Rattle.input_gate.specs.declared.lender.Lender.{Lender}
use Rattle.input_gate.specs.Turning.{InputPass}
use Rattle.input_gate.specs.Channels.{passes_in}

-- What the gate's pass told its pool.
abbrev pub told_by_lender : Lender → List PoolEntry
told_by_lender lender = option_map_or (λ (pass : PoolPass). mine pass) lender.pass []

-- The entries of a turn that gives back what came free: one where something did, else none.
abbrev pub given_back : {A : Type 0} → Option A → List PoolEntry
given_back None = []
given_back (Some segment) = Returned ∷ []

-- How many segments the gate added to a channel, and how many the channel set free as its buffers came back.
abbrev pub added_by : InputPass → ℕ
added_by pass = adds (mine pass)

abbrev pub freed_by : InputPass → ℕ
freed_by pass = freed (entries_of (seen pass))

-- No segment is lost: each one that the pool lent since the gate's pass had told it this, or that a channel set free, was added to a channel
-- or went back to the pool.
pub record LoseNone (first now : List PoolEntry) (passes : List InputPass) : Type 0 where
  pub since : List PoolEntry
  pub told : now ≡ first ++ since
  pub even : lends since + sum_by freed_by passes ≡ returns since + sum_by added_by passes

-- ---- what a step makes of it

-- So it is from one moment to a later one, where so many were freed and added in all.
pub record StayEven (before after : List PoolEntry) (freed added freed_after added_after : ℕ) : Type 0 where
  pub since : List PoolEntry
  pub told : after ≡ before ++ since
  pub even : lends since + freed_after + added ≡ returns since + added_after + freed

-- At one channel, and at all of a gate.
abbrev pub StaysEven : Lender → InputPass → Lender → InputPass → Type 0
StaysEven lender pass lender_after pass_after = StayEven (told_by_lender lender) (told_by_lender lender_after) (freed_by pass) (added_by pass) (freed_by pass_after) (added_by pass_after)

abbrev pub freed_in : List Lane → ℕ
freed_in lanes = sum_by freed_by (passes_in lanes)

abbrev pub added_in : List Lane → ℕ
added_in lanes = sum_by added_by (passes_in lanes)

abbrev pub AllStayEven : Lender → List Lane → Lender → List Lane → Type 0
AllStayEven lender lanes lender_after lanes_after = StayEven (told_by_lender lender) (told_by_lender lender_after) (freed_in lanes) (added_in lanes) (freed_in lanes_after) (added_in lanes_after)

-- No segment came to a channel or went from it; to no channel of a gate and from none.
abbrev pub IsUntouched : InputPass → InputPass → Type 0
IsUntouched p q = (freed_by q ≡ freed_by p) × (added_by q ≡ added_by p)

abbrev pub AreUntouched : List Lane → List Lane → Type 0
AreUntouched before after = (freed_in after ≡ freed_in before) × (added_in after ≡ added_in before)
