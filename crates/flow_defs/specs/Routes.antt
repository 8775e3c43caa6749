-- Where a record goes. As in Flink records are exchanged by the hash of their key, in turn, or one to
-- one; the hash is FNV-1a of 64 bits, as Fowler, Noll and Vo give it.
use Rattle.std.specs.Prelude.{ℕ, ◌*◌, ◌%◌, ◌^◌, List, fold, bit_xor}
use Rattle.flow_defs.specs.declared.job.Exchange.{Exchange}
use Rattle.flow_defs.specs.declared.job.Exchange.TheVariants.{Hash, Rebalance, Forward}

-- The hash of these bytes behind others, of which it is this so far.
abbrev pub fnv_from : ℕ → List ℕ → ℕ
fnv_from hash bytes = fold (λ h b. bit_xor h b * 1099511628211 % 2 ^ 64) hash bytes

unfoldable pub fnv : List ℕ → ℕ
fnv bytes = fnv_from 14695981039346656037 bytes

-- The receiving task for a record with this key: its sender has this index and has emitted so many
-- records before, and there are so many ways.
abbrev pub receiver : Exchange → List ℕ → ℕ → ℕ → ℕ → ℕ
receiver Hash key emitted sender ways = fnv key % ways
receiver Rebalance key emitted sender ways = emitted % ways
receiver Forward key emitted sender ways = sender
