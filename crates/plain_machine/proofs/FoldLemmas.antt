-- The values of a key may be folded in any order and grouping.
use Rattle.std.proofs.Common.{◌≡◌, ℕ, arith}
use Rattle.flow_defs.specs.Aggregates.{folded}
use Rattle.flow_defs.specs.declared.job.AggKind.{AggKind}
use Rattle.flow_defs.specs.declared.job.AggKind.TheVariants.{Count, Sum, Max}
use Rattle.plain_machine.specs.Theorems.{FoldIsCommutative, FoldIsAssociative, ZeroIsNeutral}

pub folded-comm : FoldIsCommutative
folded-comm Count a b = omega arith
folded-comm Sum a b = omega arith
folded-comm Max a b = omega arith

pub folded-assoc : FoldIsAssociative
folded-assoc Count a b c = omega arith
folded-assoc Sum a b c = omega arith
folded-assoc Max a b c = omega arith

pub zero_neutral : ZeroIsNeutral
zero_neutral Count a low = omega (arith, low)
zero_neutral Sum a low = omega (arith, low)
zero_neutral Max a low = omega (arith, low)

-- a value that is added is as good as the one that a first fold onto 0 makes of it
pub folded-zero : (agg : AggKind) (a b : ℕ) → folded agg a (folded agg 0 b) ≡ folded agg a b
folded-zero Count a b = omega arith
folded-zero Sum a b = omega arith
folded-zero Max a b = omega arith

pub zero-folded : (agg : AggKind) (a b : ℕ) → folded agg 0 (folded agg a b) ≡ folded agg a b
zero-folded Count a b = omega arith
zero-folded Sum a b = omega arith
zero-folded Max a b = omega arith
