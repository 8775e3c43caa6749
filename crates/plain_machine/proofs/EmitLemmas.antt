-- Emitting in two parts, and of short records.
use Rattle.std.proofs.Common.{◌≡◌, true, false, cond, eqb, [], ◌∷◌, ◌++◌, refl, ap}
use Rattle.std.specs.List.{AllByRecursion}
use Rattle.flow_defs.specs.Records.{IsShort}
use Rattle.plain_machine.specs.Emitting.{next_count, count_after, emit}
use Rattle.plain_machine.specs.Theorems.{EmittedInParts, CountedInParts, EmittedAreShort}

pub counted_in_parts : CountedInParts
counted_in_parts n [] second = refl
counted_in_parts n (r ∷ first) second = counted_in_parts (next_count n) first second

pub emitted_in_parts : EmittedInParts
emitted_in_parts to n [] second b = refl
emitted_in_parts to n (r ∷ first) second b =
    elim (eqb (to n r) b) as (λ t. cond t (r ∷ emit to (next_count n) (first ++ second) b) (emit to (next_count n) (first ++ second) b) ≡ cond t (r ∷ emit to (next_count n) first b) (emit to (next_count n) first b) ++ emit to (count_after (next_count n) first) second b) [
      | true ↦ ap (λ records. r ∷ records) (emitted_in_parts to (next_count n) first second b)
      | false ↦ emitted_in_parts to (next_count n) first second b
    ]

pub emitted_are_short : EmittedAreShort
emitted_are_short to n [] b short = tt
emitted_are_short to n (r ∷ rs) b short =
    elim (eqb (to n r) b) as (λ t. AllByRecursion IsShort (cond t (r ∷ emit to (next_count n) rs b) (emit to (next_count n) rs b))) [
      | true ↦ (short.0, emitted_are_short to (next_count n) rs b short.1)
      | false ↦ emitted_are_short to (next_count n) rs b short.1
    ]
