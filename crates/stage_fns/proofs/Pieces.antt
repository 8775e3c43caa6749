-- What a list has once pieces of a record were added to it.
use Rattle.std.proofs.Common.{◌≡◌, ℕ, List, [], ◌∷◌, ◌++◌, length, map, take, Option, None, refl, sym, ap, ◌∙◌, arith}
use Rattle.std.specs.List.{refill}
use Rattle.std.specs.Iterator.{Yields}
use Rattle.std.proofs.lemmas.List.{append-nil, drop_all, length-map, map-append, take_all}
use Rattle.std.proofs.lemmas.Bool.Decides.{nat_tests}
use Rattle.std.specs.Char.{to_ascii_uppercase}
use Rattle.std.proofs.lemmas.Iterator.{YieldsList}
use Rattle.std.proofs.lemmas.Iterator.Consumers.{YieldsList-end, YieldsList-at}
use Rattle.flow_defs.specs.Items.{Items}
use Rattle.flow_defs.specs.Stages.{raised}
use Rattle.stage_fns.specs.Meets.{records}

-- one more record
pub records_pushed : (old new : Items (Items ℕ)) (item : Items ℕ) (r : List ℕ)
    → new.items ≡ old.items ++ item ∷ [] → item.items ≡ r → records new ≡ records old ++ r ∷ []
records_pushed old new item r pushed is =
    ap (map (λ b. b.items)) pushed ∙ map-append (λ (b : Items ℕ). b.items) old.items (item ∷ []) ∙ ap (λ more. records old ++ more ∷ []) is

-- at the end of a loop over all items of an iterator
pub all_yielded : {S A B : Type 0} {steps : S → Option A → S → Type 0} {v : A → B} {s from : S} {all : List B}
    → s ≡ from → (xs : List A) (t : S) → Yields steps s xs t → (r : Option A) (u : S) → r ≡ None → steps t r u
    → YieldsList steps v from all → map v xs ≡ all
all_yielded same xs t yielded r u none last list = (YieldsList-end (YieldsList-at same list) xs t yielded r u none last).0

-- std raises a byte as the definition does
raised_same : (b : ℕ) → to_ascii_uppercase b ≡ raised b
raised_same b = grind (arith, nat_tests)

all_same : (bytes : List ℕ) → map to_ascii_uppercase bytes ≡ map raised bytes
all_same [] = refl
all_same (b ∷ bytes) = ap (λ c. c ∷ map to_ascii_uppercase bytes) (raised_same b) ∙ ap (λ l. raised b ∷ l) (all_same bytes)

-- a copy of a record that was lent to be raised, and comes back so
pub raised_all : (r copy seen back : List ℕ) → copy ≡ r → seen ≡ copy → back ≡ map to_ascii_uppercase seen → refill (length copy) copy back ≡ map raised r
raised_all r copy seen back is shown raises =
    let all : back ≡ map raised r = raises ∙ all_same seen ∙ ap (map raised) (shown ∙ is) in
    let long : length back ≡ length copy = ap length all ∙ length-map r raised ∙ ap length (sym is) in
    ap (λ t. take (length copy) (back ++ t)) (drop_all (length back) copy (omega (arith, long)))
    ∙ ap (take (length copy)) (append-nil back)
    ∙ take_all (length copy) back (omega (arith, long))
    ∙ all
