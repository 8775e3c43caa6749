-- Lists in which each goes on from the one before it, and lists in parts.
use Rattle.std.proofs.Common.{◌≡◌, ℕ, zero, suc, ◌<◌, ◌≤◌, false, true, cond, eqb, List, [], ◌∷◌, ◌++◌, length, get_or, take, refl, sym, ap, ◌∙◌, arith, append_assoc, append-nil}
use Rattle.std.specs.Prelude.{map, flat_map}
use Rattle.std.specs.List.{AllByRecursion}
use Rattle.flow_defs.specs.Records.{IsShort}
use Rattle.plain_machine.specs.Histories.{records, of_sender}
use Rattle.checkpoint_laws.specs.Chapters.{Linked}

pub linked_at : {X : Type 0} (R : X → X → Type 0) (x : X) (xs : List X) (k : ℕ) (d : X) → Linked R x xs → k < length xs → R (get_or (x ∷ xs) k d) (get_or xs k d)
linked_at R x [] k d linked low = absurd (omega arith)
linked_at R x (y ∷ ys) zero d linked low = linked.0
linked_at R x (y ∷ ys) (suc k) d linked low = linked_at R y ys k d linked.1 (omega arith)

-- What the first k + 1 give is what the first k give, and then what the next one gives.
pub flat_map-take : {X Y : Type 0} (f : X → List Y) (xs : List X) (k : ℕ) (d : X) → k < length xs → flat_map f (take (suc k) xs) ≡ flat_map f (take k xs) ++ f (get_or xs k d)
flat_map-take f [] k d low = absurd (omega arith)
flat_map-take f (x ∷ xs) zero d low = append-nil (f x)
flat_map-take f (x ∷ xs) (suc k) d low = ap (λ ys. f x ++ ys) (flat_map-take f xs k d (omega arith)) ∙ sym (append_assoc (f x) (flat_map f (take k xs)) (f (get_or xs k d)))

-- The first lists of these, where they begin with what each of so many gives.
pub joined_take : {X Y : Type 0} (f : X → List Y) (xs : List X) (more : List (List Y)) (k : ℕ) → k ≤ length xs → flat_map (λ s. s) (take k (map f xs ++ more)) ≡ flat_map f (take k xs)
joined_take f xs more zero low = refl
joined_take f [] more (suc k) low = absurd (omega arith)
joined_take f (x ∷ xs) more (suc k) low = ap (λ ys. f x ++ ys) (joined_take f xs more k (omega arith))

pub of_sender-append : (a : ℕ) (xs ys : List (ℕ × List ℕ)) → of_sender a (xs ++ ys) ≡ of_sender a xs ++ of_sender a ys
of_sender-append a [] ys = refl
of_sender-append a (x ∷ xs) ys =
    elim (eqb x.0 a) as (λ t. cond t (x.1 ∷ of_sender a (xs ++ ys)) (of_sender a (xs ++ ys)) ≡ cond t (x.1 ∷ of_sender a xs) (of_sender a xs) ++ of_sender a ys) [
      | true ↦ ap (λ rs. x.1 ∷ rs) (of_sender-append a xs ys)
      | false ↦ of_sender-append a xs ys
    ]

pub of_sender-short : (a : ℕ) (took : List (ℕ × List ℕ)) → AllByRecursion IsShort (records took) → AllByRecursion IsShort (of_sender a took)
of_sender-short a [] short = tt
of_sender-short a (t ∷ took) short =
    elim (eqb t.0 a) as (λ x. AllByRecursion IsShort (cond x (t.1 ∷ of_sender a took) (of_sender a took))) [
      | true ↦ (short.0, of_sender-short a took short.1)
      | false ↦ of_sender-short a took short.1
    ]

pub short_both : (xs ys : List (List ℕ)) → AllByRecursion IsShort xs → AllByRecursion IsShort ys → AllByRecursion IsShort (xs ++ ys)
short_both [] ys short more = more
short_both (x ∷ xs) ys short more = (short.0, short_both xs ys short.1 more)
