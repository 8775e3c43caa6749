-- A stage gives no record that is longer than the one that it got.
use Rattle.std.proofs.Common.{ℕ, ◌+◌, ◌-◌, ◌≤◌, Bool, true, false, cond, not, ◌==◌, nat_eq, if◌then◌else◌, List, [], ◌∷◌, length, map, subst, arith, inl, inr}
use Rattle.std.specs.Option.{option_to_list}
use Rattle.std.specs.List.{All, AllByRecursion, slice_split, onto_first, slice_get, starts_with}
use Rattle.std.specs.Str.Parse.{digits_value}
use Rattle.std.proofs.lemmas.List.{length-map}
use Rattle.std.proofs.lemmas.List.Elements.{All-nil, All-cons, All-filter, All-from_recursion}
use Rattle.std.proofs.lemmas.Option.{slice_get_cases}
use Rattle.flow_defs.specs.declared.job.StageKind.{StageKind}
use Rattle.flow_defs.specs.declared.job.StageKind.TheVariants.{Words, Upper, Keep, Field}
use Rattle.flow_defs.specs.Records.{IsShort}
use Rattle.flow_defs.specs.Stages.{given, pieces, raised}

-- none is longer than n
abbrev Within : ℕ → List (List ℕ) → Type 0
Within n = AllByRecursion (λ s. length s ≤ n)

more : (m n : ℕ) → m ≤ n → (ss : List (List ℕ)) → Within m ss → Within n ss
more m n h [] w = tt
more m n h (s ∷ ss) w = (omega (arith, w.0), more m n h ss w.1)

longer : (x n : ℕ) (ss : List (List ℕ)) → Within n ss → Within (n + 1) (onto_first x ss)
longer x n [] w = (omega arith, tt)
longer x n (s ∷ ss) w = (omega (arith, w.0), more n (n + 1) (omega arith) ss w.1)

cut : (p : ℕ → Bool) (xs : List ℕ) → Within (length xs) (slice_split p xs)
cut p [] = (omega arith, tt)
cut p (x ∷ xs) =
    elim (p x) as (λ b. Within (length (x ∷ xs)) (cond b ([] ∷ slice_split p xs) (onto_first x (slice_split p xs)))) [
      | true ↦ (omega arith, more (length xs) (length (x ∷ xs)) (omega arith) (slice_split p xs) (cut p xs))
      | false ↦ more (length xs + 1) (length (x ∷ xs)) (omega arith) (onto_first x (slice_split p xs)) (longer x (length xs) (slice_split p xs) (cut p xs))
    ]

pieces_short : (code : ℕ) (r : List ℕ) → IsShort r → All IsShort (pieces code r)
pieces_short code r h = λ k d inside. let at = All-from_recursion (λ s. length s ≤ length r) (pieces code r) (cut (λ b. b == code) r) k d inside in omega (arith, at, h)

one : (r : List ℕ) → IsShort r → All IsShort (r ∷ [])
one r h = All-cons IsShort r [] h (All-nil IsShort)

at_most_one : (ps : List (List ℕ)) (i : ℕ) → All IsShort ps → All IsShort (option_to_list (slice_get ps i))
at_most_one ps i h =
    elim (slice_get_cases ps i).1 as (λ _. All IsShort (option_to_list (slice_get ps i))) [
      | inl found ↦ rw found.2 (one found.0 (subst IsShort found.3 (h i found.0 found.1)))
      | inr past ↦ rw past.1 (All-nil IsShort)
    ]

pub given_short : (kind : StageKind) (arg r : List ℕ) → IsShort r → All IsShort (given kind arg r)
given_short Words arg r h = All-filter (λ piece. not (length piece == 0)) IsShort (pieces 32 r) (pieces_short 32 r h)
given_short Upper arg r h = one (map raised r) (rw (length-map r raised) h)
given_short Keep arg r h =
    elim (starts_with nat_eq r arg) as (λ b. All IsShort (if b then r ∷ [] else [])) [ true ↦ one r h | false ↦ All-nil IsShort ]
given_short Field arg r h = at_most_one (pieces 44 r) (digits_value 10 arg - 1) (pieces_short 44 r h)
