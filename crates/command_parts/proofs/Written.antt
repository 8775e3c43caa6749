-- A write to a sink that tells what it got.
use Rattle.std.proofs.Common.{◌≡◌, ℕ, zero, suc, ◌+◌, ◌-◌, ◌<◌, ◌≤◌, List, [], ◌∷◌, ◌++◌, length, take, drop, get_or, Option, Some, None, IfSome, refl, ap, sym, ◌∙◌, arith, rules, subst, append_assoc, length-append}
use Rattle.std.specs.Prelude.{flat_map}
use Rattle.std.proofs.lemmas.List.{places, same_lists, append-nil, drop-drop, length-drop}
use Rattle.std.proofs.Math.Seq.{take-length}
use Rattle.command_parts.specs.Front.{GotFront}

take_two_parts : (xs : List ℕ) (m n : ℕ) → m + n ≤ length xs → take m xs ++ take n (drop m xs) ≡ take (m + n) xs
take_two_parts xs m n within = same_lists _ _ (search (rules, places)) (λ k d h. grind (arith, places))

-- a front of the bytes was got, and what follows it is left
abbrev pub IsWritten : Option (List ℕ) → Option (List ℕ) → List ℕ → List ℕ → Type 0
IsWritten start now bytes rest = IfSome start (λ had. (count : ℕ) × (count ≤ length bytes) × (now ≡ Some (had ++ take count bytes)) × (rest ≡ drop count bytes))

pub write_on : (start before after : Option (List ℕ)) (bytes rest : List ℕ) (count : ℕ)
    → IfSome before (λ had. after ≡ Some (had ++ take count rest)) → count ≤ length rest
    → IsWritten start before bytes rest → IsWritten start after bytes (take (length rest - count) (drop count rest))
write_on None before after bytes rest count told within so_far = tt
write_on (Some had) before after bytes rest count told within so_far =
    let done = so_far.0 in
    let got = rw so_far.2 at told in
    let rest_is = so_far.3 in
    let rest_len : length rest ≡ length bytes - done = ap length rest_is ∙ length-drop done bytes in
    let more : (had ++ take done bytes) ++ take count rest ≡ had ++ take (done + count) bytes =
    append_assoc had (take done bytes) (take count rest) ∙ ap (λ (l : List ℕ). had ++ (take done bytes ++ take count l)) rest_is ∙ ap (λ (l : List ℕ). had ++ l) (take_two_parts bytes done count (omega arith)) in
    let all : take (length rest - count) (drop count rest) ≡ drop count rest = subst (λ (n : ℕ). take n (drop count rest) ≡ drop count rest) (length-drop count rest) (take-length (drop count rest)) in (
      done + count,
      omega arith,
      got ∙ ap Some more,
      all ∙ ap (drop count) rest_is ∙ drop-drop count done bytes,
    )

-- ---- texts that are written one after another

-- so many texts were written, and with those that are left they are all
abbrev pub IsWrittenUpTo : Option (List ℕ) → Option (List ℕ) → List ℕ → List ℕ → Type 0
IsWrittenUpTo start now rest all = IfSome start (λ had. (done : List ℕ) × (now ≡ Some (had ++ done)) × (done ++ rest ≡ all))

front_behind : (done part rest : List ℕ) (count : ℕ) → count ≤ length part → take (length done + count) (done ++ (part ++ rest)) ≡ done ++ take count part
front_behind done part rest count within = same_lists _ _ (search (rules, places)) (λ k d h. grind (arith, places))

-- a front of a text is a front of all, behind those that were written
pub front_of_parts : (start now after : Option (List ℕ)) (part rest left all : List ℕ) → left ≡ part ++ rest
    → IfSome now (λ had. GotFront had part after) → IsWrittenUpTo start now left all → IfSome start (λ had. GotFront had all after)
front_of_parts None now after part rest left all left_is front way = tt
front_of_parts (Some had) now after part rest left all left_is front way =
    let done = way.0 in
    let got = rw way.1 at front in
    let all_is : done ++ (part ++ rest) ≡ all = ap (λ l. done ++ l) (sym left_is) ∙ way.2 in (
      length done + got.0,
      let len = ap length all_is in omega (arith, got.1, length-append done (part ++ rest), length-append part rest, len),
      got.2 ∙ ap Some (append_assoc had done (take got.0 part) ∙ ap (λ l. had ++ l) (sym (front_behind done part rest got.0 got.1) ∙ ap (take (length done + got.0)) all_is)),
    )

-- one more text is written
pub parts_on : (start now after : Option (List ℕ)) (part rest left all : List ℕ) → left ≡ part ++ rest
    → IfSome now (λ had. after ≡ Some (had ++ part)) → IsWrittenUpTo start now left all → IsWrittenUpTo start after rest all
parts_on None now after part rest left all left_is told way = tt
parts_on (Some had) now after part rest left all left_is told way =
    let done = way.0 in
    let got = rw way.1 at told in (
      done ++ part,
      got ∙ ap Some (append_assoc had done part),
      append_assoc done part rest ∙ ap (λ l. done ++ l) (sym left_is) ∙ way.2,
    )

-- at the end all are
pub all_parts : (start now : Option (List ℕ)) (left all : List ℕ) → left ≡ [] → IsWrittenUpTo start now left all → IfSome start (λ had. now ≡ Some (had ++ all))
all_parts None now left all none way = tt
all_parts (Some had) now left all none way = way.1 ∙ ap (λ l. Some (had ++ l)) (sym (append-nil way.0) ∙ ap (λ l. way.0 ++ l) (sym none) ∙ way.2)

pub whole_front : (start now : Option (List ℕ)) (all : List ℕ) → IfSome start (λ had. now ≡ Some (had ++ all)) → IfSome start (λ had. GotFront had all now)
whole_front None now all told = tt
whole_front (Some had) now all told = (length all, omega arith, told ∙ ap (λ l. Some (had ++ l)) (sym (take-length all)))

-- the texts from a place on are the one there and those behind it
pub texts_from : {A : Type 0} (f : A → List ℕ) (parts : List A) (i : ℕ) (d : A) → i < length parts
    → flat_map f (drop i parts) ≡ f (get_or parts i d) ++ flat_map f (drop (i + 1) parts)
texts_from f [] i d within = absurd (omega (arith, within))
texts_from f (p ∷ parts) zero d within = refl
texts_from f (p ∷ parts) (suc i) d within =
    let next : suc (i + 1) ≡ suc i + 1 = omega arith in
    texts_from f parts i d (omega (arith, within)) ∙ ap (λ (k : ℕ). f (get_or parts i d) ++ flat_map f (drop k (p ∷ parts))) next

-- ---- two texts, one after the other

begun : (start : Option (List ℕ)) (all : List ℕ) → IsWrittenUpTo start start all all
begun None all = tt
begun (Some had) all = ([], ap Some (sym (append-nil had)), refl)

-- the first one is written
first : (start now : Option (List ℕ)) (a b : List ℕ) → IfSome start (λ had. now ≡ Some (had ++ a)) → IsWrittenUpTo start now b (a ++ b)
first start now a b told = parts_on start start now a b (a ++ b) (a ++ b) refl told (begun start (a ++ b))

pub first_front : (start after : Option (List ℕ)) (a b : List ℕ) → IfSome start (λ had. GotFront had a after) → IfSome start (λ had. GotFront had (a ++ b) after)
first_front start after a b front = front_of_parts start start after a b (a ++ b) (a ++ b) refl front (begun start (a ++ b))

pub second_front : (start now after : Option (List ℕ)) (a b : List ℕ) → IfSome start (λ had. now ≡ Some (had ++ a)) → IfSome now (λ had. GotFront had b after)
    → IfSome start (λ had. GotFront had (a ++ b) after)
second_front start now after a b told front = front_of_parts start now after b [] b (a ++ b) (sym (append-nil b)) front (first start now a b told)

pub second_told : (start now after : Option (List ℕ)) (a b : List ℕ) → IfSome start (λ had. now ≡ Some (had ++ a)) → IfSome now (λ had. after ≡ Some (had ++ b))
    → IfSome start (λ had. after ≡ Some (had ++ (a ++ b)))
second_told start now after a b told more = all_parts start after [] (a ++ b) refl (parts_on start now after b [] b (a ++ b) (sym (append-nil b)) more (first start now a b told))
