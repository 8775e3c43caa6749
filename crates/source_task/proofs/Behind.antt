-- The lines behind those that were read before the start.
use Rattle.std.proofs.Common.{◌≡◌, ℕ, zero, suc, ◌-◌, List, [], ◌∷◌, ◌++◌, length, drop, refl, ap, ◌∙◌, arith}
use Rattle.std.specs.List.{AllByRecursion}
use Rattle.turn_cell.specs.History.{StartsWith}

pub drop_none : (n : ℕ) → ◌≡◌ {A = List (List ℕ)} (drop n []) []
drop_none zero = refl
drop_none (suc n) = refl

drop_behind : (n : ℕ) (xs ys : List (List ℕ)) → drop n (xs ++ ys) ≡ drop n xs ++ drop (n - length xs) ys
drop_behind zero xs ys = ap (λ m. xs ++ drop m ys) (let none : 0 ≡ 0 - length xs = omega arith in none)
drop_behind (suc n) [] ys = ap (λ m. drop m ys) (let all : suc n ≡ suc n - 0 = omega arith in all)
drop_behind (suc n) (x ∷ xs) ys = drop_behind n xs ys ∙ ap (λ m. drop n xs ++ drop m ys) (let less : n - length xs ≡ suc n - suc (length xs) = omega arith in less)

pub starts_behind : (n : ℕ) (xs ys : List (List ℕ)) → StartsWith xs ys → StartsWith (drop n xs) (drop n ys)
starts_behind n xs ys starts = (drop (n - length ys) starts.0, ap (λ l. drop n l) starts.1 ∙ drop_behind n ys starts.0)

pub all_behind : (P : List ℕ → Type 0) (n : ℕ) (xs : List (List ℕ)) → AllByRecursion P xs → AllByRecursion P (drop n xs)
all_behind P zero xs all = all
all_behind P (suc n) [] all = all
all_behind P (suc n) (x ∷ xs) all = all_behind P n xs all.1

pub none_first : (xs ys : List (List ℕ)) → xs ++ ys ≡ [] → xs ≡ []
none_first [] ys e = refl
none_first (x ∷ xs) ys e = absurd (cc)
