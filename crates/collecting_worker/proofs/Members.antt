-- What is in a list, by recursion.
use Rattle.std.proofs.Common.{◌≡◌, ◌⊎◌, inl, inr, ℕ, zero, suc, ◌<◌, Bool, true, false, cond, List, [], ◌∷◌, length, refl, sym, ap, ◌∙◌, subst, arith}
use Rattle.std.specs.Prelude.{Contains, filter, slice_index_or, ◌||◌}
use Rattle.std.specs.List.{list_any}

abbrev pub In : {X : Type 0} → List X → X → Type 0
In [] x = ⊥
In (y ∷ ys) x = (y ≡ x) ⊎ In ys x

in_at : {X : Type 0} (xs : List X) (x : X) (k : ℕ) → k < length xs → slice_index_or xs k x ≡ x → In xs x
in_at [] x k low is = absurd (omega (arith, low))
in_at (y ∷ ys) x zero low is = inl is
in_at (y ∷ ys) x (suc k) low is = inr (in_at ys x k (omega (arith, low)) is)

pub in_contained : {X : Type 0} (xs : List X) (x : X) → Contains xs x → In xs x
in_contained xs x c = in_at xs x c.0 c.1 c.2

pub contains_in : {X : Type 0} (xs : List X) (x : X) → In xs x → Contains xs x
contains_in [] x i = absurd i
contains_in (y ∷ ys) x (inl e) = (0, omega arith, e)
contains_in (y ∷ ys) x (inr i) = let c = contains_in ys x i in (suc c.0, omega (arith, c.1), c.2)

-- what passes a test is among those that are kept
pub in_filter : {X : Type 0} (p : X → Bool) (xs : List X) (x : X) → In xs x → p x ≡ true → In (filter p xs) x
in_filter p [] x i e = absurd i
in_filter p (y ∷ ys) x (inl is) e = let yes : p y ≡ true = ap p is ∙ e in subst (λ b. In (cond b (y ∷ filter p ys) (filter p ys)) x) (sym yes) (inl is)
in_filter p (y ∷ ys) x (inr i) e =
    elim (p y) as (λ b. In (cond b (y ∷ filter p ys) (filter p ys)) x) [
      | true ↦ inr (in_filter p ys x i e)
      | false ↦ in_filter p ys x i e
    ]

or_right : (a b : Bool) → b ≡ true → (a || b) ≡ true
or_right true b e = refl
or_right false b e = e

pub any_in : {X : Type 0} (p : X → Bool) (xs : List X) (x : X) → In xs x → p x ≡ true → list_any p xs ≡ true
any_in p [] x i e = absurd i
any_in p (y ∷ ys) x (inl is) e = let yes : p y ≡ true = ap p is ∙ e in ap (λ b. b || list_any p ys) yes
any_in p (y ∷ ys) x (inr i) e = or_right (p y) (list_any p ys) (any_in p ys x i e)
