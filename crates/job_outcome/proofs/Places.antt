-- Places of lists, and what a worker leaves in its own.
use Rattle.std.proofs.Common.{◌≡◌, ℕ, zero, suc, ◌<◌, List, [], ◌∷◌, length, Option, Some, slice_get, refl, ap, subst, ◌∙◌, arith}
use Rattle.std.proofs.lemmas.Option.{slice_get_within}
use Rattle.std.specs.Prelude.{map, All}
use Rattle.std.specs.List.{AllByRecursion}
use Rattle.turn_cell.specs.declared.pass.Pass.{Pass}
use Rattle.turn_cell.specs.Passes.{seen, mine}
use Rattle.conn_parts.specs.Shares.{seen_at, mine_at}
use Rattle.job_workers.specs.declared.place.Place.{Place}
use Rattle.job_workers.specs.declared.place.Place.TheVariants.{Todo, Ended, Vacant}
use Rattle.job_workers.specs.Places.{Leaves, RowLeaves}

pub same_some : {A : Type 0} (m : Option A) (x y : A) → m ≡ Some x → m ≡ Some y → x ≡ y
same_some m x y e f = cc

pub placed : {A : Type 0} (m : Option A) (x y : A) → m ≡ Some x → x ≡ y → m ≡ Some y
placed m x y e f = cc

pub at_place : {A : Type 0} (xs : List A) (i : ℕ) → i < length xs → (x : A) × (slice_get xs i ≡ Some x)
at_place [] i h = absurd (omega arith)
at_place (x ∷ xs) zero h = (x, refl)
at_place (x ∷ xs) (suc i) h = at_place xs i (omega arith)

-- What all of a list are, each of its elements is.
pub all_at : {A : Type 0} (P : A → Type 0) (xs : List A) (i : ℕ) (x : A) → All P xs → slice_get xs i ≡ Some x → P x
all_at P [] i x all e = absurd (cc)
all_at P (y ∷ xs) zero x all e = subst P (same_some (Some y) y x refl e) (all 0 y (omega arith))
all_at P (y ∷ xs) (suc i) x all e = all_at P xs i x (λ k d low. all (suc k) d (omega (arith, low))) e

-- The element of a list that was mapped comes of one at its place.
pub map_at : {A B : Type 0} (f : A → B) (xs : List A) (i : ℕ) (y : B) → slice_get (map f xs) i ≡ Some y → (x : A) × (slice_get xs i ≡ Some x) × (f x ≡ y)
map_at f [] i y e = absurd (cc)
map_at f (x ∷ xs) zero y e = (x, refl, cc)
map_at f (x ∷ xs) (suc i) y e = map_at f xs i y e

-- A list of four by its places.
pub four : {A : Type 0} {xs : List A} {a b c d : A} → length xs ≡ 4 → slice_get xs 0 ≡ Some a → slice_get xs 1 ≡ Some b → slice_get xs 2 ≡ Some c →
    slice_get xs 3 ≡ Some d → xs ≡ a ∷ b ∷ c ∷ d ∷ []
four {xs = []} n ea eb ec ed = absurd (omega (arith, n))
four {xs = w ∷ []} n ea eb ec ed = absurd (omega (arith, n))
four {xs = w ∷ x ∷ []} n ea eb ec ed = absurd (omega (arith, n))
four {xs = w ∷ x ∷ y ∷ []} n ea eb ec ed = absurd (omega (arith, n))
four {xs = w ∷ x ∷ y ∷ z ∷ []} n ea eb ec ed = cc
four {xs = w ∷ x ∷ y ∷ z ∷ v ∷ xs} n ea eb ec ed = absurd (omega (arith, n))

-- What holds of each of a list holds of what stands in it.
pub each_at : {A : Type 0} (P : A → Type 0) (xs : List A) (i : ℕ) (x : A) → AllByRecursion P xs → slice_get xs i ≡ Some x → P x
each_at P [] i x all e = absurd (cc)
each_at P (y ∷ xs) zero x all e = subst P (same_some (Some y) y x refl e) all.0
each_at P (y ∷ xs) (suc i) x all e = each_at P xs i x all.1 e

module _ {S E F : Type 0} where
  -- Where no pass of a list saw or made an entry, there is none at any place.
  pub seen_nothing : (passes : List (Pass S E F)) (k : ℕ) → All (λ (pass : Pass S E F). seen pass ≡ []) passes → seen_at k passes ≡ []
  seen_nothing [] k all = refl
  seen_nothing (pass ∷ passes) zero all = all 0 pass (omega arith)
  seen_nothing (pass ∷ passes) (suc k) all = seen_nothing passes k (λ i d low. all (suc i) d (omega (arith, low)))

  pub made_nothing : (passes : List (Pass S E F)) (k : ℕ) → All (λ (pass : Pass S E F). mine pass ≡ []) passes → mine_at k passes ≡ []
  made_nothing [] k all = refl
  made_nothing (pass ∷ passes) zero all = all 0 pass (omega arith)
  made_nothing (pass ∷ passes) (suc k) all = made_nothing passes k (λ i d low. all (suc i) d (omega (arith, low)))

-- ---- what is left

module _ {W E : Type 0} (leaves : W → E → Type 0) where
  pub leaves_end : (worker : W) (new : Place W E) → Leaves leaves (Todo worker) new → (end : E) × (new ≡ Ended end) × leaves worker end
  leaves_end worker (Ended end) h = (end, refl, h)
  leaves_end worker (Todo other) h = absurd h
  leaves_end worker Vacant h = absurd h

  -- Where a worker stood in a row, its end stands.
  pub end_at : (before after : List (Place W E)) (i : ℕ) (worker : W) → RowLeaves leaves before after → slice_get before i ≡ Some (Todo worker) →
      (end : E) × (slice_get after i ≡ Some (Ended end)) × leaves worker end
  end_at before after i worker r at =
      let low = slice_get_within before i (Todo worker) at in
      let new = at_place after i (omega (arith, low, r.many)) in
      let e = leaves_end worker new.0 (r.each i (Todo worker) new.0 at new.1) in
      (e.0, new.1 ∙ ap (λ (place : Place W E). Some place) e.1, e.2)
