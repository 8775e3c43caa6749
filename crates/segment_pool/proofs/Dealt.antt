-- A pool's passes, made of those of its cell, and given up for them.
use Rattle.std.proofs.Common.{◌≡◌, ℕ, zero, suc, ◌+◌, ◌<◌, ◌≤◌, List, [], ◌∷◌, ◌++◌, map, length, reverse, sym, refl, ap, ◌∙◌, subst, arith}
use mathlib.Core.Option.{some, some-injective, some-ne-none}
use lib.ListN.{get_elem?}
use Rattle.std.specs.List.{sum_by, All}
use Rattle.std.proofs.lemmas.List.{map-append, reverse-append, reverse-reverse}
use Rattle.std.proofs.lemmas.List.Elements.{All-nil, All-cons, All-head, All-tail, All-push, All-same}
use Rattle.std.proofs.lemmas.List.Sums.{sum_by-cons}
use Rattle.turn_cell.specs.declared.cell.TurnCell.{TurnCell}
use Rattle.turn_cell.specs.declared.pass.Pass.{Pass}
use Rattle.turn_cell.specs.Passes as cells
use Rattle.turn_cell.specs.Closing as closing
use Rattle.segment_pool.specs.declared.pass.PoolPass.{PoolPass}
use Rattle.segment_pool.specs.declared.stock.Stock.{Stock}
use Rattle.segment_pool.specs.declared.stock.Terms.{Terms}
use Rattle.segment_pool.specs.declared.stock.Dealing.{Dealing}
use Rattle.segment_pool.specs.Counting.{is_claim, is_give, balance, lent_in}
use Rattle.segment_pool.specs.Passes.{IsPassAt, number, seen, mine, out}
use Rattle.segment_pool.specs.Places.{inner, IsNew, FirstHasPlaces}
use Rattle.segment_pool.specs.Stocks.{StockStandsFor}
use Rattle.segment_pool.proofs.Counting.{gives_no_more}

module _ {A B : Type 0} (f : A → B) where
  pub at_map : (xs : List A) (k : ℕ) (y : B) → get_elem? (map f xs) k ≡ some y → (x : A) × (get_elem? xs k ≡ some x) × (f x ≡ y)
  at_map [] k y e = absurd (some-ne-none y (sym e))
  at_map (x ∷ xs) zero y e = (x, refl, some-injective (f x) y e)
  at_map (x ∷ xs) (suc k) y e = at_map xs k y e

  pub map_at : (xs : List A) (k : ℕ) (x : A) → get_elem? xs k ≡ some x → get_elem? (map f xs) k ≡ some (f x)
  map_at [] k x e = absurd (some-ne-none x (sym e))
  map_at (y ∷ xs) zero x e = ap (λ z. some (f z)) (some-injective y x e)
  map_at (y ∷ xs) (suc k) x e = map_at xs k x e

  pub map_reverse : (xs : List A) → map f (reverse xs) ≡ reverse (map f xs)
  map_reverse [] = refl
  map_reverse (x ∷ xs) = ap (map f) (reverse-append (x ∷ []) xs) ∙ (map-append f (reverse xs) (x ∷ []) ∙ (ap (λ l. l ++ f x ∷ []) (map_reverse xs) ∙ sym (reverse-append (f x ∷ []) (map f xs))))

  pub length_map : (xs : List A) → length (map f xs) ≡ length xs
  length_map [] = refl
  length_map (x ∷ xs) = ap suc (length_map xs)

  pub sum_map : (g : B → ℕ) (xs : List A) → sum_by g (map f xs) ≡ sum_by (λ x. g (f x)) xs
  sum_map g [] = refl
  sum_map g (x ∷ xs) = let r = sum_map g xs in let a = sum_by-cons g (f x) (map f xs) in let b = sum_by-cons (λ (x : A). g (f x)) x xs in omega arith

module _ {A : Type 0} where
  pub all_at : (P : A → Type 0) (xs : List A) → ((k : ℕ) (x : A) → get_elem? xs k ≡ some x → P x) → All P xs
  all_at P [] h = All-nil P
  all_at P (x ∷ xs) h = All-cons P x xs (h 0 x refl) (all_at P xs (λ k. h (suc k)))

  pub at_all : (P : A → Type 0) (xs : List A) → All P xs → (k : ℕ) (x : A) → get_elem? xs k ≡ some x → P x
  at_all P [] h k x at = absurd (some-ne-none x (sym at))
  at_all P (y ∷ ys) h zero x at = subst P (some-injective y x at) (All-head P y ys h)
  at_all P (y ∷ ys) h (suc k) x at = at_all P ys (All-tail P y ys h) k x at

  pub all_reverse : (P : A → Type 0) (xs : List A) → All P xs → All P (reverse xs)
  all_reverse P [] h = All-nil P
  all_reverse P (x ∷ xs) h = All-same P (reverse (x ∷ xs)) (reverse xs ++ x ∷ []) (reverse-append (x ∷ []) xs)
      (All-push P (reverse xs) x (all_reverse P xs (All-tail P x xs h)) (All-head P x xs h))

  -- the first of reversed items was the last
  pub first_of : (xs ys : List A) (x : A) → xs ≡ ys ++ x ∷ [] → reverse xs ≡ x ∷ reverse ys
  first_of xs ys x e = ap reverse e ∙ reverse-append ys (x ∷ [])

  pub front_of : (xs rev ys : List A) (x : A) → rev ≡ reverse xs → rev ≡ ys ++ x ∷ [] → xs ≡ x ∷ reverse ys
  front_of xs rev ys x e f = sym (reverse-reverse xs) ∙ (ap reverse (sym e) ∙ first_of rev ys x f)

  pub empty : (xs : List A) → (0 < length xs → ⊥) → xs ≡ []
  empty [] none = refl
  empty (x ∷ xs) none = absurd (none (omega arith))

  pub sum_none : (f : A → ℕ) (xs : List A) → All (λ x. f x ≡ 0) xs → sum_by f xs ≡ 0
  sum_none f [] h = refl
  sum_none f (x ∷ xs) h = let a = All-head (λ x. f x ≡ 0) x xs h in let r = sum_none f xs (All-tail (λ x. f x ≡ 0) x xs h) in let c = sum_by-cons f x xs in omega arith

  pub none_in_sum : (f : A → ℕ) (xs : List A) → sum_by f xs ≡ 0 → All (λ x. f x ≡ 0) xs
  none_in_sum f [] h = All-nil (λ x. f x ≡ 0)
  none_in_sum f (x ∷ xs) h = let c = sum_by-cons f x xs in All-cons (λ x. f x ≡ 0) x xs (omega arith) (none_in_sum f xs (omega arith))

  pub sum_same : (f g : A → ℕ) (xs : List A) → ((k : ℕ) (x : A) → get_elem? xs k ≡ some x → f x ≡ g x) → sum_by f xs ≡ sum_by g xs
  sum_same f g [] h = refl
  sum_same f g (x ∷ xs) h = let a = h 0 x refl in let r = sum_same f g xs (λ k. h (suc k)) in let b = sum_by-cons f x xs in let c = sum_by-cons g x xs in omega arith

  pub sum_less : (f g d : A → ℕ) (xs : List A) → ((k : ℕ) (x : A) → get_elem? xs k ≡ some x → d x + g x ≡ f x) → sum_by d xs + sum_by g xs ≡ sum_by f xs
  sum_less f g d [] h = refl
  sum_less f g d (x ∷ xs) h = let a = h 0 x refl in let r = sum_less f g d xs (λ k. h (suc k)) in
      let b = sum_by-cons f x xs in let c = sum_by-cons g x xs in let e = sum_by-cons d x xs in omega arith

-- the passes of a cell, when the last pass of the pool is made of them
pub all_made : (all rest : List (Pass Stock Dealing Terms)) (passes made result : List PoolPass) (lowest : PoolPass) → rest ++ lowest.pass ∷ reverse (inner passes) ≡ all → rest ≡ []
    → made ≡ passes ++ lowest ∷ [] → result ≡ reverse made → inner result ≡ all
all_made all rest passes made result lowest is none e f =
    ap inner (f ∙ first_of made passes lowest e) ∙ (ap (λ l. lowest.pass ∷ l) (map_reverse (λ (p : PoolPass). p.pass) passes) ∙ (ap (λ l. l ++ lowest.pass ∷ reverse (inner passes)) (sym none) ∙ is))

-- the passes of a cell, when the first of them is gathered
pub first_gathered : (passes rest : List PoolPass) (first : PoolPass) (places : List (Pass Stock Dealing Terms)) → passes ≡ first ∷ reverse rest → length first.places.items ≡ 0
    → places ≡ first.places.items ++ first.pass ∷ [] → places ++ reverse (inner rest) ≡ inner passes
first_gathered passes rest first places is none e =
    ap (λ l. l ++ reverse (inner rest)) (e ∙ ap (λ l. l ++ first.pass ∷ []) (empty first.places.items (λ some. omega arith)))
    ∙ sym (ap inner is ∙ ap (λ l. first.pass ∷ l) (map_reverse (λ (p : PoolPass). p.pass) rest))

module _ (cell : TurnCell Stock Dealing Terms) where
  -- a pass of the pool in its place
  abbrev pub InPlace : ℕ → PoolPass → Type 0
  InPlace k pass = IsPassAt cell pass × (number pass ≡ k)

  pub new_are_fresh : (places : List (Pass Stock Dealing Terms)) (passes : List PoolPass) → inner passes ≡ places → All IsNew passes → FirstHasPlaces (cells.passes_of cell) passes → closing.AreFresh cell places
      → (k : ℕ) (pass : PoolPass) → get_elem? passes k ≡ some pass → InPlace k pass × (seen pass ≡ []) × (mine pass ≡ [])
  new_are_fresh places passes is new first fresh k pass at =
      let h = fresh k pass.pass (ap (λ l. get_elem? l k) (sym is) ∙ map_at (λ (p : PoolPass). p.pass) passes k pass at) in let one = at_all IsNew passes new k pass at in
      (((h.0, one.0 ∙ sym (ap balance h.1.2), (one.1, λ zero. first pass (subst (λ (n : ℕ). get_elem? passes n ≡ some pass) (sym h.1.0 ∙ zero) at))), h.1.0), h.1.1, h.1.2)

  pub inner_are_all : (passes : List PoolPass) → length passes ≡ cells.passes_of cell → ((k : ℕ) (pass : PoolPass) → get_elem? passes k ≡ some pass → InPlace k pass) → closing.AreAll cell (inner passes)
  inner_are_all passes count all = (
    length_map (λ (p : PoolPass). p.pass) passes ∙ count,
    λ k place at. let one = at_map (λ (p : PoolPass). p.pass) passes k place at in let h = all k one.0 one.1 in
        subst (λ (p : Pass Stock Dealing Terms). cells.IsPassOf cell p × (cells.number p ≡ k)) one.2 (h.0.0, h.1),
  )

  -- passes have counted right what they have out
  pub held_is_out : (passes : List PoolPass) → ((k : ℕ) (pass : PoolPass) → get_elem? passes k ≡ some pass → InPlace k pass) → sum_by (λ (p : PoolPass). p.held) passes ≡ sum_by out passes
  held_is_out passes all = sum_same (λ (p : PoolPass). p.held) out passes (λ k pass at. (all k pass at).0.1)

-- what all passes have out together is lent at the end, and no more than the total
module _ (cell : TurnCell Stock Dealing Terms) (passes : List PoolPass) (places : List (Pass Stock Dealing Terms)) (is : places ≡ inner passes) (stock : Stock)
    (whole : closing.IsWhole StockStandsFor (λ (s : Stock). s.terms) cell places stock) where
  fair : (k : ℕ) (pass : PoolPass) → get_elem? passes k ≡ some pass → out pass + sum_by is_give (mine pass) ≡ sum_by is_claim (mine pass)
  fair k pass at =
      let own = whole.whole.own k pass.pass (ap (λ l. get_elem? l k) is ∙ map_at (λ (p : PoolPass). p.pass) passes k pass at) in
      let le : sum_by is_give (mine pass) ≤ sum_by is_claim (mine pass) = subst (λ (es : List Dealing). sum_by is_give es ≤ sum_by is_claim es) own (whole.stands_for.0.within k).0 in omega arith

  pub out_is_lent : sum_by out passes ≡ lent_in whole.history
  out_is_lent =
      let claims = whole.weighs is_claim ∙ (ap (sum_by (λ (p : Pass Stock Dealing Terms). sum_by is_claim (cells.mine p))) is ∙ sum_map (λ (p : PoolPass). p.pass) (λ (p : Pass Stock Dealing Terms). sum_by is_claim (cells.mine p)) passes) in
      let gives = whole.weighs is_give ∙ (ap (sum_by (λ (p : Pass Stock Dealing Terms). sum_by is_give (cells.mine p))) is ∙ sum_map (λ (p : PoolPass). p.pass) (λ (p : Pass Stock Dealing Terms). sum_by is_give (cells.mine p)) passes) in
      let each = sum_less (λ (p : PoolPass). sum_by is_claim (mine p)) (λ (p : PoolPass). sum_by is_give (mine p)) out passes fair in
      let le = gives_no_more stock.terms.limits.items whole.history whole.stands_for.0.within in omega arith

  pub out_is_few : sum_by out passes ≤ (cells.opened_with cell).terms.total
  out_is_few = let lent = out_is_lent in let count = whole.stands_for.0.count in let terms = ap (λ (t : Terms). t.total) whole.stands_for.1 in omega arith
