-- Passes of cells, one of each, where the pass at a place took turns. `pass ≡ get_or passes k pass` is how
-- the check says what was read at a place, and `set passes k after` what a `&mut` to it leaves.
use Rattle.std.proofs.Common.{◌≡◌, ◌≢◌, inl, inr, ℕ, ◌<◌, List, [], ◌∷◌, ◌++◌, length, get_or, set, sym, ap, subst, ◌∙◌, arith, append-nil}
use Rattle.std.specs.Prelude.{slice_get, Option, Some, None, IfSome}
use Rattle.std.specs.List.{refill, swap, AllByRecursion}
use Rattle.std.specs.Option.{option_map_or}
use Rattle.std.proofs.lemmas.List.{length-set}
use Rattle.std.proofs.lemmas.List.Elements.{All-set, All-get_or, All-from_recursion, recursion_from_All}
use Rattle.std.proofs.lemmas.Option.{slice_get_cases, same_Some}
use Rattle.turn_cell.specs.declared.cell.TurnCell.{TurnCell}
use Rattle.turn_cell.specs.declared.pass.Pass.{Pass}
use Rattle.turn_cell.specs.History.{StartsWith}
use Rattle.turn_cell.specs.Passes.{IsPassOf, opened_with, number, seen, mine}
use Rattle.local_pool.specs.Helds.{pool_of}
use Rattle.local_pool.specs.Lending.{PoolCell}
use Rattle.segment_pool.specs.Pools.{size_of}
use Rattle.conn_parts.specs.Shares.{AreOf, AreOwn, AreNew, GrewAt, HavePoolSize, numbers_of, seen_at, mine_at}
use Rattle.conn_parts.specs.Places.{IsWithout}
use Rattle.conn_parts.proofs.Lists.{get_is, get_set, get_set_else, set_cases, map_set}
use Rattle.flow_defs.proofs.Lists.{refilled_set}

module _ {S E F : Type 0} where
  -- ---- the pass at a place

  pub pass_at : (cells : List (TurnCell S E F)) (passes : List (Pass S E F)) (k : ℕ) (cell : TurnCell S E F) (pass : Pass S E F) →
      AreOf cells passes → k < length cells → cell ≡ get_or cells k cell → pass ≡ get_or passes k pass → IsPassOf cell pass
  pass_at cells passes k cell pass of within is_cell is_pass =
      of.each k cell pass (get_is cells k cell within is_cell) (get_is passes k pass (omega (arith, of.many)) is_pass)

  pub number_at : (n : ℕ) (cells : List (TurnCell S E F)) (passes : List (Pass S E F)) (k : ℕ) (pass : Pass S E F) →
      AreOwn n cells passes → k < length cells → pass ≡ get_or passes k pass → number pass ≡ n
  number_at n cells passes k pass own within is_pass = let many = own.of_cells.many in
      subst (λ (p : Pass S E F). number p ≡ n) (sym is_pass) (All-get_or (λ (p : Pass S E F). number p ≡ n) passes k pass (omega arith) own.numbered)

  -- ---- with another pass of the cell at a place

  pub are_of_set : (cells : List (TurnCell S E F)) (passes : List (Pass S E F)) (k : ℕ) (cell : TurnCell S E F) (after : Pass S E F) →
      AreOf cells passes → k < length cells → cell ≡ get_or cells k cell → IsPassOf cell after → AreOf cells (set passes k after)
  are_of_set cells passes k cell after of within is_cell is_pass = record {
    many = length-set passes k after ∙ of.many;
    each = λ j c p at_cells at_set. elim (set_cases passes k j after) [
      | inl here ↦
          let same : cell ≡ c = same_Some cell c (sym (get_is cells k cell within is_cell) ∙ ap (slice_get cells) (sym here.0) ∙ at_cells) in
          let new : after ≡ p = same_Some after p (sym here.2 ∙ at_set) in
          subst (λ (x : TurnCell S E F). IsPassOf x p) same (subst (IsPassOf cell) new is_pass)
      | inr else ↦ of.each j c p at_cells (sym else ∙ at_set)
    ];
  }

  pub are_own_set : (n : ℕ) (cells : List (TurnCell S E F)) (passes : List (Pass S E F)) (k : ℕ) (cell : TurnCell S E F) (after : Pass S E F) →
      AreOwn n cells passes → k < length cells → cell ≡ get_or cells k cell → IsPassOf cell after → number after ≡ n → AreOwn n cells (set passes k after)
  are_own_set n cells passes k cell after own within is_cell is_pass is_number = record {
    of_cells = are_of_set cells passes k cell after own.of_cells within is_cell is_pass;
    numbered = All-set (λ (p : Pass S E F). number p ≡ n) passes k after is_number own.numbered;
  }

  -- The same of what comes back where the list was lent for writing: `refill` of the list as it was.
  pub are_of_lent : (cells : List (TurnCell S E F)) (passes lent : List (Pass S E F)) (k : ℕ) (cell : TurnCell S E F) (after : Pass S E F) →
      lent ≡ passes → AreOf cells passes → k < length cells → cell ≡ get_or cells k cell → IsPassOf cell after → AreOf cells (refill (length passes) passes (set lent k after))
  are_of_lent cells passes lent k cell after is of within is_cell is_pass =
      subst (AreOf cells) (sym (refilled_set passes lent k after is)) (are_of_set cells passes k cell after of within is_cell is_pass)

  pub are_own_lent : (n : ℕ) (cells : List (TurnCell S E F)) (passes lent : List (Pass S E F)) (k : ℕ) (cell : TurnCell S E F) (after : Pass S E F) →
      lent ≡ passes → AreOwn n cells passes → k < length cells → cell ≡ get_or cells k cell → IsPassOf cell after → number after ≡ n → AreOwn n cells (refill (length passes) passes (set lent k after))
  are_own_lent n cells passes lent k cell after is own within is_cell is_pass is_number =
      subst (AreOwn n cells) (sym (refilled_set passes lent k after is)) (are_own_set n cells passes k cell after own within is_cell is_pass is_number)

  -- ---- what the passes have seen, and their own entries

  pub seen_here : (passes : List (Pass S E F)) (k : ℕ) (pass : Pass S E F) → k < length passes → pass ≡ get_or passes k pass → seen_at k passes ≡ seen pass
  seen_here passes k pass within is = ap (λ (o : Option (Pass S E F)). option_map_or (λ (p : Pass S E F). seen p) o []) (get_is passes k pass within is)

  pub mine_here : (passes : List (Pass S E F)) (k : ℕ) (pass : Pass S E F) → k < length passes → pass ≡ get_or passes k pass → mine_at k passes ≡ mine pass
  mine_here passes k pass within is = ap (λ (o : Option (Pass S E F)). option_map_or (λ (p : Pass S E F). mine p) o []) (get_is passes k pass within is)

  pub seen_set : (passes : List (Pass S E F)) (k : ℕ) (after : Pass S E F) → k < length passes → seen_at k (set passes k after) ≡ seen after
  seen_set passes k after within = ap (λ (o : Option (Pass S E F)). option_map_or (λ (p : Pass S E F). seen p) o []) (get_set passes k after within)

  pub mine_set : (passes : List (Pass S E F)) (k : ℕ) (after : Pass S E F) → k < length passes → mine_at k (set passes k after) ≡ mine after
  mine_set passes k after within = ap (λ (o : Option (Pass S E F)). option_map_or (λ (p : Pass S E F). mine p) o []) (get_set passes k after within)

  pub seen_set_else : (passes : List (Pass S E F)) (k j : ℕ) (after : Pass S E F) → j ≢ k → seen_at j (set passes k after) ≡ seen_at j passes
  seen_set_else passes k j after ne = ap (λ (o : Option (Pass S E F)). option_map_or (λ (p : Pass S E F). seen p) o []) (get_set_else passes k j after ne)

  pub mine_set_else : (passes : List (Pass S E F)) (k j : ℕ) (after : Pass S E F) → j ≢ k → mine_at j (set passes k after) ≡ mine_at j passes
  mine_set_else passes k j after ne = ap (λ (o : Option (Pass S E F)). option_map_or (λ (p : Pass S E F). mine p) o []) (get_set_else passes k j after ne)

  -- Its own entries were added to those at the place.
  pub mine_more : (passes : List (Pass S E F)) (k : ℕ) (pass after : Pass S E F) (entries : List E) → k < length passes → pass ≡ get_or passes k pass →
      mine after ≡ mine pass ++ entries → mine_at k (set passes k after) ≡ mine_at k passes ++ entries
  mine_more passes k pass after entries within is more = mine_set passes k after within ∙ more ∙ ap (λ l. l ++ entries) (sym (mine_here passes k pass within is))

  -- A pass with the same entries of its own leaves those of all.
  pub mine_same : (passes : List (Pass S E F)) (k : ℕ) (pass after : Pass S E F) → k < length passes → pass ≡ get_or passes k pass →
      mine after ≡ mine pass → (j : ℕ) → mine_at j (set passes k after) ≡ mine_at j passes
  mine_same passes k pass after within is same j = elim (set_cases passes k j after) [
    | inl here ↦
        ap (λ (o : Option (Pass S E F)). option_map_or (λ (p : Pass S E F). mine p) o []) here.2 ∙ same
        ∙ sym (mine_here passes k pass within is) ∙ ap (λ i. mine_at i passes) (sym here.0)
    | inr else ↦ ap (λ (o : Option (Pass S E F)). option_map_or (λ (p : Pass S E F). mine p) o []) else
  ]

  -- One that has seen more leaves each having seen what it had seen, or more.
  pub seen_more : (passes : List (Pass S E F)) (k : ℕ) (pass after : Pass S E F) → k < length passes → pass ≡ get_or passes k pass →
      StartsWith (seen after) (seen pass) → (j : ℕ) → StartsWith (seen_at j (set passes k after)) (seen_at j passes)
  seen_more passes k pass after within is more j = elim (set_cases passes k j after) [
    | inl here ↦ (
      more.0,
      ap (λ (o : Option (Pass S E F)). option_map_or (λ (p : Pass S E F). seen p) o []) here.2 ∙ more.1
          ∙ ap (λ l. l ++ more.0) (sym (seen_here passes k pass within is) ∙ ap (λ i. seen_at i passes) (sym here.0)),
    )
    | inr else ↦
        ([], ap (λ (o : Option (Pass S E F)). option_map_or (λ (p : Pass S E F). seen p) o []) else ∙ sym (append-nil (seen_at j passes)))
  ]

  -- ---- passes that have made no entry

  pub mine_new : (passes : List (Pass S E F)) → AreNew passes → (k : ℕ) → mine_at k passes ≡ []
  mine_new passes new k = elim (slice_get_cases passes k).1 [
    | inl at ↦
        ap (λ (o : Option (Pass S E F)). option_map_or (λ (p : Pass S E F). mine p) o []) at.2
        ∙ subst (λ (p : Pass S E F). mine p ≡ []) at.3 (All-get_or (λ (p : Pass S E F). mine p ≡ []) passes k at.0 at.1 new)
    | inr past ↦ ap (λ (o : Option (Pass S E F)). option_map_or (λ (p : Pass S E F). mine p) o []) past.1
  ]

  -- ---- a pass that is taken out of the list and put back

  pub pass_out : (cells : List (TurnCell S E F)) (passes : List (Pass S E F)) (k : ℕ) (cell : TurnCell S E F) (pass : Pass S E F) →
      AreOf cells passes → k < length cells → cell ≡ get_or cells k cell → slice_get passes k ≡ Some pass → IsPassOf cell pass
  pass_out cells passes k cell pass of within is_cell is_pass = of.each k cell pass (get_is cells k cell within is_cell) is_pass

  pub are_of_back : (cells : List (TurnCell S E F)) (passes rest back : List (Pass S E F)) (k : ℕ) (cell : TurnCell S E F) (after : Pass S E F) →
      AreOf cells passes → k < length cells → cell ≡ get_or cells k cell → IsPassOf cell after → IsWithout passes k rest →
      back ≡ swap (rest ++ after ∷ []) k (length rest) → AreOf cells back
  are_of_back cells passes rest back k cell after of within is_cell is_pass without is_back =
      subst (AreOf cells) (sym (is_back ∙ without.whole after)) (are_of_set cells passes k cell after of within is_cell is_pass)

  pub grew_back : (passes rest back : List (Pass S E F)) (k : ℕ) (pass after : Pass S E F) (entries : List E) → k < length passes → slice_get passes k ≡ Some pass → IsWithout passes k rest →
      back ≡ swap (rest ++ after ∷ []) k (length rest) → mine after ≡ mine pass ++ entries → GrewAt k entries passes back
  grew_back passes rest back k pass after entries within is_pass without is_back more =
      subst (GrewAt k entries passes) (sym (is_back ∙ without.whole after)) (record {
        here = mine_set passes k after within ∙ more ∙ ap (λ (l : List E). l ++ entries) (ap (λ (o : Option (Pass S E F)). option_map_or (λ (p : Pass S E F). mine p) o []) (sym is_pass));
        others = λ j ne. ap (λ (o : Option (Pass S E F)). option_map_or (λ (p : Pass S E F). mine p) o []) (get_set_else passes k j after ne);
      })

  pub numbers_back : (passes rest back : List (Pass S E F)) (k : ℕ) (pass after : Pass S E F) → slice_get passes k ≡ Some pass → IsWithout passes k rest →
      back ≡ swap (rest ++ after ∷ []) k (length rest) → number after ≡ number pass → numbers_of back ≡ numbers_of passes
  numbers_back passes rest back k pass after is_pass without is_back same =
      ap numbers_of (is_back ∙ without.whole after) ∙ map_set (λ (p : Pass S E F). number p) passes k pass after is_pass same

  -- ---- numbers that stay

  numbered_by : (n : ℕ) (old new : List (Pass S E F)) → numbers_of new ≡ numbers_of old →
      AllByRecursion (λ (p : Pass S E F). number p ≡ n) old → AllByRecursion (λ (p : Pass S E F). number p ≡ n) new
  numbered_by n [] [] same all = tt
  numbered_by n [] (q ∷ new) same all = absurd (cc)
  numbered_by n (p ∷ old) [] same all = absurd (cc)
  numbered_by n (p ∷ old) (q ∷ new) same all =
      let head : number q ≡ number p = cc in
      let more : numbers_of new ≡ numbers_of old = cc in
      (head ∙ all.0, numbered_by n old new more all.1)

  -- Passes of the cells with the numbers of a loop's own are its own.
  pub are_own_same : (n : ℕ) (cells : List (TurnCell S E F)) (old new : List (Pass S E F)) → AreOwn n cells old → AreOf cells new → numbers_of new ≡ numbers_of old → AreOwn n cells new
  are_own_same n cells old new own of same = record {
    of_cells = of;
    numbered =
        All-from_recursion (λ (p : Pass S E F). number p ≡ n) new
        (numbered_by n old new same (recursion_from_All (λ (p : Pass S E F). number p ≡ n) old own.numbered));
  }

-- ---- the sizes of pools

pub pool_size : (cells : List PoolCell) (k : ℕ) (cell : PoolCell) (size : ℕ) → k < length cells → cell ≡ get_or cells k cell → HavePoolSize size cells → size_of (pool_of (opened_with cell)) ≡ size
pool_size cells k cell size within is sizes =
    subst (λ (c : PoolCell). size_of (pool_of (opened_with c)) ≡ size) (sym is) (All-get_or (λ (c : PoolCell). size_of (pool_of (opened_with c)) ≡ size) cells k cell within sizes)

-- A segment that was lent there has it.
pub lent_size : (cells : List PoolCell) (k : ℕ) (cell : PoolCell) (size : ℕ) (lent : Option (List ℕ)) → k < length cells → cell ≡ get_or cells k cell → HavePoolSize size cells →
    IfSome lent (λ segment. length segment ≡ size_of (pool_of (opened_with cell))) → IfSome lent (λ segment. length segment ≡ size)
lent_size cells k cell size None within is sizes long = tt
lent_size cells k cell size (Some segment) within is sizes long = long ∙ pool_size cells k cell size within is sizes
