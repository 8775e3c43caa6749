-- Cells and their passes, as they are made one by one.
use Rattle.std.proofs.Common.{◌≡◌, ℕ, List, [], ◌∷◌, ◌++◌, length, sym, ap, subst, ◌∙◌, arith}
use Rattle.std.proofs.lemmas.List.{length_push}
use Rattle.std.proofs.lemmas.List.Elements.{All-push, All-same}
use lib.ListN.{get_elem?}
use Rattle.turn_cell.specs.declared.cell.TurnCell.{TurnCell}
use Rattle.turn_cell.specs.declared.pass.Pass.{Pass}
use Rattle.turn_cell.specs.Passes.{IsPassOf, number, seen, mine}
use Rattle.turn_cell.specs.Closing.{AreFresh}
use Rattle.conn_parts.specs.Shares.{AreOf, AreOwn}
use Rattle.job_cells.specs.declared.group.Group.{Group}
use Rattle.job_cells.specs.Groups.{AreDealt, IsMade}
use Rattle.job_cells.proofs.Lists.{elem_in_front, elem_at_last, pairs_push}

module _ {S E F : Type 0} where
  pub still_fresh : (cell : TurnCell S E F) (passes rest : List (Pass S E F)) (last : Pass S E F) → passes ≡ rest ++ last ∷ [] → AreFresh cell passes → AreFresh cell rest
  still_fresh cell passes rest last is fresh k pass at = fresh k pass (ap (λ l. get_elem? l k) is ∙ elem_in_front rest (last ∷ []) k pass at)

  pub last_fresh : (cell : TurnCell S E F) (passes rest : List (Pass S E F)) (last : Pass S E F) → passes ≡ rest ++ last ∷ [] → AreFresh cell passes → IsMade cell (length rest) last
  last_fresh cell passes rest last is fresh = fresh (length rest) last (ap (λ l. get_elem? l (length rest)) is ∙ elem_at_last rest last)

  pub of_more : (cells cells' : List (TurnCell S E F)) (passes passes' : List (Pass S E F)) (cell : TurnCell S E F) (pass : Pass S E F) → AreOf cells passes → IsPassOf cell pass →
      cells' ≡ cells ++ cell ∷ [] → passes' ≡ passes ++ pass ∷ [] → AreOf cells' passes'
  of_more cells cells' passes passes' cell pass of is ec ep =
      let many = of.many in let lp = length_push passes pass in let lc = length_push cells cell in
      subst (λ (l : List (TurnCell S E F)). AreOf l passes') (sym ec) (subst (λ (l : List (Pass S E F)). AreOf (cells ++ cell ∷ []) l) (sym ep)
      (record { many = omega arith; each = pairs_push (λ _ (c : TurnCell S E F) (p : Pass S E F). IsPassOf c p) cells passes cell pass many of.each is }))

  own_more : (n : ℕ) (cells cells' : List (TurnCell S E F)) (passes passes' : List (Pass S E F)) (cell : TurnCell S E F) (pass : Pass S E F) → AreOwn n cells passes → IsMade cell n pass →
      cells' ≡ cells ++ cell ∷ [] → passes' ≡ passes ++ pass ∷ [] → AreOwn n cells' passes'
  own_more n cells cells' passes passes' cell pass own made ec ep = record {
    of_cells = of_more cells cells' passes passes' cell pass own.of_cells made.0 ec ep;
    numbered = All-same (λ (p : Pass S E F). number p ≡ n) passes' (passes ++ pass ∷ []) ep (All-push (λ (p : Pass S E F). number p ≡ n) passes pass own.numbered made.1.0);
  }

  -- One more cell was made, with these passes of the loops.
  pub dealt_more : (before after : Group S E F) (cell : TurnCell S E F) (b c : Pass S E F) → AreDealt before → IsMade cell 1 b → IsMade cell 2 c →
      after.cells.items ≡ before.cells.items ++ cell ∷ [] → after.first.items ≡ before.first.items ++ b ∷ [] → after.second.items ≡ before.second.items ++ c ∷ [] →
      AreDealt after
  dealt_more before after cell b c dealt one two ec eb es = record {
    first = own_more 1 before.cells.items after.cells.items before.first.items after.first.items cell b dealt.first one ec eb;
    second = own_more 2 before.cells.items after.cells.items before.second.items after.second.items cell c dealt.second two ec es;
    unseen = All-same (λ (p : Pass S E F). seen p ≡ []) after.first.items (before.first.items ++ b ∷ []) eb (All-push (λ (p : Pass S E F). seen p ≡ []) before.first.items b dealt.unseen one.1.1);
    new = All-same (λ (p : Pass S E F). mine p ≡ []) after.first.items (before.first.items ++ b ∷ []) eb (All-push (λ (p : Pass S E F). mine p ≡ []) before.first.items b dealt.new one.1.2);
  }

  -- A pass that was dealt where so many are left has their number.
  pub made_at : (cell : TurnCell S E F) (n k : ℕ) (pass : Pass S E F) → IsMade cell n pass → n ≡ k → IsMade cell k pass
  made_at cell n k pass made e = subst (λ (j : ℕ). IsMade cell j pass) e made
