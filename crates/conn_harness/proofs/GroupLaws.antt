-- Groups of cells, as cells are added to them one by one.
use Rattle.std.proofs.Common.{◌≡◌, ℕ, zero, suc, ◌+◌, List, [], ◌∷◌, ◌++◌, length, Some, sym, ap, subst, ◌∙◌, arith}
use Rattle.std.specs.Prelude.{slice_get}
use Rattle.std.proofs.lemmas.List.{nil_from_length, length_push}
use Rattle.std.proofs.lemmas.List.Elements.{All-push, All-same}
use Rattle.std.proofs.lemmas.Option.{same_Some}
use lib.ListN.{get_elem?}
use Rattle.turn_cell.specs.declared.cell.TurnCell.{TurnCell}
use Rattle.turn_cell.specs.declared.pass.Pass.{Pass}
use Rattle.turn_cell.specs.Passes.{IsPassOf, number, mine, opened_with}
use Rattle.turn_cell.specs.Closing.{IsFresh, AreFresh}
use Rattle.conn_parts.specs.Shares.{AreOf, AreOwn}
use Rattle.conn_harness.specs.declared.group.Group.{Group}
use Rattle.conn_harness.specs.Groups.{AreDealt, HasMore, AreMade}

module _ {S E F : Type 0} where
  -- A pass that was made with this cell, and its number.
  abbrev pub IsMade : TurnCell S E F → ℕ → Pass S E F → Type 0
  IsMade cell n pass = IsPassOf cell pass × IsFresh n pass

  -- The three passes of a cell were taken from the end.
  pub three_made : (cell : TurnCell S E F) (all two one none : List (Pass S E F)) (a b c : Pass S E F) → AreFresh cell all → length all ≡ 3 →
      all ≡ two ++ c ∷ [] → two ≡ one ++ b ∷ [] → one ≡ none ++ a ∷ [] → IsMade cell 0 a × IsMade cell 1 b × IsMade cell 2 c
  three_made cell all two one none a b c fresh three third second first =
      let l3 : length all ≡ length two + 1 = ap length third ∙ length_push two c in
      let l2 : length two ≡ length one + 1 = ap length second ∙ length_push one b in
      let l1 : length one ≡ length none + 1 = ap length first ∙ length_push none a in
      let empty : none ≡ [] = nil_from_length none (omega arith) in
      let single : one ≡ a ∷ [] = first ∙ ap (λ ps. ps ++ a ∷ []) empty in
      let both : two ≡ a ∷ b ∷ [] = second ∙ ap (λ ps. ps ++ b ∷ []) single in
      let whole : all ≡ a ∷ b ∷ c ∷ [] = third ∙ ap (λ ps. ps ++ c ∷ []) both in
      (fresh 0 a (ap (λ ps. get_elem? ps 0) whole), fresh 1 b (ap (λ ps. get_elem? ps 1) whole), fresh 2 c (ap (λ ps. get_elem? ps 2) whole))

  each_more : (cells : List (TurnCell S E F)) (passes : List (Pass S E F)) (cell : TurnCell S E F) (pass : Pass S E F) → length passes ≡ length cells →
      ((k : ℕ) (c : TurnCell S E F) (p : Pass S E F) → slice_get cells k ≡ Some c → slice_get passes k ≡ Some p → IsPassOf c p) → IsPassOf cell pass →
      (k : ℕ) (c : TurnCell S E F) (p : Pass S E F) → slice_get (cells ++ cell ∷ []) k ≡ Some c → slice_get (passes ++ pass ∷ []) k ≡ Some p → IsPassOf c p
  each_more [] [] cell pass l each is zero c p ec ep =
      subst (λ (x : TurnCell S E F). IsPassOf x p) (same_Some cell c ec) (subst (λ (x : Pass S E F). IsPassOf cell x) (same_Some pass p ep) is)
  each_more [] [] cell pass l each is (suc k) c p ec ep = absurd (cc)
  each_more [] (q ∷ qs) cell pass l each is k c p ec ep = absurd (omega arith)
  each_more (d ∷ ds) [] cell pass l each is k c p ec ep = absurd (omega arith)
  each_more (d ∷ ds) (q ∷ qs) cell pass l each is zero c p ec ep = each 0 c p ec ep
  each_more (d ∷ ds) (q ∷ qs) cell pass l each is (suc k) c p ec ep = each_more ds qs cell pass (omega arith) (λ j. each (suc j)) is k c p ec ep

  of_more : (cells : List (TurnCell S E F)) (passes : List (Pass S E F)) (cell : TurnCell S E F) (pass : Pass S E F) → AreOf cells passes → IsPassOf cell pass →
      AreOf (cells ++ cell ∷ []) (passes ++ pass ∷ [])
  of_more cells passes cell pass of is =
      let many = of.many in let lp = length_push passes pass in let lc = length_push cells cell in
      record { many = omega arith; each = each_more cells passes cell pass many of.each is }

  own_more : (n : ℕ) (cells cells' : List (TurnCell S E F)) (passes passes' : List (Pass S E F)) (cell : TurnCell S E F) (pass : Pass S E F) → AreOwn n cells passes → IsMade cell n pass →
      cells' ≡ cells ++ cell ∷ [] → passes' ≡ passes ++ pass ∷ [] → AreOwn n cells' passes'
  own_more n cells cells' passes passes' cell pass own made ec ep =
      let of = of_more cells passes cell pass own.of_cells made.0 in
      record {
        of_cells = subst (λ (l : List (TurnCell S E F)). AreOf l passes') (sym ec) (subst (λ (l : List (Pass S E F)). AreOf (cells ++ cell ∷ []) l) (sym ep) of);
        numbered = All-same (λ (p : Pass S E F). number p ≡ n) passes' (passes ++ pass ∷ []) ep (All-push (λ (p : Pass S E F). number p ≡ n) passes pass own.numbered made.1.0);
      }

  pub dealt_more : (before after : Group S E F) (cell : TurnCell S E F) (a b c : Pass S E F) → AreDealt before → IsMade cell 0 a × IsMade cell 1 b × IsMade cell 2 c →
      after.cells.items ≡ before.cells.items ++ cell ∷ [] → after.tasks.items ≡ before.tasks.items ++ a ∷ [] → after.first.items ≡ before.first.items ++ b ∷ [] → after.second.items ≡ before.second.items ++ c ∷ [] →
      AreDealt after
  dealt_more before after cell a b c dealt made ec ea eb es = record {
    tasks = own_more 0 before.cells.items after.cells.items before.tasks.items after.tasks.items cell a dealt.tasks made.0 ec ea;
    first = own_more 1 before.cells.items after.cells.items before.first.items after.first.items cell b dealt.first made.1 ec eb;
    second = own_more 2 before.cells.items after.cells.items before.second.items after.second.items cell c dealt.second made.2 ec es;
    new = All-same (λ (p : Pass S E F). mine p ≡ []) after.tasks.items (before.tasks.items ++ a ∷ []) ea (All-push (λ (p : Pass S E F). mine p ≡ []) before.tasks.items a dealt.new made.0.1.2);
  }

  -- One more cell was made with a state of which this holds.
  pub one_more_made : (Holds : S → Type 0) (many more : ℕ) (state : S) (before after : Group S E F) → AreMade Holds many before → AreDealt after →
      HasMore state before.cells.items after.cells.items → Holds state → more ≡ many + 1 → AreMade Holds more after
  one_more_made Holds many more state before after made dealt (cell, is, opened) holds next =
      let count = made.count in let l : length after.cells.items ≡ length before.cells.items + 1 = ap length is ∙ length_push before.cells.items cell in
      record {
        dealt = dealt;
        count = omega arith;
        states = All-same (λ (c : TurnCell S E F). Holds (opened_with c)) after.cells.items (before.cells.items ++ cell ∷ []) is
            (All-push (λ (c : TurnCell S E F). Holds (opened_with c)) before.cells.items cell made.states (subst Holds (sym opened) holds));
      }
