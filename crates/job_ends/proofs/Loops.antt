-- The passes of a loop, where that at a place was settled with a task's.
use Rattle.std.proofs.Common.{◌≡◌, ℕ, true, false, true≢false, ◌<◌, ◌≤◌, inl, inr, length-append, append_assoc, Option, List, [], ◌∷◌, ◌++◌, length, get_or, set, refl, sym, ap, subst, ◌∙◌, arith, append-nil}
use Rattle.std.specs.Prelude.{slice_get, Some, ◌↔◌}
use Rattle.std.specs.List.{refill}
use Rattle.std.specs.Option.{option_map_or}
use Rattle.std.proofs.lemmas.Bool.{cases_lt}
use Rattle.std.proofs.lemmas.Option.{slice_get_within}
use Rattle.record_writer.specs.Writers.{place_of}
use Rattle.turn_cell.specs.declared.cell.TurnCell.{TurnCell}
use Rattle.turn_cell.specs.declared.pass.Pass.{Pass}
use Rattle.turn_cell.specs.History.{StartsWith, by}
use Rattle.turn_cell.specs.Passes.{IsPassOf, IsSamePass, number, seen, mine}
use Rattle.turn_cell.proofs.Lists.{starts_on}
use Rattle.conn_parts.specs.Shares.{AreOwn, mine_at, seen_at}
use Rattle.conn_parts.proofs.Lists.{get_is}
use Rattle.conn_parts.proofs.Passes.{pass_at, number_at, are_own_lent, mine_here, seen_here, mine_same, seen_more}
use Rattle.job_ends.specs.Settling.{HaveSettled, GoOn, IsTaskAt, AreTaskAt, SettledAt}
use Rattle.flow_defs.proofs.Lists.{refilled_set}

module _ {S E F : Type 0} (cells : List (TurnCell S E F)) (passes list : List (Pass S E F)) (k : ℕ) (cell : TurnCell S E F) (pass : Pass S E F)
    (own : AreOwn 1 cells passes) (same : list ≡ passes) (within : k < length cells) (is_cell : cell ≡ get_or cells k cell) (is_pass : pass ≡ get_or list k pass) where
  is_pass_here : pass ≡ get_or passes k pass
  is_pass_here = is_pass ∙ ap (λ l. get_or l k pass) same

  many : k < length passes
  many = let m = own.of_cells.many in omega (arith, within, m)

  pub loop_pass : IsPassOf cell (get_or list k pass)
  loop_pass = subst (λ (p : Pass S E F). IsPassOf cell p) is_pass (pass_at cells passes k cell pass own.of_cells within is_cell is_pass_here)

  pub loop_number : number pass ≡ 1
  loop_number = number_at 1 cells passes k pass own within is_pass_here

  same_cell : (x : TurnCell S E F) → slice_get cells k ≡ Some x → x ≡ cell
  same_cell x at = let here = get_is cells k cell within is_cell in some_same x cell (slice_get cells k) at here
    where
      some_same : (x y : TurnCell S E F) (m : _) → m ≡ Some x → m ≡ Some y → x ≡ y
      some_same x y m e f = cc

  pub task_pass : (p : Pass S E F) → IsTaskAt cells k p → IsPassOf cell p
  task_pass p t = subst (λ (x : TurnCell S E F). IsPassOf x p) (same_cell t.0 t.1) t.2

  pub loops_after : (after : Pass S E F) → IsPassOf cell after → IsSamePass (get_or list k pass) after → AreOwn 1 cells (refill (length passes) passes (set list k after))
  loops_after after is s = are_own_lent 1 cells passes list k cell after same own within is_cell is (s.0 ∙ ap (λ (p : Pass S E F). number p) (sym is_pass) ∙ loop_number)

  pub loops_go_on : (after : Pass S E F) → IsSamePass (get_or list k pass) after → StartsWith (seen after) (seen (get_or list k pass)) → GoOn passes (refill (length passes) passes (set list k after))
  loops_go_on after s more =
      subst (GoOn passes) (sym (refilled_set passes list k after same)) (record {
        seen_more = seen_more passes k pass after many is_pass_here (subst (λ (p : Pass S E F). StartsWith (seen after) (seen p)) (sym is_pass) more);
        same = mine_same passes k pass after many is_pass_here (s.1 ∙ ap (λ (p : Pass S E F). mine p) (sym is_pass));
      })

  pub settled_here : (stands : S → List (ℕ × E) → Type 0) (p : Pass S E F) → IsTaskAt cells k p → HaveSettled stands p (get_or list k pass) →
      SettledAt stands (mine p) (seen p) (mine_at k passes) (seen_at k passes)
  settled_here stands p t settled = let h = subst (HaveSettled stands p) (sym is_pass) settled in record {
    state = h.state;
    history = h.history;
    stands_for = h.stands_for;
    of_task = ap (λ (n : ℕ). by n h.history) (sym t.3) ∙ h.of_a;
    later_task = h.later_a;
    of_loop = ap (λ (n : ℕ). by n h.history) (sym loop_number) ∙ h.of_b ∙ sym (mine_here passes k pass many is_pass_here);
    later_loop = subst (StartsWith h.history) (sym (seen_here passes k pass many is_pass_here)) h.later_b;
  }

-- ---- the channels of a task, from the last to the first

pub go_on_nothing : {S E F : Type 0} (passes : List (Pass S E F)) → GoOn passes passes
go_on_nothing passes = record { seen_more = λ k. ([], sym (append-nil (seen_at k passes))); same = λ k. refl }

pub go_on_again : {S E F : Type 0} (a b c : List (Pass S E F)) → GoOn a b → GoOn b c → GoOn a c
go_on_again a b c s t = record {
  seen_more = λ k. starts_on (seen_at k c) (seen_at k b) (seen_at k a) (t.seen_more k) (s.seen_more k);
  same = λ k. t.same k ∙ s.same k;
}

pub get_behind : {X : Type 0} (xs : List X) (x : X) (ys : List X) → slice_get (xs ++ x ∷ ys) (length xs) ≡ Some x
get_behind [] x ys = refl
get_behind (y ∷ xs) x ys = get_behind xs x ys

module _ {S E F : Type 0} (cells : List (TurnCell S E F)) (first stride : ℕ) (entry old new more : List (Pass S E F)) (pass : Pass S E F)
    (own : AreTaskAt cells first stride entry) (front : entry ≡ old ++ more) (popped : old ≡ new ++ pass ∷ []) where
  pub front_now : entry ≡ new ++ pass ∷ more
  front_now = front ∙ ap (λ l. l ++ more) popped ∙ append_assoc new (pass ∷ []) more

  stands_there : slice_get entry (length new) ≡ Some pass
  stands_there = ap (λ l. slice_get l (length new)) front_now ∙ get_behind new pass more

  pub task_there : IsTaskAt cells (place_of first stride (length new)) pass
  task_there = own (length new) pass stands_there

  pub place_within : place_of first stride (length new) < length cells
  place_within = slice_get_within cells (place_of first stride (length new)) task_there.0 task_there.1

  pub settled_more : (stands : S → List (ℕ × E) → Type 0) (before now : List (Pass S E F)) → GoOn before now →
      SettledAt stands (mine pass) (seen pass) (mine_at (place_of first stride (length new)) now) (seen_at (place_of first stride (length new)) now) →
      ((c : ℕ) → length old ≤ c → c < length entry → SettledAt stands (mine_at c entry) (seen_at c entry) (mine_at (place_of first stride c) before) (seen_at (place_of first stride c) before)) →
      (c : ℕ) → length new ≤ c → c < length entry → SettledAt stands (mine_at c entry) (seen_at c entry) (mine_at (place_of first stride c) before) (seen_at (place_of first stride c) before)
  settled_more stands before now go settled rest c low high = elim (cases_lt (length new) c) [
    | inl behind ↦ rest c (let len = ap length popped ∙ length-append new (pass ∷ []) in omega (arith, len, behind)) high
    | inr here ↦
        let same : length new ≡ c = omega (arith, low, here) in
        let p : ℕ = place_of first stride (length new) in
        subst (λ (k : ℕ). SettledAt stands (mine_at k entry) (seen_at k entry) (mine_at (place_of first stride k) before) (seen_at (place_of first stride k) before)) same (record {
          state = settled.state;
          history = settled.history;
          stands_for = settled.stands_for;
          of_task = settled.of_task ∙ sym (ap (λ (o : Option (Pass S E F)). option_map_or (λ (q : Pass S E F). mine q) o []) stands_there);
          later_task = subst (StartsWith settled.history) (sym (ap (λ (o : Option (Pass S E F)). option_map_or (λ (q : Pass S E F). seen q) o []) stands_there)) settled.later_task;
          of_loop = settled.of_loop ∙ go.same p;
          later_loop = starts_on settled.history (seen_at p now) (seen_at p before) settled.later_loop (go.seen_more p);
        })
  ]

-- A list from which nothing is popped is empty.
pub none_left : {X : Type 0} (xs : List X) → ((false ≡ true) ↔ (0 < length xs)) → length xs ≤ 0
none_left [] e = omega arith
none_left (x ∷ xs) e = absurd (true≢false (sym (e.1 (omega arith))))
