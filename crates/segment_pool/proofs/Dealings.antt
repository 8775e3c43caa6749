-- What a turn at a pool's cell makes of its stock.
use Rattle.std.proofs.Common.{◌≡◌, ℕ, ◌+◌, ◌<◌, ◌≤◌, List, [], ◌∷◌, ◌++◌, length, get_or, sym, ap, ◌∙◌, subst, arith, length-append, Some}
use Rattle.std.specs.List.{sum_by}
use Rattle.std.proofs.lemmas.List.Elements.{All-pop, All-push, All-same}
use Rattle.std.proofs.lemmas.List.Sums.{sum_by_push}
use Rattle.flow_defs.specs.Items.{Items}
use Rattle.turn_cell.proofs.Lists.{by-longer, by-longer-own}
use Rattle.turn_cell.specs.declared.cell.TurnCell.{TurnCell}
use Rattle.turn_cell.specs.declared.pass.Pass.{Pass}
use Rattle.turn_cell.specs.History.{by}
use Rattle.turn_cell.specs.Passes.{IsTurnOf, IsSamePass, IsStateOf, number, seen, mine, opened_with}
use mathlib.Core.Logic.{dite}
use native.Mathlib.Decide.{ℕ_discrete}
use Rattle.segment_pool.specs.declared.stock.Stock.{Stock}
use Rattle.segment_pool.specs.declared.stock.Terms.{Terms}
use Rattle.segment_pool.specs.declared.stock.Dealing.{Dealing}
use Rattle.segment_pool.specs.declared.stock.Dealing.TheVariants.{Claimed, Given}
use Rattle.segment_pool.specs.Counting.{is_claim, is_give, balance, lent_in}
use Rattle.segment_pool.specs.Stocks.{StockStandsFor, IsWithin}
use Rattle.segment_pool.proofs.Counting.{balance_is_lent, gives_no_more, below_limit, balance_claimed, balance_given}

module _ (stock : Stock) (h : List (ℕ × Dealing)) (stands : StockStandsFor stock h) (n : ℕ) where
  abbrev limits : List ℕ
  limits = stock.terms.limits.items

  abbrev IsSized : List ℕ → Type 0
  IsSized segment = length segment ≡ stock.terms.size

  pub out_is_lent : balance (by n h) ≤ lent_in h
  out_is_lent = balance_is_lent limits h stands.within n

  pub lent_is_few : lent_in h ≤ stock.terms.total
  lent_is_few = let count = stands.count in omega arith

  pub some_is_free : 0 < length limits → balance (by n h) < get_or limits n 0 → 0 < length stock.free.items
  some_is_free some below = let lent = below_limit limits h stands.within some n below in let few = stands.legal.2 in let count = stands.count in omega arith

  pub has_room : 0 < balance (by n h) → 0 < stock.free.room
  has_room some = let lent = out_is_lent in let count = stands.count in let room = stands.room in omega arith

  -- a claim keeps to the rules
  within_claimed : (0 < length limits → balance (by n h) < get_or limits n 0) → (k : ℕ) → IsWithin limits k (by k (h ++ (n, Claimed) ∷ []))
  within_claimed below k = dite (ℕ_discrete k n)
      (λ e. subst (λ j. IsWithin limits j (by j (h ++ (n, Claimed) ∷ []))) (sym e) (subst (IsWithin limits n) (sym (by-longer-own n h (Claimed ∷ [])))
      (let fair = (stands.within n).0 in let c = sum_by_push is_claim (by n h) Claimed in let g = sum_by_push is_give (by n h) Claimed in (
        omega arith,
        λ some. let b = below some in omega arith,
      ))))
      (λ ne. subst (IsWithin limits k) (sym (by-longer k n h (Claimed ∷ []) ne)) (stands.within k))

  -- so does a gift of a pass that has a segment out
  within_given : 0 < balance (by n h) → (k : ℕ) → IsWithin limits k (by k (h ++ (n, Given) ∷ []))
  within_given out k = dite (ℕ_discrete k n)
      (λ e. subst (λ j. IsWithin limits j (by j (h ++ (n, Given) ∷ []))) (sym e) (subst (IsWithin limits n) (sym (by-longer-own n h (Given ∷ [])))
      (let within = stands.within n in let c = sum_by_push is_claim (by n h) Given in let g = sum_by_push is_give (by n h) Given in (
        omega arith,
        λ some. let b = within.1 some in omega arith,
      ))))
      (λ ne. subst (IsWithin limits k) (sym (by-longer k n h (Given ∷ []) ne)) (stands.within k))

  pub claimed : (free : Items (List ℕ)) (segment : List ℕ) → stock.free.items ≡ free.items ++ segment ∷ [] → free.room ≡ stock.free.room + 1
      → (0 < length limits → balance (by n h) < get_or limits n 0) → StockStandsFor (record { terms = stock.terms; free = free }) (h ++ (n, Claimed) ∷ [])
  claimed free segment items room below =
      let fewer = ap length items in let one = length-append free.items (segment ∷ []) in let count = stands.count in let places = stands.room in
      let fair = gives_no_more limits h stands.within in let c = sum_by_push (λ (e : ℕ × Dealing). is_claim e.1) h (n, Claimed) in let g = sum_by_push (λ (e : ℕ × Dealing). is_give e.1) h (n, Claimed) in record {
        legal = stands.legal;
        within = within_claimed below;
        count = omega arith;
        sizes = (All-pop IsSized stock.free.items free.items (Some segment) items stands.sizes).0;
        room = omega arith;
      }

  pub given : (free : Items (List ℕ)) (segment : List ℕ) → free.items ≡ stock.free.items ++ segment ∷ [] → stock.free.room ≤ free.room + 1 → length segment ≡ stock.terms.size
      → 0 < balance (by n h) → StockStandsFor (record { terms = stock.terms; free = free }) (h ++ (n, Given) ∷ [])
  given free segment items room size out =
      let more = ap length items in let one = length-append stock.free.items (segment ∷ []) in let count = stands.count in let places = stands.room in
      let lent = out_is_lent in let c = sum_by_push (λ (e : ℕ × Dealing). is_claim e.1) h (n, Given) in let g = sum_by_push (λ (e : ℕ × Dealing). is_give e.1) h (n, Given) in record {
        legal = stands.legal;
        within = within_given out;
        count = omega arith;
        sizes = All-same IsSized free.items (stock.free.items ++ segment ∷ []) items (All-push IsSized stock.free.items segment stands.sizes size);
        room = omega arith;
      }

-- what a pass finds at its turn
module _ (cell at_cell : TurnCell Stock Dealing Terms) (before at : Pass Stock Dealing Terms) (stock found : Stock) (turn : IsTurnOf at_cell at × (at_cell ≡ cell)) (same : IsSamePass before at)
    (state : IsStateOf StockStandsFor (λ (s : Stock). s.terms) at_cell (seen at) found) (is_found : stock ≡ found) where
  pub stands_for : StockStandsFor stock (seen at)
  stands_for = subst (λ s. StockStandsFor s (seen at)) (sym is_found) state.0

  pub on_terms : stock.terms ≡ (opened_with cell).terms
  on_terms = ap (λ (s : Stock). s.terms) is_found ∙ (state.1 ∙ ap (λ (c : TurnCell Stock Dealing Terms). (opened_with c).terms) turn.1)

  pub same_terms : stock.terms ≡ (opened_with at_cell).terms
  same_terms = ap (λ (s : Stock). s.terms) is_found ∙ state.1

  pub own : by (number at) (seen at) ≡ mine before
  own = turn.0.0.5 ∙ same.1

  -- a limit that the pass was below, it is below now
  pub still_below : (0 < length (opened_with cell).terms.limits.items → balance (mine before) < get_or (opened_with cell).terms.limits.items (number before) 0)
      → 0 < length stock.terms.limits.items → balance (by (number at) (seen at)) < get_or stock.terms.limits.items (number at) 0
  still_below below = subst (λ (t : Terms). 0 < length t.limits.items → balance (by (number at) (seen at)) < get_or t.limits.items (number at) 0) (sym on_terms)
      (λ some. subst (λ (n : ℕ). balance (by (number at) (seen at)) < get_or (opened_with cell).terms.limits.items n 0) (sym same.0)
      (subst (λ (es : List Dealing). balance es < get_or (opened_with cell).terms.limits.items (number before) 0) (sym own) (below some)))

  pub fair : sum_by is_give (mine before) ≤ sum_by is_claim (mine before)
  fair = subst (λ (es : List Dealing). sum_by is_give es ≤ sum_by is_claim es) own (stands_for.within (number at)).0

  pub few_out : balance (mine before) ≤ lent_in (seen at)
  few_out = subst (λ (es : List Dealing). balance es ≤ lent_in (seen at)) own (out_is_lent stock (seen at) stands_for (number at))

  pub counted : length stock.free.items + lent_in (seen at) ≡ (opened_with cell).terms.total
  counted = stands_for.count ∙ ap (λ (t : Terms). t.total) on_terms

  pub one_more_out : (after : Pass Stock Dealing Terms) → mine after ≡ mine at ++ Claimed ∷ [] → balance (mine after) ≡ balance (mine before) + 1
  one_more_out after entered = ap balance (entered ∙ ap (λ (es : List Dealing). es ++ Claimed ∷ []) same.1) ∙ balance_claimed (mine before) fair

  pub one_less_out : (after : Pass Stock Dealing Terms) → mine after ≡ mine at ++ Given ∷ [] → 0 < balance (mine before) → balance (mine before) ≡ balance (mine after) + 1
  one_less_out after entered some = balance_given (mine before) fair some ∙ ap (λ (es : List Dealing). balance es + 1) (sym (entered ∙ ap (λ (es : List Dealing). es ++ Given ∷ []) same.1))

  pub still_out : 0 < balance (mine before) → 0 < balance (by (number at) (seen at))
  still_out = subst (λ (es : List Dealing). 0 < balance (mine before) → 0 < balance es) (sym own) (λ some. some)
