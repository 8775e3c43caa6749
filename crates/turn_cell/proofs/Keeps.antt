-- How the rule of a cell stands again after a step.
use Rattle.std.proofs.Common.{◌≡◌, ◌≢◌, ℕ, ◌+◌, ◌%◌, ◌^◌, ◌<◌, ◌≤◌, ◌⊎◌, inl, inr, ⊎_elim, Bool, true, cond, List, [], length, get_or, set, refl, ap, subst, arith, Option}
use mathlib.Core.Option as may
use lib.ListN.{get_elem?}
use Rattle.atomic_table.specs.Table.{State}
use Rattle.atomic_table.proofs.Lists.{at_set}
use Rattle.turn_cell.specs.declared.rule.View.{View}
use Rattle.turn_cell.specs.declared.rule.Opening.{Opening}
use Rattle.turn_cell.specs.declared.rule.Stage.{Stage}
use Rattle.turn_cell.specs.declared.rule.Stage.TheVariants.{Away, Waits, Turns}
use Rattle.turn_cell.specs.History.{by, told, seen_by}
use Rattle.turn_cell.specs.Rule.{total, is_number, one_if, is_turn, is_waiting, ticket_of, tickets_of, weight, bears, has_ticket, at_ticket, turning, Stands, Counts, Knows, Home, Kept}
use Rattle.turn_cell.proofs.Lists.{same_number, total-set, total-le, total-alone}

module _ {E : Type 0} (log : List (ℕ × E)) (drawn served : ℕ) where
  -- what the stage says, where it is known
  pub waits_here : (live : Bool) (seen : List (ℕ × E)) (st : Stage) (t : ℕ) → st ≡ Waits t → Stands log drawn served live seen st → (live ≡ true) × (served ≤ t) × (t < drawn)
  waits_here live seen st t e k = subst (Stands log drawn served live seen) e k

  pub turns_here : (live : Bool) (seen : List (ℕ × E)) (st : Stage) (t : ℕ) → st ≡ Turns t → Stands log drawn served live seen st → (live ≡ true) × (t ≡ served) × (t < drawn) × (seen ≡ log)
  turns_here live seen st t e k = subst (Stands log drawn served live seen) e k

  -- a pass has one ticket at most
  pub holds_one : (live : Bool) (seen : List (ℕ × E)) (st : Stage) → Stands log drawn served live seen st → tickets_of st ≤ one_if live
  holds_one live seen Away k = omega arith
  holds_one live seen (Waits u) k = let e : one_if live ≡ 1 = ap (λ b. one_if b) k.0 in omega arith
  holds_one live seen (Turns u) k = let e : one_if live ≡ 1 = ap (λ b. one_if b) k.0 in omega arith

pub turn_is : (st : Stage) → is_turn st ≡ true → st ≡ Turns (ticket_of st)
turn_is Away e = absurd (cc)
turn_is (Waits u) e = absurd (cc)
turn_is (Turns u) e = refl

pub turning_is : (st : Stage) → 1 ≤ one_if (is_turn st) → is_turn st ≡ true
turning_is Away e = absurd (omega arith)
turning_is (Waits u) e = absurd (omega arith)
turning_is (Turns u) e = refl

pub waiting_is : (st : Stage) → is_waiting st ≡ true → st ≡ Waits (ticket_of st)
waiting_is Away e = absurd (cc)
waiting_is (Waits u) e = refl
waiting_is (Turns u) e = absurd (cc)

module _ {A E : Type 0} where
  -- a live seat has a pass of its own number
  pub bears_own : (v : View A E) → v.live ≡ true → 1 ≤ bears v.number v
  bears_own v live = let a : cond v.live (is_number v.number v.number) 0 ≡ is_number v.number v.number = ap (λ b. cond b (is_number v.number v.number) 0) live in
      let b = same_number v.number v.number refl in omega arith

module _ {S F E : Type 0} (stands : S → List (ℕ × E) → Type 0) (fixed : S → F) where
  abbrev V : Type 0
  V = View (Opening S) E

  abbrev St : Type 0
  St = State (Option S) V

  abbrev Rule : St → Type 0
  Rule = Kept stands fixed

  -- the view of one seat changes, and the history, the tickets and the slot with it
  pub changed : (s : St) (r : Rule s) (id : ℕ) (v w : V) → get_elem? s.views id ≡ may.some v → ((k : ℕ) → bears k w ≡ bears k v) → weight w ≡ weight v
      → (moments : List (ℕ × Option E)) (drawn served : ℕ) (words : List ℕ) (homes : List (may.Option (Option S)))
      → length words ≡ 19 → get_or words 0 0 ≡ drawn % 2 ^ 64 → get_or words 1 0 ≡ served % 2 ^ 64 → Counts (get_or words 18 0) (told moments)
      → drawn ≡ served + total (λ (x : V). has_ticket x) (set s.views id w)
      → ((k : ℕ) → r.made ≤ k → (by k (told moments) ≡ []) × (seen_by k moments ≡ []))
      → ((t : ℕ) → total (λ (x : V). at_ticket t x) (set s.views id w) ≤ 1)
      → ((j : ℕ) (u : V) → j ≢ id → get_elem? s.views j ≡ may.some u → Knows moments r.base drawn served r.made u)
      → Knows moments r.base drawn served r.made w
      → Home stands fixed r.base (told moments) homes ⊎ (1 ≤ total (λ (x : V). turning x) (set s.views id w))
      → Rule record { words = words; homes = homes; views = set s.views id w }
  changed s r id v w at same_bears same_weight moments drawn served words homes wide next serving news counted numbered ticketed others own slot = record {
    moments = moments;
    base = r.base;
    drawn = drawn;
    served = served;
    made = r.made;
    wide = wide;
    next = next;
    serving = serving;
    news = news;
    few = r.few;
    fits = r.fits;
    counted = counted;
    passed = (let a = total-set (λ (x : V). weight x) s.views id v w at in let p = r.passed in omega arith);
    numbered = numbered;
    apart = λ k. let a = total-set (λ (x : V). bears k x) s.views id v w at in let p = r.apart k in let e = same_bears k in omega arith;
    ticketed = ticketed;
    each = λ i u e. ⊎_elim
        (λ (p : (i ≡ id) × (w ≡ u)). subst (Knows moments r.base drawn served r.made) p.1 own)
        (λ (p : (i ≢ id) × (get_elem? s.views i ≡ may.some u)). others i u p.0 p.1)
        (at_set s.views id i w u e);
    slot = slot;
  }

  -- the seats change, and the history, the tickets and the slot stay
  pub rearranged : (s : St) (r : Rule s) (views : List V) (made : ℕ) → r.made ≤ made → made ≤ r.base.passes
      → total (λ (x : V). has_ticket x) views ≡ total (λ (x : V). has_ticket x) s.views
      → total (λ (x : V). weight x) views ≤ made
      → ((k : ℕ) → total (λ (x : V). bears k x) views ≤ 1)
      → ((t : ℕ) → total (λ (x : V). at_ticket t x) views ≤ total (λ (x : V). at_ticket t x) s.views)
      → total (λ (x : V). turning x) s.views ≤ total (λ (x : V). turning x) views
      → ((i : ℕ) (u : V) → get_elem? views i ≡ may.some u → Knows r.moments r.base r.drawn r.served made u)
      → Rule record { words = s.words; homes = s.homes; views = views }
  rearranged s r views made grows fits tickets passed apart ticketed turns each = record {
    moments = r.moments;
    base = r.base;
    drawn = r.drawn;
    served = r.served;
    made = made;
    wide = r.wide;
    next = r.next;
    serving = r.serving;
    news = r.news;
    few = r.few;
    fits = fits;
    counted = (let c = r.counted in omega arith);
    passed = passed;
    numbered = λ k m. r.numbered k (omega arith);
    apart = apart;
    ticketed = λ t. let a = r.ticketed t in let b = ticketed t in omega arith;
    each = each;
    slot = ⊎_elim (λ h. inl h) (λ (o : 1 ≤ total (λ (x : V). turning x) s.views). inr (omega arith)) r.slot;
  }

  -- fewer than 2^32 tickets are out
  pub few_out : (s : St) (r : Rule s) → r.drawn < r.served + 4294967296
  few_out s r =
      let a = total-le (λ (x : V). has_ticket x) (λ (x : V). weight x) s.views (λ i v e. let h = holds_one (told r.moments) r.drawn r.served v.live v.seen v.stage (r.each i v e).stage in omega arith) in
      let p = r.passed in let c = r.counted in let f = r.few in let m = r.fits in omega arith

  -- two seats with one number are one
  pub one_seat : (s : St) (r : Rule s) (i j : ℕ) (v w : V) → get_elem? s.views i ≡ may.some v → get_elem? s.views j ≡ may.some w → v.live ≡ true → 1 ≤ bears v.number w → i ≡ j
  one_seat s r i j v w at_v at_w live has = total-alone (λ (x : V). bears v.number x) s.views i j v w (r.apart v.number) at_v at_w (bears_own v live) has

  -- two seats with one ticket are one
  pub one_ticket : (s : St) (r : Rule s) (t i j : ℕ) (v w : V) → get_elem? s.views i ≡ may.some v → get_elem? s.views j ≡ may.some w → at_ticket t v ≡ 1 → at_ticket t w ≡ 1 → i ≡ j
  one_ticket s r t i j v w at_v at_w a b = total-alone (λ (x : V). at_ticket t x) s.views i j v w (r.ticketed t) at_v at_w (omega arith) (omega arith)
