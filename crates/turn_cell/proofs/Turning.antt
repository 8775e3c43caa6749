-- The steps of a turn keep the rule: a draw, a look, and an end.
use Rattle.std.proofs.Common.{min, le_refl, ◌≡◌, ◌≢◌, ℕ, ◌+◌, ◌%◌, ◌^◌, ◌<◌, ◌≤◌, ◌⊎◌, inl, inr, ⊎_elim, Bool, true, false, cond, List, [], ◌∷◌, ◌++◌, map, length, get_or, set, sym, refl, ap, ◌∙◌, subst, arith, length-set, length-append, append-nil, get_or-set_other, get_or-set_same, Option, None, Some}
use mathlib.Core.Logic.{dite}
use mathlib.Core.Option.{none, some, some-injective}
use native.Mathlib.Decide.{ℕ_discrete}
use lib.ListN.{get_elem?}
use lib.Seq.{set-get_or}
use Rattle.atomic_table.specs.Table.{State, Me, step, keeps, takes, gives, stepped, Allows}
use Rattle.atomic_table.proofs.Lists.{set_again, one_turn}
use Rattle.turn_cell.specs.declared.rule.View.{View}
use Rattle.turn_cell.specs.declared.rule.Past.{Past}
use Rattle.turn_cell.specs.declared.rule.Opening.{Opening}
use Rattle.turn_cell.specs.declared.rule.Stage.{Stage}
use Rattle.turn_cell.specs.declared.rule.Stage.TheVariants.{Away, Waits, Turns}
use Rattle.turn_cell.specs.Rule.{Has, total, is_number, one_if, is_turn, is_waiting, ticket_of, tickets_of, ticket_is, bears, has_ticket, at_ticket, turning, waits, turns, enters, leaves, having_looked, Stands, Counts, IsGone, Knows, IsGood, Home, Kept, looked, drew, counted, glanced, entered, left, stirred}
use Rattle.turn_cell.specs.History.{by, told, seen_by}
use Rattle.std.proofs.Math.Decide.{dec_lt}
use Rattle.std.proofs.Math.Nat.{min-eq_left, min-eq_right}
use Rattle.std.proofs.lemmas.Option.{same_Some}
use Rattle.turn_cell.proofs.Lists.{same_number, other_number, by-longer, by-longer-own, starts_itself, starts_longer, starts_whole, seen_by-own, seen_by-other, total-set, total-none, total-has, total-some, one_home}
use Rattle.turn_cell.proofs.Keeps.{waits_here, turns_here, turn_is, turning_is, waiting_is, bears_own, changed, few_out, one_seat, one_ticket}

module _ {E : Type 0} (log : List (ℕ × E)) (drawn served : ℕ) where
  -- the next ticket is above all that are out
  not_drawn : (live : Bool) (seen : List (ℕ × E)) (st : Stage) → Stands log drawn served live seen st → ticket_is drawn st ≡ 0
  not_drawn live seen Away k = refl
  not_drawn live seen (Waits u) k = let b = k.2 in other_number drawn u (λ e. omega arith)
  not_drawn live seen (Turns u) k = let b = k.2 in other_number drawn u (λ e. omega arith)

  more_drawn : (live : Bool) (seen : List (ℕ × E)) (st : Stage) → Stands log drawn served live seen st → Stands log (drawn + 1) served live seen st
  more_drawn live seen Away k = tt
  more_drawn live seen (Waits u) k = let b = k.2 in (k.0, k.1, omega arith)
  more_drawn live seen (Turns u) k = let b = k.2 in (k.0, k.1, omega arith, k.3)

  -- a pass that has not the ticket that is served stands as it did once that ticket is past
  others_stand : (log' : List (ℕ × E)) (live : Bool) (seen : List (ℕ × E)) (st : Stage) → ticket_is served st ≢ 1 → Stands log drawn served live seen st → Stands log' drawn (served + 1) live seen st
  others_stand log' live seen Away not k = tt
  others_stand log' live seen (Waits u) not k = let a = k.1 in let ne : served ≢ u = λ e. not (same_number served u e) in (k.0, omega arith, k.2)
  others_stand log' live seen (Turns u) not k = absurd (not (same_number served u (sym k.1)))

  -- and while it has its turn the history may grow
  others_go_on : (log' : List (ℕ × E)) (live : Bool) (seen : List (ℕ × E)) (st : Stage) → ticket_is served st ≢ 1 → Stands log drawn served live seen st → Stands log' drawn served live seen st
  others_go_on log' live seen Away not k = tt
  others_go_on log' live seen (Waits u) not k = k
  others_go_on log' live seen (Turns u) not k = absurd (not (same_number served u (sym k.1)))

module _ {A : Type 0} where
  -- one more is counted
  pub counts_more : (n m : ℕ) (h : List A) (x : A) → Counts n h → m ≡ min (n + 1) 18446744073709551615 → Counts m (h ++ x ∷ [])
  counts_more n m h x c e = let l = length-append h (x ∷ []) in let small = c.0 in dite (dec_lt (n + 1) 18446744073709551616)
      (λ low. let is = c.1 low in let a : m ≡ n + 1 = e ∙ min-eq_left (omega arith) in (omega arith, λ _. omega arith))
      (λ high. let a : m ≡ 18446744073709551615 = e ∙ min-eq_right (omega arith) in (omega arith, λ less. absurd (omega arith)))

module _ {S F E : Type 0} (stands : S → List (ℕ × E) → Type 0) (fixed : S → F) where
  abbrev V : Type 0
  V = View (Opening S) E

  abbrev St : Type 0
  St = State (Option S) V

  abbrev M : Type 0
  M = Me (Option S) V

  abbrev Rule : St → Type 0
  Rule = Kept stands fixed

  -- another word changes, and the word that counts stays
  recount : (s : St) (r : Rule s) (i n : ℕ) → 18 ≢ i → Counts (get_or (set s.words i n) 18 0) (told r.moments)
  recount s r i n ne = subst (λ k. Counts k (told r.moments)) (sym (get_or-set_other s.words i 18 n 0 ne)) r.news

  -- two seats that live have two numbers
  differ : (s : St) (r : Rule s) (id : ℕ) (v : V) → get_elem? s.views id ≡ some v → v.live ≡ true → (j : ℕ) (u : V) → j ≢ id → get_elem? s.views j ≡ some u → (n : ℕ) → 1 ≤ bears n u → n ≢ v.number
  differ s r id v at live j u ne e n has same_one = ne (sym (one_seat stands fixed s r id j v u at e live (subst (λ z. 1 ≤ bears z u) same_one has)))

  -- and so have a seat that lives and a pass that another took in
  gone_differs : (u : V) (v : V) → ((n : ℕ) → 1 ≤ bears n u → n ≢ v.number) → (p : Past E) → Has p u.gathered → p.number ≢ v.number
  gone_differs u v differs p has = let a = total-has (λ (q : Past E). is_number p.number q.number) u.gathered p has in let b = same_number p.number p.number refl in differs p.number (omega arith)

  -- a look of one pass changes nothing for the others
  past_look : (s : St) (r : Rule s) (id : ℕ) (v : V) → get_elem? s.views id ≡ some v → v.live ≡ true → (j : ℕ) (u : V) → j ≢ id → get_elem? s.views j ≡ some u → Knows ((v.number, None) ∷ r.moments) r.base r.drawn r.served r.made u
  past_look s r id v at live j u ne e = let o = r.each j u e in let differs = differ s r id v at live j u ne e in record {
    prefix = o.prefix;
    mine = o.mine;
    sights = λ l. seen_by-other u.number v.number r.moments (differs u.number (bears_own u l)) ∙ o.sights l;
    below = o.below;
    about = o.about;
    making = o.making;
    gone = λ p has. let g = o.gone p has in record { prefix = g.prefix; mine = g.mine; sights = seen_by-other p.number v.number r.moments (gone_differs u v differs p has) ∙ g.sights; below = g.below };
    stage = o.stage;
  }

  -- none with a number from `made` on has looked
  none_looked : (s : St) (r : Rule s) (v : V) → v.number < r.made → (k : ℕ) → r.made ≤ k → (by k (told r.moments) ≡ []) × (seen_by k ((v.number, None) ∷ r.moments) ≡ [])
  none_looked s r v below k high = let n = r.numbered k high in (n.0, seen_by-other k v.number r.moments (λ e. omega arith) ∙ n.1)

  pub draws : (slots id : ℕ) (m : M) → m.0.stage ≡ Away → m.0.live ≡ true → Allows Rule slots id m 0 (λ n. (n + 1) % 18446744073709551616) (drew (step slots 0 1 0 none) m)
  draws slots id m away live s r len at small =
      let v : V = m.0 in let w : V = waits v r.drawn in let k = r.each id v at in let wide = r.wide in let next = r.next in
      let word : ℕ = (get_or s.words 0 0 + 1) % 18446744073709551616 in
      let sum = total-set (λ (x : V). has_ticket x) s.views id v w at in let none_yet : has_ticket v ≡ 0 = ap tickets_of away in let c = r.counted in (
        w,
        keeps,
        tt,
        changed stands fixed s r id v w at (λ n. refl) refl r.moments (r.drawn + 1) r.served (set s.words 0 word) s.homes
            (length-set s.words 0 word ∙ wide)
            (get_or-set_same s.words 0 word 0 (omega arith) ∙ (omega arith))
            (get_or-set_other s.words 0 1 word 0 (λ e. omega arith) ∙ r.serving)
            (recount s r 0 word (λ e. omega arith))
            (omega arith)
            r.numbered
            (λ t. let a = total-set (λ (x : V). at_ticket t x) s.views id v w at in let had : at_ticket t v ≡ 0 = ap (ticket_is t) away in let old = r.ticketed t in
            dite (ℕ_discrete t r.drawn)
            (λ e. let free = total-none (λ (x : V). at_ticket t x) s.views (λ i u f. ap (λ n. ticket_is n u.stage) e ∙ not_drawn (told r.moments) r.drawn r.served u.live u.seen u.stage (r.each i u f).stage) in let one = same_number t r.drawn e in omega arith)
            (λ ne. let zero = other_number t r.drawn ne in omega arith))
            (λ j u ne e. let o = r.each j u e in record { prefix = o.prefix; mine = o.mine; sights = o.sights; below = o.below; about = o.about; making = o.making; gone = o.gone; stage = more_drawn (told r.moments) r.drawn r.served u.live u.seen u.stage o.stage })
            (record { prefix = k.prefix; mine = k.mine; sights = k.sights; below = k.below; about = k.about; making = k.making; gone = k.gone; stage = (live, omega arith, omega arith) })
            (⊎_elim (λ h. inl h) (λ (o : 1 ≤ total (λ (x : V). turning x) s.views). let b = total-set (λ (x : V). turning x) s.views id v w at in let z : turning v ≡ 0 = ap (λ st. one_if (is_turn st)) away in inr (omega arith)) r.slot),
        (r.drawn, r.next, refl),
      )

  -- a pass that waits for the ticket that is served finds the state at home
  at_home : (s : St) (r : Rule s) (id : ℕ) (v : V) → get_elem? s.views id ≡ some v → v.stage ≡ Waits r.served → Home stands fixed r.base (told r.moments) s.homes
  at_home s r id v at waiting = ⊎_elim (λ h. h) (λ (out : 1 ≤ total (λ (x : V). turning x) s.views).
      let o = total-some (λ (x : V). turning x) s.views out in let i : ℕ = o.0 in let u : V = o.1 in
      let on : u.stage ≡ Turns (ticket_of u.stage) = turn_is u.stage (turning_is u.stage o.3) in
      let k = turns_here (told r.moments) r.drawn r.served u.live u.seen u.stage (ticket_of u.stage) on (r.each i u o.2).stage in
      let here : u.stage ≡ Turns r.served = on ∙ ap Turns k.1 in
      let one = same_number r.served r.served refl in
      let same : i ≡ id = one_ticket stands fixed s r r.served i id u v o.2 at (ap (ticket_is r.served) here ∙ one) (ap (ticket_is r.served) waiting ∙ one) in
      let eq : u ≡ v = some-injective u v (sym o.2 ∙ (ap (get_elem? s.views) same ∙ at)) in
      let no : Turns r.served ≡ Waits r.served = sym here ∙ (ap (λ (x : V). x.stage) eq ∙ waiting) in absurd (cc)) r.slot

  -- a step that finds nothing new
  unmoved : (s : St) (r : Rule s) (i id : ℕ) (m : M) → get_elem? s.views id ≡ some m.0 → Rule (stepped s i (get_or s.words i 0) id m.1 m.0 keeps)
  unmoved s r i id m at = subst (λ (z : List ℕ × List V). Rule record { words = z.0; homes = s.homes; views = z.1 }) (λ k. (sym (set-get_or s.words i 0) k, sym (set_again s.views id m.0 at) k)) r

  finds : (s : St) (r : Rule s) (id : ℕ) (m : M) → get_elem? s.views id ≡ some m.0 → m.1 ≡ [] → m.0.gathered ≡ [] → m.0.stage ≡ Waits r.served → (h : Home stands fixed r.base (told r.moments) s.homes)
      → Rule (stepped s 1 (get_or s.words 1 0) id m.1 (turns m.0 r.served (told r.moments)) (takes 0 (Some h.0)))
  finds s r id m at none_held none_in waiting h =
      let v : V = m.0 in let w : V = turns v r.served (told r.moments) in let k = r.each id v at in let st = waits_here (told r.moments) r.drawn r.served v.live v.seen v.stage r.served waiting k.stage in
      let sum = total-set (λ (x : V). has_ticket x) s.views id v w at in let one : has_ticket v ≡ 1 = ap tickets_of waiting in let c = r.counted in
      let out = total-set (λ (x : V). turning x) s.views id v w at in let before : turning v ≡ 0 = ap (λ z. one_if (is_turn z)) waiting in
      subst (λ (ws : List ℕ). Rule record { words = ws; homes = set s.homes 0 none; views = set s.views id w }) (sym (set-get_or s.words 1 0))
      (changed stands fixed s r id v w at (λ n. refl) refl ((v.number, None) ∷ r.moments) r.drawn r.served s.words (set s.homes 0 none) r.wide r.next r.serving r.news (omega arith)
      (none_looked s r v (k.below st.0))
      (λ t. let a = total-set (λ (x : V). at_ticket t x) s.views id v w at in let had : at_ticket t v ≡ is_number t r.served = ap (ticket_is t) waiting in let old = r.ticketed t in omega arith)
      (past_look s r id v at st.0)
      (record { prefix = starts_itself (told r.moments); mine = k.mine; sights = λ l. seen_by-own v.number v.number r.moments refl ∙ ap (λ z. z ++ told r.moments ∷ []) (k.sights l); below = k.below; about = k.about; making = k.making; gone = λ p has. absurd (subst (Has p) none_in has); stage = (st.0, refl, st.2, refl) })
      (inr (omega arith)))

  pub looks : (slots id : ℕ) (m : M) → is_waiting m.0.stage ≡ true → m.1 ≡ [] → m.0.gathered ≡ [] → Allows Rule slots id m 1 (λ n. n) (looked stands fixed (step slots 1 0 0 none) m)
  looks slots id m waiting none_held none_in s r len at small =
      let v : V = m.0 in let t : ℕ = ticket_of v.stage in let on : v.stage ≡ Waits t = waiting_is v.stage waiting in
      let k = r.each id v at in let st = waits_here (told r.moments) r.drawn r.served v.live v.seen v.stage t on k.stage in let few = few_out stands fixed s r in
      dite (ℕ_discrete (get_or s.words 1 0) (t % 18446744073709551616))
      (λ hit.
      let same : r.served ≡ t = one_turn r.served t 18446744073709551616 st.1 (omega arith) (sym r.serving ∙ hit) in
      let now : v.stage ≡ Waits r.served = on ∙ ap Waits (sym same) in
      let h = at_home s r id v at now in (
        turns v r.served (told r.moments),
        takes 0 (Some h.0),
        (ap (λ l. get_elem? l 0) h.1),
        finds s r id m at none_held none_in now h,
        (
          (λ _. (h.0, (told r.moments), r.base, (λ i. (turns v (same i) (told r.moments), (0, Some h.0) ∷ m.1)), k.about st.0, h.2, k.prefix, k.mine st.0)),
          λ miss. absurd (miss hit),
        ),
      ))
      (λ miss. (v, keeps, tt, unmoved s r 1 id m at, ((λ hit. absurd (miss hit)), λ _. refl)))

  -- the history is counted in a turn
  pub counts : (slots id : ℕ) (m : M) → is_turn m.0.stage ≡ true → Allows Rule slots id m 18 (λ n. n) (counted (step slots 18 0 0 none) m)
  counts slots id m in_turn s r len at small =
      let v : V = m.0 in let k = r.each id v at in let st = turns_here (told r.moments) r.drawn r.served v.live v.seen v.stage (ticket_of v.stage) (turn_is v.stage in_turn) k.stage in
      (v, keeps, tt, unmoved s r 18 id m at, (refl, subst (λ h. Counts (get_or s.words 18 0) h) (sym st.3) r.news))

  -- a look outside a turn, by a pass that has seen the whole history
  sees_all : (s : St) (r : Rule s) (id : ℕ) (m : M) → get_elem? s.views id ≡ some m.0 → m.0.live ≡ true → m.0.gathered ≡ [] → m.0.stage ≡ Away → told r.moments ≡ m.0.seen
      → Rule (stepped s 18 (get_or s.words 18 0) id m.1 (having_looked m.0 m.0.seen) keeps)
  sees_all s r id m at live none_in away all =
      let v : V = m.0 in let w : V = having_looked v v.seen in let k = r.each id v at in let c = r.counted in let sum = total-set (λ (x : V). has_ticket x) s.views id v w at in
      subst (λ (ws : List ℕ). Rule record { words = ws; homes = s.homes; views = set s.views id w }) (sym (set-get_or s.words 18 0))
      (changed stands fixed s r id v w at (λ n. refl) refl ((v.number, None) ∷ r.moments) r.drawn r.served s.words s.homes r.wide r.next r.serving r.news (omega arith)
      (none_looked s r v (k.below live))
      (λ t. let a = total-set (λ (x : V). at_ticket t x) s.views id v w at in let old = r.ticketed t in omega arith)
      (past_look s r id v at live)
      (record { prefix = k.prefix; mine = k.mine; sights = λ l. seen_by-own v.number v.number r.moments refl ∙ (λ i. k.sights l i ++ all i ∷ []); below = k.below; about = k.about; making = k.making; gone = λ p has. absurd (subst (Has p) none_in has); stage = k.stage })
      (⊎_elim (λ h. inl h) (λ (o : 1 ≤ total (λ (x : V). turning x) s.views). let b = total-set (λ (x : V). turning x) s.views id v w at in inr (omega arith)) r.slot))

  pub glances : (slots id : ℕ) (m : M) → m.0.live ≡ true → m.0.gathered ≡ [] → m.0.stage ≡ Away → Allows Rule slots id m 18 (λ n. n) (glanced (step slots 18 0 0 none) m)
  glances slots id m live none_in away s r len at small =
      let v : V = m.0 in let n : ℕ = get_or s.words 18 0 in let k = r.each id v at in
      let stays : ¬ ((n ≡ length v.seen) × (n + 1 < 18446744073709551616)) → (w : V) × (a : Rattle.atomic_table.specs.Table.Act (Option S)) × Rattle.atomic_table.specs.Table.Valid s.homes m.1 a × Rule (stepped s 18 n id m.1 w a) × glanced (step slots 18 0 0 none) m n (w, Rattle.atomic_table.specs.Table.carried_after m.1 a) = λ miss. (v, keeps, tt, unmoved s r 18 id m at, ((λ hit. absurd (miss hit)), λ _. refl)) in
      dite (ℕ_discrete n (length v.seen))
      (λ same. dite (dec_lt (n + 1) 18446744073709551616)
      (λ low. let all = starts_whole (told r.moments) v.seen k.prefix (sym (r.news.1 low) ∙ same) in
      (having_looked v v.seen, keeps, tt, sees_all s r id m at live none_in away all, ((λ _. refl), λ miss. absurd (miss (same, low)))))
      (λ high. stays (λ h. high h.1)))
      (λ other. stays (λ h. other h.0))

  -- an entry is in the history
  pub records : (e : E) (slots id n : ℕ) (m : M) → is_turn m.0.stage ≡ true → m.0.gathered ≡ [] → Counts n (m.0.seen ++ (m.0.number, e) ∷ [])
      → Allows Rule slots id m 18 (λ _. n) (λ _. entered e (step slots 18 n 0 none) m n)
  records e slots id n m in_turn none_in count s r len at small =
      let v : V = m.0 in let w : V = enters e v in let k = r.each id v at in let t : ℕ = ticket_of v.stage in
      let on : v.stage ≡ Turns t = turn_is v.stage in_turn in
      let st = turns_here (told r.moments) r.drawn r.served v.live v.seen v.stage t on k.stage in
      let live : v.live ≡ true = st.0 in
      let now : v.stage ≡ Turns r.served = on ∙ ap Turns st.1 in
      let same : v.seen ++ (v.number, e) ∷ [] ≡ told r.moments ++ (v.number, e) ∷ [] = ap (λ l. l ++ (v.number, e) ∷ []) st.3 in
      let below : v.number < r.made = k.below live in let c = r.counted in let wide = r.wide in
      let sum = total-set (λ (y : V). has_ticket y) s.views id v w at in
      let out = total-set (λ (y : V). turning y) s.views id v w at in let turns_now : turning v ≡ 1 = ap (λ z. one_if (is_turn z)) now in
      let has_turn = Rattle.turn_cell.proofs.Lists.total-at (λ (y : V). turning y) s.views id v at in
      let own : at_ticket r.served v ≡ 1 = ap (ticket_is r.served) now ∙ same_number r.served r.served refl in (
        w,
        keeps,
        tt,
        changed stands fixed s r id v w at (λ j. refl) refl ((v.number, Some e) ∷ r.moments) r.drawn r.served (set s.words 18 n) s.homes
            (length-set s.words 18 n ∙ wide)
            (get_or-set_other s.words 18 0 n 0 (λ q. omega arith) ∙ r.next)
            (get_or-set_other s.words 18 1 n 0 (λ q. omega arith) ∙ r.serving)
            (subst (λ (z : ℕ × List (ℕ × E)). Counts z.0 z.1) (λ i. (sym (get_or-set_same s.words 18 n 0 (omega arith)) i, same i)) count)
            (omega arith)
            (λ j high. let q = r.numbered j high in (by-longer j v.number (told r.moments) (e ∷ []) (λ is. omega arith) ∙ q.0, q.1))
            (λ z. let a = total-set (λ (y : V). at_ticket z y) s.views id v w at in let old = r.ticketed z in omega arith)
            (λ j u ne there. let o = r.each j u there in let differs = differ s r id v at live j u ne there in record {
              prefix = starts_longer (told r.moments) u.seen ((v.number, e) ∷ []) o.prefix;
              mine = λ l. by-longer u.number v.number (told r.moments) (e ∷ []) (differs u.number (bears_own u l)) ∙ o.mine l;
              sights = o.sights;
              below = o.below;
              about = o.about;
              making = o.making;
              gone = λ p has. let g = o.gone p has in record { prefix = starts_longer (told r.moments) p.seen ((v.number, e) ∷ []) g.prefix; mine = by-longer p.number v.number (told r.moments) (e ∷ []) (gone_differs u v differs p has) ∙ g.mine; sights = g.sights; below = g.below };
              stage = others_go_on (told r.moments) r.drawn r.served (told r.moments ++ (v.number, e) ∷ []) u.live u.seen u.stage (λ ticket. ne (one_ticket stands fixed s r r.served j id u v there at ticket own)) o.stage;
            })
            (record {
              prefix = ([], sym (append-nil (v.seen ++ (v.number, e) ∷ []) ∙ same));
              mine = λ l. by-longer-own v.number (told r.moments) (e ∷ []) ∙ ap (λ z. z ++ e ∷ []) (k.mine l);
              sights = k.sights;
              below = k.below;
              about = k.about;
              making = k.making;
              gone = λ p has. absurd (subst (Has p) none_in has);
              stage = subst (Stands (told r.moments ++ (v.number, e) ∷ []) r.drawn r.served v.live (v.seen ++ (v.number, e) ∷ [])) (sym now) (live, refl, (let b = st.1 in let d = st.2 in omega arith), same);
            })
            (inr (omega arith)),
        refl,
      )

  -- a turn ends
  pub ends : (slots id : ℕ) (m : M) (x : S) (base : Opening S) → slots ≡ 1 → m.1 ≡ (0, Some x) ∷ [] → is_turn m.0.stage ≡ true → m.0.about ≡ Some base
      → IsGood stands fixed base m.0.seen x
      → Allows Rule slots id m 1 (λ n. (n + 1) % 18446744073709551616) (left (step slots 1 1 0 none) m)
  ends slots id m x base one holds in_turn about good s r len at small =
      let v : V = m.0 in let w : V = leaves v in let k = r.each id v at in let t : ℕ = ticket_of v.stage in
      let on : v.stage ≡ Turns t = turn_is v.stage in_turn in
      let st = turns_here (told r.moments) r.drawn r.served v.live v.seen v.stage t on k.stage in
      let live : v.live ≡ true = st.0 in
      let now : v.stage ≡ Turns r.served = on ∙ ap Turns st.1 in
      let is : base ≡ r.base = same_Some base r.base (sym about ∙ k.about live) in
      let wide = r.wide in let serving = r.serving in
      let word : ℕ = (get_or s.words 1 0 + 1) % 18446744073709551616 in
      let sum = total-set (λ (y : V). has_ticket y) s.views id v w at in let had : has_ticket v ≡ 1 = ap tickets_of now in let c = r.counted in
      let own : at_ticket r.served v ≡ 1 = ap (ticket_is r.served) now ∙ same_number r.served r.served refl in
      subst (λ (held : List (ℕ × Option S)). (w' : V) × (a : Rattle.atomic_table.specs.Table.Act (Option S)) × Rattle.atomic_table.specs.Table.Valid s.homes held a × Rule (stepped s 1 word id held w' a) × left (step slots 1 1 0 none) (v, held) (get_or s.words 1 0) (w', Rattle.atomic_table.specs.Table.carried_after held a)) (sym holds) (
        w,
        gives,
        tt,
        changed stands fixed s r id v w at (λ n. refl) refl r.moments r.drawn (r.served + 1) (set s.words 1 word) (set s.homes 0 (some (Some x)))
            (length-set s.words 1 word ∙ wide)
            (get_or-set_other s.words 1 0 word 0 (λ e. omega arith) ∙ r.next)
            (get_or-set_same s.words 1 word 0 (omega arith) ∙ (omega arith))
            (recount s r 1 word (λ e. omega arith))
            (omega arith)
            r.numbered
            (λ z. let a = total-set (λ (y : V). at_ticket z y) s.views id v w at in let old = r.ticketed z in omega arith)
            (λ j u ne e. let o = r.each j u e in record {
              prefix = o.prefix;
              mine = o.mine;
              sights = o.sights;
              below = o.below;
              about = o.about;
              making = o.making;
              gone = o.gone;
              stage = others_stand (told r.moments) r.drawn r.served (told r.moments) u.live u.seen u.stage (λ ticket. ne (one_ticket stands fixed s r r.served j id u v e at ticket own)) o.stage;
            })
            (record {
              prefix = k.prefix;
              mine = k.mine;
              sights = k.sights;
              below = k.below;
              about = k.about;
              making = k.making;
              gone = k.gone;
              stage = tt;
            })
            (inl (x, one_home s.homes (some (Some x)) (len ∙ one), (subst (λ l. stands x l) st.3 good.0, good.1 ∙ ap (λ (o : Opening S). fixed o.state.value) is))),
        refl,
      )

  -- a word that threads sleep on changes, and nothing else
  pub stirs : (slots id i : ℕ) (m : M) → 2 ≤ i → i < 18 → Allows Rule slots id m i (λ n. (n + 1) % 18446744073709551616) (stirred (step slots i 1 0 none) m)
  stirs slots id i m low high s r len at small =
      let v : V = m.0 in let word : ℕ = (get_or s.words i 0 + 1) % 18446744073709551616 in let c = r.counted in
      let sum = total-set (λ (x : V). has_ticket x) s.views id v v at in let out = total-set (λ (x : V). turning x) s.views id v v at in (
        v,
        keeps,
        tt,
        changed stands fixed s r id v v at (λ n. refl) refl r.moments r.drawn r.served (set s.words i word) s.homes
            (length-set s.words i word ∙ r.wide)
            (get_or-set_other s.words i 0 word 0 (λ e. omega arith) ∙ r.next)
            (get_or-set_other s.words i 1 word 0 (λ e. omega arith) ∙ r.serving)
            (recount s r i word (λ e. omega arith))
            (omega arith)
            r.numbered
            (λ t. let a = total-set (λ (x : V). at_ticket t x) s.views id v v at in let old = r.ticketed t in omega arith)
            (λ j u ne e. r.each j u e)
            (r.each id v at)
            (⊎_elim (λ h. inl h) (λ (o : 1 ≤ total (λ (x : V). turning x) s.views). inr (omega arith)) r.slot),
        refl,
      )
