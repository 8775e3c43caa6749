-- The steps on seats keep the rule: the first, a further one, one laid off, one taken in, a look at the history, one released.
use Rattle.std.proofs.Common.{replicate, le_refl, ◌≡◌, ◌≢◌, ℕ, zero, suc, ◌+◌, ◌<◌, ◌≤◌, inl, inr, ⊎_elim, true, false, cond, List, [], ◌∷◌, ◌++◌, length, set, sym, refl, ap, ◌∙◌, subst, arith, Option, Some}
use Rattle.std.proofs.lemmas.Option.{same_Some}
use mathlib.Core.Logic.{dite}
use mathlib.Core.Option.{none, some, some-injective, some-ne-none}
use native.Mathlib.Decide.{ℕ_discrete}
use lib.ListN.{get_elem?}
use lib.Seq.{set-get_or}
use Rattle.atomic_table.specs.Table.{State, Me, step, keeps, opening, Allows, Splits, Joins}
use Rattle.atomic_table.proofs.Lists.{at_set}
use Rattle.turn_cell.specs.declared.rule.View.{View}
use Rattle.turn_cell.specs.declared.rule.Past.{Past}
use Rattle.turn_cell.specs.declared.rule.Opening.{Opening}
use Rattle.turn_cell.specs.declared.rule.Stage.TheVariants.{Away}
use Rattle.turn_cell.specs.Rule.{Has, total, is_number, one_if, is_turn, tickets_of, ticket_is, weight, bears, has_ticket, at_ticket, turning, newcomer, spent, sees, past, gathering, gathers, released, but_first, maker, Stands, IsGone, Knows, Kept, met}
use Rattle.turn_cell.specs.History.{told}
use Rattle.turn_cell.proofs.Lists.{same_number, other_number, starts_itself, total-set, total-snoc, total-none, total-at, total-has, at_end}
use Rattle.turn_cell.proofs.Keeps.{bears_own, changed, rearranged, one_seat}

module _ {S F E : Type 0} (stands : S → List (ℕ × E) → Type 0) (fixed : S → F) where
  abbrev V : Type 0
  V = View (Opening S) E

  abbrev St : Type 0
  St = State (Option S) V

  abbrev Rule : St → Type 0
  Rule = Kept stands fixed

  only : (w : V) (i : ℕ) (u : V) → get_elem? (w ∷ []) i ≡ some u → w ≡ u
  only w zero u e = some-injective w u e
  only w (suc i) u e = absurd (some-ne-none u (sym e))

  pub opens : (x : S) (base : Opening S) → 0 < base.passes → base.passes < 4294967296 → stands x [] → fixed x ≡ fixed base.state.value → Rule (opening (replicate 19 0) (Some x ∷ []) (newcomer 0 1 (Some base) []))
  opens x base some_pass few none_yet is = record {
    moments = [];
    base = base;
    drawn = 0;
    served = 0;
    made = 1;
    wide = refl;
    next = refl;
    serving = refl;
    news = (omega arith, λ _. refl);
    few = few;
    fits = some_pass;
    counted = refl;
    passed = omega arith;
    numbered = λ k _. (refl, refl);
    apart = λ k. dite (ℕ_discrete k 0) (λ e. let n = same_number k 0 e in omega arith) (λ ne. let n = other_number k 0 ne in omega arith);
    ticketed = λ t. omega arith;
    each = λ i u e. subst (Knows [] base 0 0 1) (only (newcomer 0 1 (Some base) []) i u e) (record {
      prefix = ([], refl);
      mine = λ _. refl;
      sights = λ _. refl;
      below = λ _. omega arith;
      about = λ _. refl;
      making = (λ _. (refl, refl, refl));
      gone = λ p has. absurd has;
      stage = tt;
    });
    slot = inl (x, refl, (none_yet, is));
  }

  -- a spent seat knows nothing
  spent_knows : (s : St) (r : Rule s) (made : ℕ) → Knows r.moments r.base r.drawn r.served made spent
  spent_knows s r made = record {
    prefix = (told r.moments, refl);
    mine = (λ (l : false ≡ true). absurd (cc));
    sights = (λ (l : false ≡ true). absurd (cc));
    below = (λ (l : false ≡ true). absurd (cc));
    about = (λ (l : false ≡ true). absurd (cc));
    making = (λ m. absurd (omega arith));
    gone = λ p has. absurd has;
    stage = tt;
  }

  -- how many passes there are so far, the same for all
  grown : (s : St) (r : Rule s) (u : V) (made : ℕ) → r.made ≤ made → (0 < u.made → (u.made ≡ made) × (u.live ≡ true) × (u.number ≡ 0)) → Knows r.moments r.base r.drawn r.served r.made u → Knows r.moments r.base r.drawn r.served made u
  grown s r u made more making o = record {
    prefix = o.prefix;
    mine = o.mine;
    sights = o.sights;
    below = λ l. let b = o.below l in omega arith;
    about = o.about;
    making = making;
    gone = λ p has. let g = o.gone p has in let b = g.below in record { prefix = g.prefix; mine = g.mine; sights = g.sights; below = omega arith };
    stage = o.stage;
  }

  pub splits : (id : ℕ) (v : V) (base : Opening S) → v.live ≡ true → 0 < v.made → v.about ≡ Some base → v.made < base.passes → Splits Rule id v (maker v) (newcomer v.made 0 v.about v.seen)
  splits id v base live first about room s r at =
      let a : V = maker v in let w : V = newcomer v.made 0 v.about v.seen in let k = r.each id v at in let now = k.making first in let is = now.0 in
      let same : base.passes ≡ r.base.passes = ap (λ (o : Opening S). o.passes) (same_Some base r.base (sym about ∙ k.about live)) in
      let none_of : (j : ℕ) (u : V) → get_elem? s.views j ≡ some u → bears r.made u ≡ 0 = λ j u e. let o = r.each j u e in
      let inner = total-none (λ (p : Past E). is_number r.made p.number) u.gathered (λ n p f. other_number r.made p.number (λ q. let b = (o.gone p (Rattle.turn_cell.proofs.Lists.has_at u.gathered n p f)).below in omega arith)) in
      let outer : cond u.live (is_number r.made u.number) 0 ≡ 0 = (elim u.live as (λ b. (u.live ≡ b) → cond b (is_number r.made u.number) 0 ≡ 0) [ true ↦ λ l. other_number r.made u.number (λ q. let b = o.below l in omega arith) | false ↦ λ _. refl ]) refl in omega arith in
      rearranged stands fixed s r (set s.views id a ++ w ∷ []) (r.made + 1) (omega arith) (omega arith)
      (let x = total-set (λ (y : V). has_ticket y) s.views id v a at in let y = total-snoc (λ (y : V). has_ticket y) (set s.views id a) w in omega arith)
      (let x = total-set (λ (y : V). weight y) s.views id v a at in let y = total-snoc (λ (y : V). weight y) (set s.views id a) w in let p = r.passed in omega arith)
      (λ n. let x = total-set (λ (y : V). bears n y) s.views id v a at in let y = total-snoc (λ (y : V). bears n y) (set s.views id a) w in let p = r.apart n in
      dite (ℕ_discrete n r.made)
      (λ e. let z = total-none (λ (y : V). bears n y) s.views (λ j u f. ap (λ m. bears m u) e ∙ none_of j u f) in let o = same_number n v.made (e ∙ sym is) in omega arith)
      (λ ne. let o = other_number n v.made (λ e. ne (e ∙ is)) in omega arith))
      (λ t. let x = total-set (λ (y : V). at_ticket t y) s.views id v a at in let y = total-snoc (λ (y : V). at_ticket t y) (set s.views id a) w in omega arith)
      (let x = total-set (λ (y : V). turning y) s.views id v a at in let y = total-snoc (λ (y : V). turning y) (set s.views id a) w in omega arith)
      (λ i u e. ⊎_elim
      (λ (p : get_elem? (set s.views id a) i ≡ some u). ⊎_elim
      (λ (q : (i ≡ id) × (a ≡ u)). subst (Knows r.moments r.base r.drawn r.served (r.made + 1)) q.1 (record {
        prefix = k.prefix;
        mine = k.mine;
        sights = k.sights;
        below = (λ l. let b = k.below l in omega arith);
        about = k.about;
        making = (λ _. (ap (λ m. m + 1) is, live, now.2));
        gone = λ p has. let g = k.gone p has in let b = g.below in record { prefix = g.prefix; mine = g.mine; sights = g.sights; below = omega arith };
        stage = k.stage;
      }))
      (λ (q : (i ≢ id) × (get_elem? s.views i ≡ some u)). let o = r.each i u q.1 in
      grown s r u (r.made + 1) (omega arith) (λ m. let b = o.making m in absurd (q.0 (sym (one_seat stands fixed s r id i v u at q.1 live (subst (λ n. 1 ≤ bears n u) (b.2 ∙ sym now.2) (bears_own u b.1)))))) o)
      (at_set s.views id i a u p))
      (λ (p : (i ≡ length (set s.views id a)) × (w ≡ u)). subst (Knows r.moments r.base r.drawn r.served (r.made + 1)) p.1 (record {
        prefix = k.prefix;
        mine = λ _. (r.numbered v.made (omega arith)).0;
        sights = λ _. (r.numbered v.made (omega arith)).1;
        below = λ _. omega arith;
        about = λ _. k.about live;
        making = λ m. absurd (omega arith);
        gone = λ p has. absurd has;
        stage = tt;
      }))
      (at_end (set s.views id a) w u i e))

  pub lays_off : (id : ℕ) (v : V) → Splits Rule id v spent v
  lays_off id v s r at =
      let vs : List V = set s.views id spent in
      let sums : (f : V → ℕ) → f spent ≡ 0 → total f (vs ++ v ∷ []) ≡ total f s.views = λ f z. let x = total-set f s.views id v spent at in let y = total-snoc f vs v in omega arith in
      let p = r.passed in let w = sums (λ (y : V). weight y) refl in
      rearranged stands fixed s r (vs ++ v ∷ []) r.made (le_refl r.made) r.fits
      (sums (λ (y : V). has_ticket y) refl)
      (omega arith)
      (λ n. let x = sums (λ (y : V). bears n y) refl in let a = r.apart n in omega arith)
      (λ t. let x = sums (λ (y : V). at_ticket t y) refl in omega arith)
      (let x = sums (λ (y : V). turning y) refl in omega arith)
      (λ i u e. ⊎_elim
      (λ (q : get_elem? vs i ≡ some u). ⊎_elim
      (λ (z : (i ≡ id) × (spent ≡ u)). subst (Knows r.moments r.base r.drawn r.served r.made) z.1 (spent_knows s r r.made))
      (λ (z : (i ≢ id) × (get_elem? s.views i ≡ some u)). r.each i u z.1)
      (at_set s.views id i spent u q))
      (λ (q : (i ≡ length vs) × (v ≡ u)). subst (Knows r.moments r.base r.drawn r.served r.made) q.1 (r.each id v at))
      (at_end vs v u i e))

  pub joins : (id : ℕ) (v : V) (other : ℕ) (w : V) → w.live ≡ true → w.stage ≡ Away → w.gathered ≡ [] → Joins Rule id v other w (gathers v w) spent
  joins id v other w live away none_in s r at apart there_w =
      let b : V = gathers v w in let vs : List V = set s.views id b in let us : List V = set vs other spent in
      let at_w : get_elem? s.views other ≡ some w = sym (Rattle.atomic_table.proofs.Lists.set_else s.views id other b apart) ∙ there_w in
      let kw = r.each other w at_w in let kv = r.each id v at in
      let sums : (f : V → ℕ) → f b ≡ f v + f w → f spent ≡ 0 → total f us ≡ total f s.views = λ f e z. let x = total-set f s.views id v b at in let y = total-set f vs other w spent there_w in omega arith in
      let t0 : tickets_of w.stage ≡ 0 = ap tickets_of away in
      let heavy : weight w ≡ 1 = (λ i. one_if (live i) + length (none_in i)) in
      let bearing : (n : ℕ) → bears n w ≡ is_number n w.number = λ n. (λ i. cond (live i) (is_number n w.number) 0 + total (λ (p : Past E). is_number n p.number) (none_in i)) ∙ omega arith in
      let p = r.passed in let sw = sums (λ (y : V). weight y) (omega arith) refl in
      rearranged stands fixed s r us r.made (le_refl r.made) r.fits
      (sums (λ (y : V). has_ticket y) (omega arith) refl)
      (omega arith)
      (λ n. let e = bearing n in let x = sums (λ (y : V). bears n y) (omega arith) refl in let a = r.apart n in omega arith)
      (λ t. let e : ticket_is t w.stage ≡ 0 = ap (ticket_is t) away in let x = sums (λ (y : V). at_ticket t y) (omega arith) refl in omega arith)
      (let e : one_if (is_turn w.stage) ≡ 0 = ap (λ z. one_if (is_turn z)) away in let x = sums (λ (y : V). turning y) (omega arith) refl in omega arith)
      (λ i u e. ⊎_elim
      (λ (z : (i ≡ other) × (spent ≡ u)). subst (Knows r.moments r.base r.drawn r.served r.made) z.1 (spent_knows s r r.made))
      (λ (z : (i ≢ other) × (get_elem? vs i ≡ some u)). ⊎_elim
      (λ (q : (i ≡ id) × (b ≡ u)). subst (Knows r.moments r.base r.drawn r.served r.made) q.1 (record {
        prefix = kv.prefix;
        mine = kv.mine;
        sights = kv.sights;
        below = kv.below;
        about = kv.about;
        making = kv.making;
        gone = λ p has. ⊎_elim
            (λ (h : p ≡ past w). subst (IsGone r.moments r.made) (sym h) (record { prefix = kw.prefix; mine = kw.mine live; sights = kw.sights live; below = kw.below live }))
            (λ (h : Has p v.gathered). kv.gone p h) has;
        stage = kv.stage;
      }))
      (λ (q : (i ≢ id) × (get_elem? s.views i ≡ some u)). r.each i u q.1)
      (at_set s.views id i b u z.1))
      (at_set vs other i spent u e))

  pub learns : (slots id : ℕ) (m : Me (Option S) V) → m.0.live ≡ true → m.0.stage ≡ Away → Allows Rule slots id m 18 (λ n. n) (met (step slots 18 0 0 none) m)
  learns slots id m live away s r len at small =
      let v : V = m.0 in let w : V = sees v (told r.moments) in let k = r.each id v at in let c = r.counted in let sum = total-set (λ (x : V). has_ticket x) s.views id v w at in (
        w,
        keeps,
        tt,
        subst (λ (ws : List ℕ). Rule record { words = ws; homes = s.homes; views = set s.views id w }) (sym (set-get_or s.words 18 0))
            (changed stands fixed s r id v w at (λ n. refl) refl r.moments r.drawn r.served s.words s.homes r.wide r.next r.serving r.news (omega arith) r.numbered
            (λ t. let a = total-set (λ (x : V). at_ticket t x) s.views id v w at in let old = r.ticketed t in omega arith)
            (λ j u ne e. r.each j u e)
            (record { prefix = starts_itself (told r.moments); mine = k.mine; sights = k.sights; below = k.below; about = k.about; making = k.making; gone = k.gone; stage = subst (Stands (told r.moments) r.drawn r.served v.live (told r.moments)) (sym away) tt })
            (⊎_elim (λ h. inl h) (λ (o : 1 ≤ total (λ (x : V). turning x) s.views). let b = total-set (λ (x : V). turning x) s.views id v w at in inr (omega arith)) r.slot)),
        (told r.moments, refl, r.news, k.prefix, k.mine live, λ p has. let g = k.gone p has in (g.prefix, g.mine)),
      )

  pub releases : (id : ℕ) (v : V) (p : Past E) → v.live ≡ true → v.gathered ≡ p ∷ [] → v.stage ≡ Away → Splits Rule id v (gathering v (but_first v.gathered)) (released v.about v.seen v.gathered)
  releases id v p live has_one away s r at = subst (λ l. Rule record { words = s.words; homes = s.homes; views = set s.views id (gathering v (but_first l)) ++ released v.about v.seen l ∷ [] }) (sym has_one)
      (let a : V = gathering v [] in let w : V = released v.about v.seen (p ∷ []) in let vs : List V = set s.views id a in let k = r.each id v at in
      let g = k.gone p (subst (Has p) (sym has_one) (inl refl)) in
      let sums : (f : V → ℕ) → f a + f w ≡ f v → total f (vs ++ w ∷ []) ≡ total f s.views = λ f z. let x = total-set f s.views id v a at in let y = total-snoc f vs w in omega arith in
      let heavy : length v.gathered ≡ 1 = ap length has_one in
      let bearing : (n : ℕ) → total (λ (q : Past E). is_number n q.number) v.gathered ≡ is_number n p.number = λ n. ap (total (λ (q : Past E). is_number n q.number)) has_one ∙ omega arith in
      let b = r.passed in let sw = sums (λ (y : V). weight y) (omega arith) in
      rearranged stands fixed s r (vs ++ w ∷ []) r.made (le_refl r.made) r.fits
      (sums (λ (y : V). has_ticket y) (omega arith))
      (omega arith)
      (λ n. let e = bearing n in let x = sums (λ (y : V). bears n y) (omega arith) in let c = r.apart n in omega arith)
      (λ t. let x = sums (λ (y : V). at_ticket t y) (omega arith) in omega arith)
      (let x = sums (λ (y : V). turning y) (omega arith) in omega arith)
      (λ i u e. ⊎_elim
      (λ (q : get_elem? vs i ≡ some u). ⊎_elim
      (λ (z : (i ≡ id) × (a ≡ u)). subst (Knows r.moments r.base r.drawn r.served r.made) z.1 (record { prefix = k.prefix; mine = k.mine; sights = k.sights; below = k.below; about = k.about; making = k.making; gone = λ q none_in. absurd none_in; stage = k.stage }))
      (λ (z : (i ≢ id) × (get_elem? s.views i ≡ some u)). r.each i u z.1)
      (at_set s.views id i a u q))
      (λ (q : (i ≡ length vs) × (w ≡ u)). subst (Knows r.moments r.base r.drawn r.served r.made) q.1 (record { prefix = k.prefix; mine = λ _. g.mine; sights = λ _. g.sights; below = λ _. g.below; about = λ _. k.about live; making = λ m. absurd (omega arith); gone = λ q none_in. absurd none_in; stage = tt }))
      (at_end vs w u i e)))
