-- What the end of a cell tells of all its passes.
use Rattle.std.proofs.Common.{◌≡◌, ℕ, zero, suc, ◌<◌, ◌≤◌, ◌⊎◌, inl, inr, ⊎_elim, true, List, [], ◌∷◌, ◌++◌, length, sym, refl, ap, ◌∙◌, subst, arith, append_assoc, Option, Some}
use Rattle.std.proofs.lemmas.Option.{same_Some}
use mathlib.Core.Option.{some, some-injective}
use lib.ListN.{get_elem?}
use Rattle.atomic_table.specs.Table.{State, Seen, Final}
use Rattle.atomic_table.proofs.Lists.{at_last, at_longer}
use Rattle.atomic_table.specs.declared.shared.Seat.{Seat}
use Rattle.turn_cell.specs.declared.cell.TurnCell.{TurnCell}
use Rattle.turn_cell.specs.declared.pass.Pass.{Pass}
use Rattle.turn_cell.specs.declared.rule.View.{View}
use Rattle.turn_cell.specs.declared.rule.Past.{Past}
use Rattle.turn_cell.specs.declared.rule.Opening.{Opening}
use Rattle.turn_cell.specs.declared.rule.Stage.TheVariants.{Away, Turns}
use Rattle.turn_cell.specs.History.{by, StartsWith, told, seen_by}
use Rattle.turn_cell.specs.Rule.{Has, total, is_number, ticket_of, bears, turning, IsGood, Home, Kept}
use Rattle.turn_cell.specs.Passes.{IsPassOf, number, seen, mine, sights, passes_of}
use Rattle.turn_cell.specs.Closing.{AreAll, IsWhole}
use Rattle.turn_cell.specs.Steps.{IsIdle, IsAsBefore, gathered, past_of}
use Rattle.turn_cell.proofs.Lists.{same_number, total-has, total-some, at_end, has_at}
use Rattle.turn_cell.proofs.Keeps.{turns_here, turn_is, turning_is, bears_own, one_seat}
use Rattle.turn_cell.proofs.Weighing.{weighs}

module _ {A : Type 0} where
  pub none_left : (xs ys zs : List A) → xs ≡ ys ++ zs → length ys ≡ 0 → xs ≡ zs
  none_left xs [] zs e l = e
  none_left xs (y ∷ ys) zs e l = absurd (omega arith)

  some_at : (l : List A) (i : ℕ) → i < length l → (a : A) × (get_elem? l i ≡ some a)
  some_at [] i h = absurd (omega arith)
  some_at (x ∷ xs) zero h = (x, refl)
  some_at (x ∷ xs) (suc i) h = some_at xs i (omega arith)

module _ {S E F : Type 0} where
  -- the passes that were popped are among those taken in
  abbrev Taken : List (Pass S E F) → List (Pass S E F) → List (Past E) → Type 0
  Taken xs rest past = (done : List (Pass S E F)) × (xs ≡ rest ++ done) × ((p : Pass S E F) → Has p done → Has (past_of p) past)

  pub takes_more : (xs all rest : List (Pass S E F)) (p : Pass S E F) (old new : List (Past E)) → all ≡ rest ++ p ∷ [] → new ≡ past_of p ∷ old → Taken xs all old → Taken xs rest new
  takes_more xs all rest p old new e grown t = (
    p ∷ t.0,
    t.1 ∙ (ap (λ l. l ++ t.0) e ∙ append_assoc rest (p ∷ []) t.0),
    λ q has. subst (Has (past_of q)) (sym grown) (⊎_elim (λ (same : q ≡ p). inl (ap past_of same)) (λ (before : Has q t.0). inr (t.2 q before)) has),
  )

  pub last_of : (cell : TurnCell S E F) (ps rest : List (Pass S E F)) (last : Pass S E F) → ps ≡ rest ++ last ∷ [] → AreAll cell ps → IsPassOf cell last × (number last ≡ length rest)
  last_of cell ps rest last e all = all.1 (length rest) last (ap (λ l. get_elem? l (length rest)) e ∙ at_last rest last (length rest) refl)

  pub others_of : (cell : TurnCell S E F) (ps rest : List (Pass S E F)) (last : Pass S E F) → ps ≡ rest ++ last ∷ [] → AreAll cell ps → (k : ℕ) (p : Pass S E F) → get_elem? rest k ≡ some p → IsPassOf cell p
  others_of cell ps rest last e all k p at = (all.1 k p (ap (λ l. get_elem? l k) e ∙ at_longer rest (last ∷ []) k p at)).0

module _ {S E F : Type 0} (stands : S → List (ℕ × E) → Type 0) (fixed : S → F) where
  abbrev V : Type 0
  V = View (Opening S) E

  -- what a seat that took in all others knows at the end
  abbrev pub Ended : Opening S → V → S → Type 0
  Ended base v x = (moments : List (ℕ × Option E)) × IsGood stands fixed base (told moments) x × StartsWith (told moments) v.seen × (by v.number (told moments) ≡ v.mine)
      × ((p : Past E) → Has p v.gathered → StartsWith (told moments) p.seen × (by p.number (told moments) ≡ p.mine) × (seen_by p.number moments ≡ p.sights)) × ((k : ℕ) → base.passes ≤ k → by k (told moments) ≡ []) × (seen_by v.number moments ≡ v.sights)

  closes : (id : ℕ) (v : V) (base : Opening S) (ws : List ℕ) (xs : List (Option S)) → v.live ≡ true → v.stage ≡ Away → v.about ≡ Some base
      → ((k : ℕ) → k < base.passes → 1 ≤ bears k v) → Final (Seen (Kept stands fixed) id v) ws xs → (x : S) × (get_elem? xs 0 ≡ some (Some x)) × Ended base v x
  closes id v base ws xs live away about all f =
      let s : State (Option S) V = f.0 in let r : Kept stands fixed s = f.1.0 in let at : get_elem? s.views id ≡ some v = f.1.1 in let k = r.each id v at in
      let is : r.base ≡ base = same_Some r.base base (sym (k.about live) ∙ about) in
      let count : r.base.passes ≡ base.passes = ap (λ (o : Opening S). o.passes) is in let fits = r.fits in
      let h : Home stands fixed r.base (told r.moments) s.homes = ⊎_elim (λ h. h) (λ (out : 1 ≤ total (λ (x : V). turning x) s.views).
      let o = total-some (λ (x : V). turning x) s.views out in let i : ℕ = o.0 in let u : V = o.1 in
      let on : u.stage ≡ Turns (ticket_of u.stage) = turn_is u.stage (turning_is u.stage o.3) in
      let t = turns_here (told r.moments) r.drawn r.served u.live u.seen u.stage (ticket_of u.stage) on (r.each i u o.2).stage in
      let low = (r.each i u o.2).below t.0 in
      let same : i ≡ id = one_seat stands fixed s r i id u v o.2 at t.0 (all u.number (omega arith)) in
      let eq : u ≡ v = some-injective u v (sym o.2 ∙ (ap (get_elem? s.views) same ∙ at)) in
      let no : Turns (ticket_of u.stage) ≡ Away = sym on ∙ (ap (λ (x : V). x.stage) eq ∙ away) in absurd (cc)) r.slot in (
        h.0,
        f.4 0 (Some h.0) (ap (λ l. get_elem? l 0) h.1),
        (r.moments, (h.2.0, h.2.1 ∙ ap (λ (o : Opening S). fixed o.state.value) is), k.prefix, k.mine live, λ p has. (let g = k.gone p has in (g.prefix, g.mine, g.sights)), λ j m. (r.numbered j (omega arith)).0, k.sights live),
      )

  pub wholes : (cell : TurnCell S E F) (ps rest : List (Pass S E F)) (last end : Pass S E F) (seat : Seat (Option S) (View (Opening S) E)) (ws : List ℕ) (xs : List (Option S)) → ps ≡ rest ++ last ∷ [] → AreAll cell ps
      → IsIdle cell end → IsAsBefore last end → ((p : Pass S E F) → Has p rest → Has (past_of p) (gathered end)) → seat ≡ end.seat → Final (Seen (Kept stands fixed) seat.id seat.me.0) ws xs
      → (x : S) × (get_elem? xs 0 ≡ some (Some x)) × IsWhole stands fixed cell ps x
  wholes cell ps rest last end seat ws xs e all idle same has is ended =
      let f = subst (λ (z : Seat (Option S) (View (Opening S) E)). Final (Seen (Kept stands fixed) z.id z.me.0) ws xs) is ended in
      let v : V = end.seat.me.0 in let l = last_of cell ps rest last e all in
      let at : (k : ℕ) (p : Pass S E F) → get_elem? ps k ≡ some p → (get_elem? rest k ≡ some p) ⊎ ((k ≡ length rest) × (last ≡ p)) = λ k p h. at_end rest last p k (ap (λ z. get_elem? z k) (sym e) ∙ h) in
      let every : (k : ℕ) → k < passes_of cell → 1 ≤ bears k v = λ k low. let q = some_at ps k (let n = all.0 in omega arith) in let is = (all.1 k q.0 q.1).1 in ⊎_elim
      (λ (among : get_elem? rest k ≡ some q.0). let a = total-has (λ (p : Past E). is_number k p.number) v.gathered (past_of q.0) (has q.0 (has_at rest k q.0 among)) in let b = same_number k (number q.0) (sym is) in omega arith)
      (λ (here : (k ≡ length rest) × (last ≡ q.0)). subst (λ (n : ℕ). 1 ≤ bears n v) (same.0.0 ∙ (l.1 ∙ sym here.0)) (bears_own v idle.2))
      (at k q.0 q.1) in
      let w = closes end.seat.id v cell.table.shared.key ws xs idle.2 idle.4 idle.3 every f in let log : List (ℕ × E) = told w.2.0 in
      let begins : (k : ℕ) (p : Pass S E F) → get_elem? ps k ≡ some p → StartsWith log (seen p) = λ k p h. ⊎_elim
      (λ (among : get_elem? rest k ≡ some p). (w.2.4 (past_of p) (has p (has_at rest k p among))).0)
      (λ (here : (k ≡ length rest) × (last ≡ p)). subst (StartsWith log) (same.1 ∙ ap seen here.1) w.2.2)
      (at k p h) in
      let own : (k : ℕ) (p : Pass S E F) → get_elem? ps k ≡ some p → by k log ≡ mine p = λ k p h. ⊎_elim
      (λ (among : get_elem? rest k ≡ some p). ap (λ n. by n log) (sym (all.1 k p h).1) ∙ (w.2.4 (past_of p) (has p (has_at rest k p among))).1)
      (λ (here : (k ≡ length rest) × (last ≡ p)). ap (λ n. by n log) (here.0 ∙ (sym l.1 ∙ sym same.0.0)) ∙ (w.2.3 ∙ (same.0.1 ∙ ap mine here.1)))
      (at k p h) in
      let saw : (k : ℕ) (p : Pass S E F) → get_elem? ps k ≡ some p → seen_by k w.2.0 ≡ sights p = λ k p h. ⊎_elim
      (λ (among : get_elem? rest k ≡ some p). ap (λ n. seen_by n w.2.0) (sym (all.1 k p h).1) ∙ (w.2.4 (past_of p) (has p (has_at rest k p among))).2)
      (λ (here : (k ≡ length rest) × (last ≡ p)). ap (λ n. seen_by n w.2.0) (here.0 ∙ (sym l.1 ∙ sym same.0.0)) ∙ (w.2.6 ∙ (same.2 ∙ ap sights here.1)))
      (at k p h) in
      let no_other : (k : ℕ) → length ps ≤ k → by k log ≡ [] = λ k high. w.2.5 k (let n = all.0 in omega arith) in (
        w.0,
        w.1,
        record {
          history = log;
          stands_for = w.2.1;
          whole = record { begins = begins; own = own; no_other = no_other };
          moments = w.2.0;
          tells = refl;
          saw = saw;
          weighs = λ weight. weighs mine weight log ps own no_other;
        },
      )

  pub slot_is : (xs : List (Option S)) (slot : Option S) (x : S) → get_elem? xs 0 ≡ some slot → get_elem? xs 0 ≡ some (Some x) → slot ≡ Some x
  slot_is xs slot x e e' = some-injective slot (Some x) (sym e ∙ e')
