use Rattle.std.proofs.Common.{◌≡◌, ℕ, suc, ◌+◌, ◌<◌, ◌≤◌, ◌-◌, rules, tests, arith, Bool, true, false, cond, not, ltb, eqb, Some, None, List, [], ◌∷◌, length, take, drop, refl, ap, sym, ◌∙◌, subst}
use Rattle.std.specs.List.{position_or_len}
use Rattle.std.proofs.lemmas.Grind.{common_steps}
use Rattle.std.proofs.lemmas.Bool.{ltb-true, ltb-false}
use Rattle.std.proofs.lemmas.Iterator.{YieldsList-from_slice}
use Rattle.std.proofs.lemmas.Iterator.Search.{position_from_yields_List}
use Rattle.script_text.specs.Reading.{cut}
use Rattle.script_text.proofs.Cuts.{Cut, cut_hit, cut_miss}
use Rattle.script_text.proofs.spelling.cut_word.Goals as goal

place_some : (b : Bool) (p k : ℕ) → Some k ≡ cond b (Some p) None → (b ≡ true) × (p ≡ k)
place_some true p k is = (refl, cc)
place_some false p k is = absurd (cc)

place_none : (b : Bool) (p : ℕ) → None ≡ cond b (Some p) None → b ≡ false
place_none true p is = absurd (cc)
place_none false p is = refl

abbrev place : List ℕ → ℕ
place line = position_or_len (λ b. eqb b 32) line

abbrev IsCutAt : List ℕ → ℕ → Type 0
IsCutAt line k = ((cut line).0 ≡ take k line) × ((cut line).1 ≡ Some (drop (suc k) line))

cut_cons : (b : ℕ) (bytes : List ℕ) (test : Bool) → eqb b 32 ≡ test → (k : ℕ) → cond (not test) (1 + place bytes) 0 ≡ k → k < suc (length bytes) → (place bytes < length bytes → IsCutAt bytes (place bytes)) → IsCutAt (b ∷ bytes) k
cut_cons b bytes true test k is lt more =
    let hit = cut_hit b bytes test in
    (ap (λ (p : Cut). p.0) hit ∙ ap (λ n. take n (b ∷ bytes)) is, ap (λ (p : Cut). p.1) hit ∙ ap (λ n. Some (drop (suc n) (b ∷ bytes))) is)
cut_cons b bytes false test k is lt more =
    let next : suc (place bytes) ≡ k = omega (arith, is) in
    let found = more (omega (arith, is, lt)) in
    let miss = cut_miss b bytes test in (
      ap (λ (p : Cut). p.0) miss ∙ ap (λ w. b ∷ w) found.0 ∙ ap (λ n. take n (b ∷ bytes)) next,
      ap (λ (p : Cut). p.1) miss ∙ found.1 ∙ ap (λ n. Some (drop (suc n) (b ∷ bytes))) next,
    )

cut_at : (line : List ℕ) → place line < length line → IsCutAt line (place line)
cut_at [] lt = absurd (omega arith)
cut_at (b ∷ bytes) lt = cut_cons b bytes (eqb b 32) refl (place (b ∷ bytes)) refl lt (cut_at bytes)

abbrev IsUncut : List ℕ → Type 0
IsUncut line = ((cut line).0 ≡ line) × ((cut line).1 ≡ None)

uncut_cons : (b : ℕ) (bytes : List ℕ) (test : Bool) → eqb b 32 ≡ test → suc (length bytes) ≤ cond (not test) (1 + place bytes) 0 → (length bytes ≤ place bytes → IsUncut bytes) → IsUncut (b ∷ bytes)
uncut_cons b bytes true test le more = absurd (omega (arith, le))
uncut_cons b bytes false test le more =
    let found = more (omega (arith, le)) in
    let miss = cut_miss b bytes test in
    (ap (λ (p : Cut). p.0) miss ∙ ap (λ w. b ∷ w) found.0, ap (λ (p : Cut). p.1) miss ∙ found.1)

uncut : (line : List ℕ) → length line ≤ place line → IsUncut line
uncut [] le = (refl, refl)
uncut (b ∷ bytes) le = uncut_cons b bytes (eqb b 32) refl le (uncut bytes)

found_at : (line : List ℕ) (k : ℕ) → Some k ≡ cond (ltb (place line) (length line)) (Some (place line)) None
    → (take k line ≡ (cut line).0) × (Some (take (length line - (k + 1)) (drop (k + 1) line)) ≡ (cut line).1)
found_at line k is =
    let found = place_some _ _ _ is in
    let at : IsCutAt line k = subst (IsCutAt line) found.1 (cut_at line (ltb-true _ _ found.0)) in
    let next : suc k ≡ k + 1 = omega arith in
    let rest : take (length line - (k + 1)) (drop (k + 1) line) ≡ drop (k + 1) line = grind (arith, common_steps) in
    (sym at.0, ap (λ r. Some r) rest ∙ ap (λ n. Some (drop n line)) (sym next) ∙ sym at.1)

not_found : (line : List ℕ) → None ≡ cond (ltb (place line) (length line)) (Some (place line)) None → IsUncut line
not_found line is = uncut line (ltb-false _ _ (place_none _ _ is))

pub returns-in-Some-clause-word : goal.returns-in-Some-clause-word
returns-in-Some-clause-word c = (found_at c.args.line.now c.in-Some.space (position_from_yields_List (λ b. eqb b 32) _ _ _ c.in-Some.ensures.ran (YieldsList-from_slice c.args.line.now cc) (λ x b q k. search (rules, tests)))).0

pub returns-in-Some-clause-rest : goal.returns-in-Some-clause-rest
returns-in-Some-clause-rest c = (found_at c.args.line.now c.in-Some.space (position_from_yields_List (λ b. eqb b 32) _ _ _ c.in-Some.ensures.ran (YieldsList-from_slice c.args.line.now cc) (λ x b q k. search (rules, tests)))).1

pub returns-in-None-clause-word : goal.returns-in-None-clause-word
returns-in-None-clause-word c = sym (not_found c.args.line.now (position_from_yields_List (λ b. eqb b 32) _ _ _ c.in-None.ensures.ran (YieldsList-from_slice c.args.line.now cc) (λ x b q k. search (rules, tests)))).0

pub returns-in-None-clause-rest : goal.returns-in-None-clause-rest
returns-in-None-clause-rest c = sym (not_found c.args.line.now (position_from_yields_List (λ b. eqb b 32) _ _ _ c.in-None.ensures.ran (YieldsList-from_slice c.args.line.now cc) (λ x b q k. search (rules, tests)))).1
