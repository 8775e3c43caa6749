use Rattle.std.proofs.Common.{◌≡◌, [], ◌∷◌, ℕ, ◌+◌, ◌<◌, ◌≤◌, ◌-◌, rules, tests, arith, Bool, true, false, cond, ltb, eqb, Some, None, List, length, take, drop, refl, ap, sym, ◌∙◌, subst}
use Rattle.std.specs.List.{position_or_len}
use Rattle.std.proofs.lemmas.Grind.{common_steps}
use Rattle.std.proofs.lemmas.Bool.{ltb-true, ltb-false}
use Rattle.std.proofs.lemmas.Iterator.{YieldsList-from_slice}
use Rattle.std.proofs.lemmas.Iterator.Search.{position_from_yields_List}
use Rattle.std.proofs.lemmas.List.Sums.{fails_before_first}
use Rattle.std.proofs.lemmas.List.Splits.{slice_split_first, slice_split_none}
use Rattle.flow_defs.specs.Stages.{pieces}
use Rattle.job_text.proofs.spelling.cut_word.Goals as goal

place_some : (b : Bool) (p k : ℕ) → Some k ≡ cond b (Some p) None → (b ≡ true) × (p ≡ k)
place_some true p k is = (refl, cc)
place_some false p k is = absurd (cc)

place_none : (b : Bool) (p : ℕ) → None ≡ cond b (Some p) None → b ≡ false
place_none true p is = absurd (cc)
place_none false p is = refl

cut_at : (line : List ℕ) (k : ℕ) → Some k ≡ cond (ltb (position_or_len (λ b. eqb b 32) line) (length line)) (Some (position_or_len (λ b. eqb b 32) line)) None
    → pieces 32 line ≡ take k line ∷ pieces 32 (take (length line - (k + 1)) (drop (k + 1) line))
cut_at line k is =
    let found = place_some _ _ _ is in
    let within : position_or_len (λ b. eqb b 32) line < length line = ltb-true _ _ found.0 in
    let cut : pieces 32 line ≡ take k line ∷ pieces 32 (drop (k + 1) line) = subst (λ n. pieces 32 line ≡ take n line ∷ pieces 32 (drop (n + 1) line)) found.1 (slice_split_first (λ b. eqb b 32) line 0 within) in
    let rest : take (length line - (k + 1)) (drop (k + 1) line) ≡ drop (k + 1) line = grind (arith, common_steps) in
    cut ∙ ap (λ r. take k line ∷ pieces 32 r) (sym rest)

not_cut : (line : List ℕ) → None ≡ cond (ltb (position_or_len (λ b. eqb b 32) line) (length line)) (Some (position_or_len (λ b. eqb b 32) line)) None
    → pieces 32 line ≡ line ∷ []
not_cut line is =
    let none : length line ≤ position_or_len (λ b. eqb b 32) line = ltb-false _ _ (place_none _ _ is) in
    slice_split_none (λ b. eqb b 32) line (λ k d lt. fails_before_first (λ b. eqb b 32) line k d (omega arith))

pub returns-in-Some : goal.returns-in-Some
returns-in-Some c =
    cut_at c.args.line.now c.in-Some.space (position_from_yields_List (λ b. eqb b 32) _ _ _ c.in-Some.ensures.ran (YieldsList-from_slice c.args.line.now cc) (λ x b q k. search (rules, tests)))

pub returns-in-None : goal.returns-in-None
returns-in-None c =
    not_cut c.args.line.now (position_from_yields_List (λ b. eqb b 32) _ _ _ c.in-None.ensures.ran (YieldsList-from_slice c.args.line.now cc) (λ x b q k. search (rules, tests)))
